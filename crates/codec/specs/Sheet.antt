-- Document 01's sheets as data: what a body consists of, and what an answer is. Assumes nothing.
use Rattle.std.specs.Prelude.{ℕ, ◌+◌, ◌*◌, List, [], ◌∷◌, length, get_or}

-- a field of bits: how many, its least and its greatest value
pub data Field : Type 0 where
  field : ℕ → ℕ → ℕ → Field

-- an item: so many bytes that hold fields, the last in the lowest bits (bits above the first field are written 0 and ignored
-- on reading); or a text of so many to so many nonzero bytes, then 00
pub data Item : Type 0 where
  packed : ℕ → List Field → Item
  text : ℕ → ℕ → Item

-- a sub-command and its items
pub data Row : Type 0 where
  row : ℕ → List Item → Row

-- what a body says: its sub-command, and the values of its items (a list of values for each item; of a text, its bytes)
pub data Said : Type 0 where
  said : ℕ → List (List ℕ) → Said

-- an answer: a value, or one of 01's numbers and a place ("A refusal for which no place is stated has place 0")
pub data Answer (A : Type 0) : Type 0 where
  got : A → Answer A
  refused : ℕ → ℕ → Answer A

abbrev pub and_then : {A B : Type 0} → Answer A → (A → Answer B) → Answer B
and_then (got a) go = go a
and_then (refused n p) go = refused n p

-- a number of so many bytes, with its range
abbrev pub number : ℕ → ℕ → ℕ → Item
number w lo hi = packed w (field (8 * w) lo hi ∷ [])

abbrev pub byte : Item
byte = number 1 0 255

abbrev pub word : Item
word = number 2 0 65535

abbrev pub long : Item
long = number 4 0 4294967295

-- "A flag is 0 or 1."
abbrev pub flag : Item
flag = number 1 0 1

abbrev pub widths : List Field → List ℕ
widths [] = []
widths (field b lo hi ∷ fs) = b ∷ widths fs

-- how many bytes an item takes
abbrev pub size_of : Item → List ℕ → ℕ
size_of (packed w fs) v = w
size_of (text least most) v = length v + 1

abbrev pub first : List ℕ → ℕ
first [] = 0
first (v ∷ vs) = v

-- the first value of item i
abbrev pub item_number : List (List ℕ) → ℕ → ℕ
item_number vs i = first (get_or vs i [])

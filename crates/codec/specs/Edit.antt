-- A value of a body replaced: where it stands follows from the sheet. Assumes nothing.
use Rattle.std.specs.Prelude.{ℕ, zero, suc, ◌+◌, ◌-◌, ◌*◌, ◌/◌, ◌%◌, Bool, true, false, List, [], ◌∷◌, get_or, set, ltb}
use Rattle.codec.specs.Pick.{pick}
use Rattle.codec.specs.Digits.{sum}
use Rattle.codec.specs.Sheet.{Field, field, Item, size_of}

-- "that one item equal to the new number and every other item as it was": field j of item i equal to n
abbrev pub set_value : List (List ℕ) → ℕ → ℕ → ℕ → List (List ℕ)
set_value vs i j n = set vs i (set (get_or vs i []) j n)

-- the bytes before item i
abbrev pub place_of : List Item → List (List ℕ) → ℕ → ℕ
place_of [] vs i = 0
place_of (t ∷ is) [] i = 0
place_of (t ∷ is) (v ∷ vs) zero = 0
place_of (t ∷ is) (v ∷ vs) (suc i) = size_of t v + place_of is vs i

-- the bits below digit j
abbrev pub below : List ℕ → ℕ → ℕ
below [] j = 0
below (b ∷ bs) zero = sum bs
below (b ∷ bs) (suc j) = below bs j

-- the number x with n in place of its digit of m values, in units of u
abbrev pub replaced : ℕ → ℕ → ℕ → ℕ → ℕ
replaced u m x n = x - x / u % m * u + n * u

abbrev pub in_field : Field → ℕ → Bool
in_field (field b lo hi) n = pick (ltb n lo) false (pick (ltb hi n) false true)

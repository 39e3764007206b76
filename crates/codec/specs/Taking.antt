-- Items read at a place, and taken from the front as a Reader does: what is answered, and the bytes still to come. Assumes nothing.
use Rattle.std.specs.Prelude.{Result, Bool}
use Rattle.codec.specs.declared.refusal.Refusal.{Refusal}
use Rattle.std.specs.Prelude.{ℕ, ◌≡◌, List, [], ◌∷◌, drop, eqb}
use Rattle.codec.specs.Pick.{pick}
use Rattle.codec.specs.Sheet.{Field, Item, packed, text, Row, row, Said, said, Answer, got, refused, and_then, flag, size_of}
use Rattle.codec.specs.Reading.{read_item, read_items}
use Rattle.codec.specs.Told.{told_number, at_most, told_flag, told_text, text_in}
use Rattle.codec.specs.declared.reader.TextRead.{TextRead}

-- READING an item at the front of s answers r: a number at most so high
abbrev pub ReadsNumber : Item → ℕ → Result ℕ Refusal → List ℕ → Type 0
ReadsNumber i high r s = (told_number r ≡ read_item i s) × at_most high r

-- a text of at most so many bytes, at a place of s
abbrev pub ReadsText : ℕ → Result TextRead Refusal → List ℕ → ℕ → Type 0
ReadsText most r s at = (told_text s at r ≡ read_item (text 0 most) (drop at s)) × text_in s at r

-- the bytes still to come: those behind the item; after a refusal, none
abbrev pub behind_item : Item → Answer (List ℕ) → List ℕ → List ℕ
behind_item i (got v) s = drop (size_of i v) s
behind_item i (refused n p) s = []

-- TAKING an item from the front of s answers a and leaves s'
abbrev pub Takes : Item → Answer (List ℕ) → List ℕ → List ℕ → Type 0
Takes i a s s' = (a ≡ read_item i s) × (s' ≡ behind_item i a s)

-- a number at most so high, a flag, a text: what answers is r
abbrev pub TakesNumber : Item → ℕ → Result ℕ Refusal → List ℕ → List ℕ → Type 0
TakesNumber i high r s s' = Takes i (told_number r) s s' × at_most high r

abbrev pub TakesFlag : Result Bool Refusal → List ℕ → List ℕ → Type 0
TakesFlag r s s' = Takes flag (told_flag r) s s'

abbrev pub TakesText : Result TextRead Refusal → List ℕ → List ℕ → Type 0
TakesText r s s' = Takes (text 0 51) (told_text s 0 r) s s' × text_in s 0 r

-- For contracts of private functions, nobody has to believe what follows. The bytes behind a number of n bytes, whatever its fields
abbrev pub BehindNumber : ℕ → Answer (List ℕ) → List ℕ → List ℕ → Type 0
BehindNumber n a s s' = (fs : List Field) → s' ≡ behind_item (packed n fs) a s

-- the bytes behind a text that is there
abbrev pub BehindText : Result TextRead Refusal → List ℕ → List ℕ → Type 0
BehindText r s s' = text_in s 0 r → s' ≡ behind_item (text 0 51) (told_text s 0 r) s

-- answers of items, judged in their order
abbrev pub in_turn : List (Answer (List ℕ)) → Answer (List (List ℕ))
in_turn [] = got []
in_turn (a ∷ more) = and_then a (λ v. and_then (in_turn more) (λ vs. got (v ∷ vs)))

-- the items of a sub-command's row, from the bytes behind the sub-command
abbrev pub read_behind : List Row → List ℕ → ℕ → Answer Said
read_behind [] s sub = refused 2 0
read_behind (row k is ∷ rs) s sub =
    pick (eqb sub k) (and_then (read_items is s 0) (λ vs. got (said k vs))) (read_behind rs s sub)

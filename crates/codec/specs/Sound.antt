-- What the laws ask of a sheet: each is computed of every sheet. Assumes nothing.
use Rattle.std.specs.Prelude.{ℕ, ◌*◌, ◌^◌, Bool, true, false, List, [], ◌∷◌, length, leb, ltb, eqb}
use Rattle.codec.specs.Pick.{pick}
use Rattle.codec.specs.Digits.{sum}
use Rattle.codec.specs.Sheet.{Field, field, Item, packed, text, Row, row, Said, said, widths}
use Rattle.codec.specs.Writing.{items_of}

-- the fields have room in their bytes, and each range in its bits
abbrev pub sound_fields : List Field → Bool
sound_fields [] = true
sound_fields (field b lo hi ∷ fs) = pick (ltb hi (2 ^ b)) (sound_fields fs) false

abbrev pub sound_item : Item → Bool
sound_item (packed w fs) = pick (leb (sum (widths fs)) (8 * w)) (sound_fields fs) false
sound_item (text least most) = true

abbrev pub sound_items : List Item → Bool
sound_items [] = true
sound_items (i ∷ is) = pick (sound_item i) (sound_items is) false

abbrev pub sound_rows : List Row → Bool
sound_rows [] = true
sound_rows (row k is ∷ rs) = pick (ltb k 256) (pick (sound_items is) (sound_rows rs) false) false

abbrev pub has_row : List Row → ℕ → Bool
has_row [] sub = false
has_row (row k is ∷ rs) sub = pick (eqb sub k) true (has_row rs sub)

-- a body that a command can say: its row is there, with a value for each item
abbrev pub known : List Row → Said → Bool
known rs (said sub vs) = pick (has_row rs sub) (pick (ltb sub 256) (eqb (length (items_of rs sub)) (length vs)) false) false

-- the item uses all bits of its bytes: what is read is what would be written
abbrev pub exact_item : Item → Bool
exact_item (packed w fs) = eqb (sum (widths fs)) (8 * w)
exact_item (text least most) = true

abbrev pub exact_items : List Item → Bool
exact_items [] = true
exact_items (i ∷ is) = pick (exact_item i) (exact_items is) false

-- Document 01, "Writing order", for a body and its room. Assumes nothing.
use Rattle.std.specs.Prelude.{ℕ, zero, suc, ◌+◌, Bool, true, false, List, [], ◌∷◌, ◌++◌, length, leb, ltb, eqb}
use Rattle.std.proofs.lemmas.List.Edits.{sets}
use Rattle.codec.specs.Pick.{pick}
use Rattle.codec.specs.Digits.{join, bytes_of}
use Rattle.codec.specs.Sheet.{Item, packed, text, Row, row, Said, said, Answer, got, refused, widths, size_of}
use Rattle.codec.specs.Reading.{within, shorter}

abbrev pub nonzero : List ℕ → Bool
nonzero [] = true
nonzero (b ∷ s) = pick (eqb b 0) false (nonzero s)

-- the value of an item is within its range
abbrev pub ok_item : Item → List ℕ → Bool
ok_item (packed w fs) v = within fs v
ok_item (text least most) v = pick (shorter least v) false (pick (leb (length v) most) (nonzero v) false)

abbrev pub ok_items : List Item → List (List ℕ) → Bool
ok_items [] [] = true
ok_items [] (v ∷ vs) = false
ok_items (i ∷ is) [] = false
ok_items (i ∷ is) (v ∷ vs) = pick (ok_item i v) (ok_items is vs) false

abbrev pub item_bytes : Item → List ℕ → List ℕ
item_bytes (packed w fs) v = bytes_of w (join (widths fs) v)
item_bytes (text least most) v = v ++ 0 ∷ []

abbrev pub write_items : List Item → List (List ℕ) → List ℕ
write_items [] vs = []
write_items (i ∷ is) [] = []
write_items (i ∷ is) (v ∷ vs) = item_bytes i v ++ write_items is vs

abbrev pub items_of : List Row → ℕ → List Item
items_of [] sub = []
items_of (row k is ∷ rs) sub = pick (eqb sub k) is (items_of rs sub)

-- THE bytes of a body
abbrev pub write_body : List Row → Said → List ℕ
write_body rs (said sub vs) = sub ∷ write_items (items_of rs sub) vs

-- The number that stops writing; 0: none. Item by item: a value out of range 2, then no room (3; in a constructor 1)
abbrev pub stop_each : ℕ → ℕ → ℕ → List Item → List (List ℕ) → ℕ
stop_each full room at [] vs = 0
stop_each full room at (i ∷ is) [] = 0
stop_each full room at (i ∷ is) (v ∷ vs) =
    pick (ok_item i v) (pick (ltb room (at + size_of i v)) full (stop_each full room (at + size_of i v) is vs)) 2

-- "LED takes its items in order: sub-command and time need room; each colour is judged (2), then needs room. The others look at
-- room only": their values are always in range
abbrev pub stop_in_order : List Row → ℕ → Said → ℕ
stop_in_order rs room (said sub vs) = pick (ltb room 1) 3 (stop_each 3 room 1 (items_of rs sub) vs)

-- no room for so many bytes
abbrev pub stop_room : ℕ → ℕ → ℕ
stop_room room n = pick (ltb room n) 3 0

-- "VTX and ACK look at values first (2), then at room (3)."
abbrev pub stop_values_first : List Row → ℕ → Said → ℕ
stop_values_first rs room (said sub vs) =
    pick (ok_items (items_of rs sub) vs) (stop_room room (length (write_body rs (said sub vs)))) 2

-- what writing answers: the count n, or the number that stops it
abbrev pub counted : ℕ → ℕ → Answer ℕ
counted zero n = got n
counted (suc k) n = refused (suc k) 0

-- the bytes it leaves: "the first n bytes are" what is written, "the rest keep theirs"; refused, all keep theirs
abbrev pub leaves : ℕ → List ℕ → List ℕ → List ℕ
leaves zero w s = sets s 0 w
leaves (suc k) w s = s

-- bytes put at a place where all of them have room; else none is
abbrev pub put_at : List ℕ → ℕ → List ℕ → List ℕ
put_at s at w = pick (ltb (length s) (at + length w)) s (sets s at w)

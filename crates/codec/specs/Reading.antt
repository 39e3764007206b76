-- Document 01, "Reading order", for a body: "item by item: a missing byte 1, an unknown sub-command 2, a value out of range 2 as
-- soon as its item is complete." Assumes nothing.
use Rattle.std.specs.Prelude.{ℕ, zero, suc, ◌+◌, Bool, true, false, List, [], ◌∷◌, length, take, drop, ltb, eqb}
use Rattle.codec.specs.Pick.{pick}
use Rattle.codec.specs.Digits.{split, number_of}
use Rattle.codec.specs.Sheet.{Field, field, Item, packed, text, Row, row, Said, said, Answer, got, refused, and_then, byte, widths, size_of, first}

-- every value is within its field's range
abbrev pub within : List Field → List ℕ → Bool
within [] [] = true
within [] (v ∷ vs) = false
within (f ∷ fs) [] = false
within (field b lo hi ∷ fs) (v ∷ vs) = pick (ltb v lo) false (pick (ltb hi v) false (within fs vs))

-- the bytes before the first 00
abbrev pub before0 : List ℕ → List ℕ
before0 [] = []
before0 (b ∷ s) = pick (eqb b 0) [] (b ∷ before0 s)

-- fewer elements than so many; computes where the number is known
abbrev pub shorter : ℕ → List ℕ → Bool
shorter zero v = false
shorter (suc n) [] = true
shorter (suc n) (b ∷ v) = shorter n v

-- The item at the front of the bytes that are left. "A text without 00, or over 51 bytes: 1."
unfoldable pub read_item : Item → List ℕ → Answer (List ℕ)
read_item (packed w fs) s =
    pick (ltb (length s) w) (refused 1 0)
    (pick (within fs (split (widths fs) (number_of (take w s)))) (got (split (widths fs) (number_of (take w s)))) (refused 2 0))
read_item (text least most) s =
    pick (ltb (length (before0 s)) (length s))
    (pick (ltb most (length (before0 s))) (refused 1 0) (pick (shorter least (before0 s)) (refused 2 0) (got (before0 s))))
    (refused 1 0)

-- the items one after the other, from a place of the body
abbrev pub read_items : List Item → List ℕ → ℕ → Answer (List (List ℕ))
read_items [] s at = got []
read_items (i ∷ is) s at =
    and_then (read_item i (drop at s)) (λ v.
    and_then (read_items is s (at + size_of i v)) (λ vs. got (v ∷ vs)))

-- the place after the items
abbrev pub end_of : List Item → List (List ℕ) → ℕ → ℕ
end_of [] vs at = at
end_of (i ∷ is) [] at = at
end_of (i ∷ is) (v ∷ vs) at = end_of is vs (at + size_of i v)

abbrev pub read_row : List Row → List ℕ → ℕ → Answer Said
read_row [] s sub = refused 2 0
read_row (row k is ∷ rs) s sub =
    pick (eqb sub k) (and_then (read_items is s 1) (λ vs. got (said k vs))) (read_row rs s sub)

-- "Body byte 0 is the sub-command"; then the items of its row
abbrev pub read_body : List Row → List ℕ → Answer Said
read_body rs s = and_then (read_item byte (drop 0 s)) (λ v. read_row rs s (first v))

-- What was read is what would be written: for items that use all their bits, over bytes. Assumes nothing.
use Prim.Native.Nat.{ℕ, zero, suc, ◌+◌, ◌*◌, ◌/◌, ◌^◌, ◌<◌, ◌≤◌}
use mathlib.Core.Bool.{Bool, true, false}
use mathlib.Core.List.{List, [], ◌∷◌, ◌++◌}
use mathlib.Core.Path.{◌≡◌, refl, ap, sym}
use native.Mathlib.Omega.{arith}
use native.Mathlib.Nat.{mod-lt, mod-eq_of_lt}
use native.Mathlib.Numerals.{add-one}
use lib.ListN.{length, take, drop, replicate, length-append}
use lib.Pow.{pow_pos}
use lib.Seq.{length-take-le, drop-drop, take-add}
use lib.Dec.{eqb}
use borrow.Author.Tests.{eqb-true}
use Rattle.codec.specs.Pick.{pick}
use Rattle.codec.specs.Digits.{sum, number_of, bytes_of}
use Rattle.codec.specs.Sheet.{Item, packed, text, widths, got, size_of}
use Rattle.codec.specs.Reading.{before0, read_item, read_items}
use Rattle.codec.specs.Writing.{item_bytes, write_items}
use Rattle.codec.specs.Sound.{exact_item, exact_items}
use Rattle.crc.specs.Check.{Bytes}
use Rattle.crc.proofs.Laws.{bytes_take}
use Rattle.codec.proofs.Digits.{Fit, join_lt, split-join, join-split, sum_eights}
use Rattle.codec.proofs.Back.{both, size_is}
use Rattle.codec.proofs.There.{item-there, items-got}

pub fit_bytes : (s : List ℕ) → Bytes s → Fit (replicate (length s) 8) s
fit_bytes [] h = tt
fit_bytes (b ∷ s) h = (h.0, fit_bytes s h.1)

pub bytes_drop : (n : ℕ) (s : List ℕ) → Bytes s → Bytes (drop n s)
bytes_drop zero s h = h
bytes_drop (suc n) [] h = tt
bytes_drop (suc n) (b ∷ s) h = bytes_drop n s h.1

-- the bytes of a number are bytes
pub digit_bytes : (w n : ℕ) → Bytes (bytes_of w n)
digit_bytes zero n = tt
digit_bytes (suc w) n = (mod-lt (n / 2 ^ sum (replicate w 8)) (pow_pos 8), digit_bytes w n)

-- bytes → number → bytes
pub bytes-number : (s : List ℕ) (w : ℕ) → length s ≡ w → Bytes s → (bytes_of w (number_of s) ≡ s) × (number_of s < 2 ^ (8 * w))
bytes-number s w l h =
    let f = fit_bytes s h in
    (rw (← l) (split-join (replicate (length s) 8) s f), rw (← (sum_eights w), ← l) (join_lt (replicate (length s) 8) s f))

end_by : (b : ℕ) (s : List ℕ) (t : Bool) → eqb b 0 ≡ t → length (pick t [] (b ∷ before0 s)) < length (b ∷ s)
    → (length (before0 s) < length s → take (length (before0 s) + 1) s ≡ before0 s ++ 0 ∷ [])
    → take (length (pick t [] (b ∷ before0 s)) + 1) (b ∷ s) ≡ pick t [] (b ∷ before0 s) ++ 0 ∷ []
end_by b s true e l go = rw (eqb-true b 0 e)
end_by b s false e l go = rw add-one (ap (λ (x : List ℕ). b ∷ x) (rw add-one at (go (omega arith))))

before_end : (s : List ℕ) → length (before0 s) < length s → take (length (before0 s) + 1) s ≡ before0 s ++ 0 ∷ []
before_end [] h = absurd (omega arith)
before_end (b ∷ s) h = end_by b s (eqb b 0) refl h (before_end s)

abbrev pub Forth : Item → List ℕ → List ℕ → Type 0
Forth i s v = take (size_of i v) s ≡ item_bytes i v

-- an item that was read is the bytes that would be written
pub item_forth : (i : Item) (s v : List ℕ) → exact_item i ≡ true → Bytes s → read_item i s ≡ got v → Forth i s v
item_forth (packed w fs) s v x y h =
    let t = item-there (packed w fs) s v h in
    let n = bytes-number (take w s) w (length-take-le w s t.1.0) (bytes_take w s y) in
    let m : number_of (take w s) < 2 ^ sum (widths fs) = rw (eqb-true (sum (widths fs)) (8 * w) x) n.1 in
    rw (t.1.1, join-split (widths fs) (number_of (take w s)), mod-eq_of_lt m) (sym n.0)
item_forth (text least most) s v x y h =
    let t = item-there (text least most) s v h in
    let l : length (before0 s) + 1 ≤ length s = rw t.1.1 at t.1.0 in
    rw t.1.1 (before_end s (omega arith))

-- so are the items of a sheet
pub items_forth : (is : List Item) (s : List ℕ) (at : ℕ) (vs : List (List ℕ)) → exact_items is ≡ true → Bytes s → read_items is s at ≡ got vs
    → take (length (write_items is vs)) (drop at s) ≡ write_items is vs
items_forth [] s at vs x y h = refl
items_forth (i ∷ is) s at vs x y h =
    let b = both (exact_item i) (exact_items is) x in
    let p = items-got i is s at vs h in
    let v = p.0 in
    let w = write_items is p.1.0 in
    let n : length (item_bytes i v ++ w) ≡ size_of i v + length w = rw (length-append, size_is) in
    let f = item_forth i (drop at s) v b.0 (bytes_drop at s y) p.1.1.1.0 in
    let g = items_forth is s (at + size_of i v) p.1.0 b.1 y p.1.1.1.1 in
    let d : drop (size_of i v) (drop at s) ≡ drop (at + size_of i v) s = drop-drop (size_of i v) at s in
    rw (p.1.1.0, n, take-add (size_of i v) (length w) (drop at s), f, d, g)

-- What was read is in range, and is there: of every sheet. Assumes nothing.
use Prim.Native.Nat.{ℕ, ◌+◌, ◌≤◌}
use mathlib.Core.Bool.{Bool, true, false}
use mathlib.Core.List.{List, [], ◌∷◌, ◌++◌}
use mathlib.Core.Path.{◌≡◌, refl}
use native.Mathlib.Omega.{arith}
use lib.ListN.{length, take, drop, length-append, length-drop}
use lib.Dec.{ltb, eqb}
use borrow.Author.Tests.{ltb-false, ltb-true, le-leb, eqb-true}
use Rattle.codec.specs.Pick.{pick}
use Rattle.codec.specs.Digits.{split, number_of}
use Rattle.codec.specs.Sheet.{Field, Item, packed, text, Row, row, Said, said, Answer, got, refused, and_then, byte, widths, size_of, first}
use Rattle.codec.specs.Reading.{within, before0, shorter, read_item, read_items, read_row, read_body}
use Rattle.codec.specs.Writing.{nonzero, ok_item, ok_items, item_bytes, write_items, items_of, write_body, stop_in_order, stop_values_first}
use Rattle.codec.specs.Sound.{has_row}
use Rattle.codec.proofs.Back.{size_is}
use Rattle.codec.proofs.Stops.{room-only}
use Rattle.codec.proofs.Writes.{room-there}

-- an answer that was got came from answers that were got
pub and_got : {A B : Type 0} (a : Answer A) (f : A → Answer B) (b : B) → and_then a f ≡ got b → (x : A) × ((a ≡ got x) × (f x ≡ got b))
and_got (got x) f b h = (x, (refl, h))
and_got (refused n p) f b h = let z : ◌≡◌ {A = ℕ} 0 1 = cc in absurd (omega arith)

nonzero-by : (b : ℕ) (s : List ℕ) (t : Bool) → eqb b 0 ≡ t → nonzero (before0 s) ≡ true → nonzero (pick t [] (b ∷ before0 s)) ≡ true
nonzero-by b s true e h = refl
nonzero-by b s false e h = rw e h

pub before-nonzero : (s : List ℕ) → nonzero (before0 s) ≡ true
before-nonzero [] = refl
before-nonzero (b ∷ s) = nonzero-by b s (eqb b 0) refl (before-nonzero s)

-- the values that stand at the front
abbrev standing : Item → List ℕ → List ℕ
standing (packed w fs) s = split (widths fs) (number_of (take w s))
standing (text least most) s = before0 s

abbrev pub There : Item → List ℕ → List ℕ → Type 0
There i s v = (ok_item i v ≡ true) × ((size_of i v ≤ length s) × (v ≡ standing i s))

packed-by : (w : ℕ) (fs : List Field) (s v : List ℕ) (a b : Bool) → ltb (length s) w ≡ a → within fs (split (widths fs) (number_of (take w s))) ≡ b
    → pick a (refused 1 0) (pick b (got (split (widths fs) (number_of (take w s)))) (refused 2 0)) ≡ got v → There (packed w fs) s v
packed-by w fs s v true b p q h = let z : ◌≡◌ {A = ℕ} 0 1 = cc in absurd (omega arith)
packed-by w fs s v false false p q h = let z : ◌≡◌ {A = ℕ} 0 1 = cc in absurd (omega arith)
packed-by w fs s v false true p q h =
    let e : v ≡ split (widths fs) (number_of (take w s)) = cc in
    (rw e q, (ltb-false (length s) w p, e))

text-by : (least most : ℕ) (s v : List ℕ) (a b c : Bool) → ltb (length (before0 s)) (length s) ≡ a
    → ltb most (length (before0 s)) ≡ b → shorter least (before0 s) ≡ c
    → pick a (pick b (refused 1 0) (pick c (refused 2 0) (got (before0 s)))) (refused 1 0) ≡ got v → There (text least most) s v
text-by least most s v false b c p q r h = let z : ◌≡◌ {A = ℕ} 0 1 = cc in absurd (omega arith)
text-by least most s v true true c p q r h = let z : ◌≡◌ {A = ℕ} 0 1 = cc in absurd (omega arith)
text-by least most s v true false true p q r h = let z : ◌≡◌ {A = ℕ} 0 1 = cc in absurd (omega arith)
text-by least most s v true false false p q r h =
    let e : v ≡ before0 s = cc in
    let l = ltb-true (length (before0 s)) (length s) p in
    let m = ltb-false most (length (before0 s)) q in
    (rw (e, r, le-leb (length (before0 s)) most m) (before-nonzero s), (rw e (omega arith), e))

pub item-there : (i : Item) (s v : List ℕ) → read_item i s ≡ got v → There i s v
unfolding read_item
item-there (packed w fs) s v h = packed-by w fs s v (ltb (length s) w) (within fs (split (widths fs) (number_of (take w s)))) refl refl h
item-there (text least most) s v h =
    text-by least most s v (ltb (length (before0 s)) (length s)) (ltb most (length (before0 s))) (shorter least (before0 s)) refl refl refl h

-- items that were got: the first, and the others behind it
pub items-got : (i : Item) (is : List Item) (s : List ℕ) (at : ℕ) (vs : List (List ℕ)) → read_items (i ∷ is) s at ≡ got vs
    → (v : List ℕ) × ((ws : List (List ℕ)) × ((vs ≡ v ∷ ws) × ((read_item i (drop at s) ≡ got v) × (read_items is s (at + size_of i v) ≡ got ws))))
items-got i is s at vs h =
    let p = and_got (read_item i (drop at s)) (λ v. and_then (read_items is s (at + size_of i v)) (λ ws. got (v ∷ ws))) vs h in
    let v = p.0 in
    let q = and_got (read_items is s (at + size_of i v)) (λ ws. got (v ∷ ws)) vs p.1.1 in
    let e : vs ≡ v ∷ q.0 = cc in
    (v, (q.0, (e, (p.1.0, q.1.0))))

pub items-there : (is : List Item) (s : List ℕ) (at : ℕ) (vs : List (List ℕ)) → at ≤ length s → read_items is s at ≡ got vs
    → (ok_items is vs ≡ true) × (at + length (write_items is vs) ≤ length s)
items-there [] s at vs l h = let e : vs ≡ [] = cc in (rw e, omega arith)
items-there (i ∷ is) s at vs l h =
    let p = items-got i is s at vs h in
    let v = p.0 in
    let ws = p.1.0 in
    let f = item-there i (drop at s) v p.1.1.1.0 in
    let k : at + size_of i v ≤ length s = omega (arith, rw length-drop at f.1.0) in
    let g = items-there is s (at + size_of i v) ws k p.1.1.1.1 in
    let n : length (item_bytes i v ++ write_items is ws) ≡ size_of i v + length (write_items is ws) = rw (length-append, size_is) in
    (rw (p.1.1.0, f.0) g.0, rw (p.1.1.0, n) (omega (arith, g.1)))

-- a row that was read is on the sheet
row_by : (k : ℕ) (is : List Item) (rs : List Row) (s : List ℕ) (sub : ℕ) (b : Said) (t : Bool) → eqb sub k ≡ t
    → pick t (and_then (read_items is s 1) (λ vs. got (said k vs))) (read_row rs s sub) ≡ got b
    → (read_row rs s sub ≡ got b → (has_row rs sub ≡ true) × ((vs : List (List ℕ)) × ((b ≡ said sub vs) × (read_items (items_of rs sub) s 1 ≡ got vs))))
    → (pick t true (has_row rs sub) ≡ true) × ((vs : List (List ℕ)) × ((b ≡ said sub vs) × (read_items (pick t is (items_of rs sub)) s 1 ≡ got vs)))
row_by k is rs s sub b true e h go =
    let p = and_got (read_items is s 1) (λ vs. got (said k vs)) b h in
    let f : sub ≡ k = eqb-true sub k e in
    let g : b ≡ said k p.0 = cc in
    (refl, (p.0, (rw f g, p.1.0)))
row_by k is rs s sub b false e h go = go h

pub row-there : (rs : List Row) (s : List ℕ) (sub : ℕ) (b : Said) → read_row rs s sub ≡ got b
    → (has_row rs sub ≡ true) × ((vs : List (List ℕ)) × ((b ≡ said sub vs) × (read_items (items_of rs sub) s 1 ≡ got vs)))
row-there [] s sub b h = let z : ◌≡◌ {A = ℕ} 0 1 = cc in absurd (omega arith)
row-there (row k is ∷ rs) s sub b h = row_by k is rs s sub b (eqb sub k) refl h (row-there rs s sub b)

-- a body that was read: on the sheet, in range, and there
pub body-there : (rs : List Row) (s : List ℕ) (b : Said) → read_body rs s ≡ got b
    → (sub : ℕ) × ((vs : List (List ℕ))
    × ((b ≡ said sub vs) ×
    ((has_row rs sub ≡ true) × ((ok_items (items_of rs sub) vs ≡ true) × (length (write_body rs (said sub vs)) ≤ length
    s)))))
body-there rs s b h =
    let p = and_got (read_item byte (drop 0 s)) (λ v. read_row rs s (first v)) b h in
    let l = (item-there byte (drop 0 s) p.0 p.1.0).1.0 in
    let sub = first p.0 in
    let r = row-there rs s sub b p.1.1 in
    let g = items-there (items_of rs sub) s 1 r.1.0 l r.1.1.1 in
    (sub, (r.1.0, (r.1.1.0, (r.0, (g.0, omega (arith, g.1))))))

-- what is in range is stopped by nothing where it has room
pub in_order_free : (rs : List Row) (room sub : ℕ) (vs : List (List ℕ)) → ok_items (items_of rs sub) vs ≡ true → length (write_body rs (said sub vs)) ≤ room
    → stop_in_order rs room (said sub vs) ≡ 0
in_order_free rs room sub vs o l = rw (room-only rs room sub vs o) (room-there room (length (write_body rs (said sub vs))) l)

pub values_first_free : (rs : List Row) (room sub : ℕ) (vs : List (List ℕ)) → ok_items (items_of rs sub) vs ≡ true → length (write_body rs (said sub vs)) ≤ room
    → stop_values_first rs room (said sub vs) ≡ 0
values_first_free rs room sub vs o l = rw o (room-there room (length (write_body rs (said sub vs))) l)

-- A refusal on reading has a number other than 0, and place 0: an answer of number 0 is a value. Assumes nothing.
use Prim.Native.Nat.{ℕ, ◌+◌, ◌<◌}
use mathlib.Core.Bool.{Bool, true, false}
use mathlib.Core.List.{List, [], ◌∷◌}
use mathlib.Core.Path.{◌≡◌, refl, sym, subst}
use native.Mathlib.Omega.{arith}
use lib.ListN.{length, take, drop}
use lib.Dec.{ltb, eqb}
use Rattle.codec.specs.Pick.{pick}
use Rattle.codec.specs.Digits.{split, number_of}
use Rattle.codec.specs.Sheet.{Item, packed, text, Row, row, said, Answer, got, refused, and_then, byte, widths, size_of, first}
use Rattle.codec.specs.Reading.{within, before0, shorter, read_item, read_items, read_row, read_body}
use Rattle.codec.specs.Refusals.{number_in}

-- where it is refused, it is with a number other than 0 and place 0
abbrev pub Some : {A : Type 0} → Answer A → Type 0
Some {A} a = (n p : ℕ) → a ≡ refused n p → (0 < n) × (p ≡ 0)

pub some-got : {A : Type 0} (x : A) → Some (got x)
some-got x n p h = let z : ◌≡◌ {A = ℕ} 0 1 = cc in absurd (omega arith)

pub some-refused : {A : Type 0} (m : ℕ) → 0 < m → Some {A = A} (refused m 0)
some-refused m l n p h =
    let e : m ≡ n = cc in
    let f : 0 ≡ p = cc in
    (omega arith, sym f)

pub some_then : {A B : Type 0} (a : Answer A) (f : A → Answer B) → Some a → ((x : A) → Some (f x)) → Some (and_then a f)
some_then (got x) f g h = h x
some_then {A} {B} (refused m q) f g h = let l = g m q refl in subst (λ (z : ℕ). Some {A = B} (refused m z)) (sym l.1) (some-refused m l.0)

pub some-pick : {A : Type 0} (t : Bool) (a b : Answer A) → Some a → Some b → Some (pick t a b)
some-pick true a b g h = g
some-pick false a b g h = h

pub item-some : (i : Item) (s : List ℕ) → Some (read_item i s)
unfolding read_item
item-some (packed w fs) s =
    some-pick (ltb (length s) w) _ _ (some-refused 1 (omega arith))
    (some-pick (within fs (split (widths fs) (number_of (take w s)))) _ _ (some-got _) (some-refused 2 (omega arith)))
item-some (text least most) s =
    some-pick (ltb (length (before0 s)) (length s)) _ _
    (some-pick (ltb most (length (before0 s))) _ _ (some-refused 1 (omega arith))
    (some-pick (shorter least (before0 s)) _ _ (some-refused 2 (omega arith)) (some-got _)))
    (some-refused 1 (omega arith))

pub items-some : (is : List Item) (s : List ℕ) (at : ℕ) → Some (read_items is s at)
items-some [] s at = some-got []
items-some (i ∷ is) s at =
    some_then (read_item i (drop at s)) _ (item-some i (drop at s)) (λ v.
    some_then (read_items is s (at + size_of i v)) _ (items-some is s (at + size_of i v)) (λ vs. some-got (v ∷ vs)))

pub row-some : (rs : List Row) (s : List ℕ) (sub : ℕ) → Some (read_row rs s sub)
row-some [] s sub = some-refused 2 (omega arith)
row-some (row k is ∷ rs) s sub =
    some-pick (eqb sub k) _ _ (some_then (read_items is s 1) _ (items-some is s 1) (λ vs. some-got (said k vs))) (row-some rs s sub)

pub body-some : (rs : List Row) (s : List ℕ) → Some (read_body rs s)
body-some rs s = some_then (read_item byte (drop 0 s)) _ (item-some byte (drop 0 s)) (λ v. row-some rs s (first v))

-- number 0 is a value
pub zero-got : {A : Type 0} (a : Answer A) → Some a → number_in a ≡ 0 → (x : A) × (a ≡ got x)
zero-got (got x) g h = (x, refl)
zero-got (refused n p) g h = let l = (g n p refl).0 in absurd (omega arith)

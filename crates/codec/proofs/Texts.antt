-- Reading a text at a place. Assumes nothing.
use Prim.Native.Nat.{ℕ, ◌+◌, ◌<◌, ◌≤◌}
use mathlib.Core.Bool.{Bool, true, false, cond}
use mathlib.Core.List.{List, [], ◌∷◌}
use mathlib.Core.Path.{◌≡◌, refl, ap, sym}
use native.Mathlib.Omega.{arith}
use native.Mathlib.Numerals.{add-one}
use lib.ListN.{length, get_or, drop, take, length-drop}
use lib.Seq.{drop-cons, length-take-le}
use lib.Dec.{eqb, ltb}
use borrow.Author.Tests.{eq-eqb, ne_eqb, lt-ltb, le-ltb, ltb-true}
use Rattle.std.specs.Prelude.{Some, None}
use Rattle.std.specs.List.{position_or_len}
use Rattle.std.proofs.lemmas.List.Recursion.{is_position_or_len}
use Rattle.codec.specs.Pick.{pick}
use Rattle.codec.specs.Sheet.{text, got, refused}
use Rattle.codec.specs.Reading.{before0, read_item}

pub before-zero : (s : List ℕ) (i : ℕ) → i < length s → get_or s i 0 ≡ 0 → before0 (drop i s) ≡ []
before-zero s i h e = rw (drop-cons s i 0 h, eq-eqb (get_or s i 0) 0 e)

pub before_more : (s : List ℕ) (i : ℕ) → i < length s → (get_or s i 0 ≡ 0 → ⊥) → before0 (drop i s) ≡ get_or s i 0 ∷ before0 (drop (i + 1) s)
before_more s i h e = rw (drop-cons s i 0 h, ne_eqb (get_or s i 0) 0 e, add-one)

take_by : (b : ℕ) (s : List ℕ) (t : Bool) → take (length (before0 s)) s ≡ before0 s
    → take (length (pick t [] (b ∷ before0 s))) (b ∷ s) ≡ pick t [] (b ∷ before0 s)
take_by b s true e = refl
take_by b s false e = ap (λ (l : List ℕ). b ∷ l) e

pub before-take : (s : List ℕ) → take (length (before0 s)) s ≡ before0 s
before-take [] = refl
before-take (b ∷ s) = take_by b s (eqb b 0) (before-take s)

-- the ways through the code: nothing left, no 00, too long, a text
before_step : (b : ℕ) (s : List ℕ) (t : Bool) → length (pick t [] (b ∷ s)) ≡ cond t 0 (1 + length s)
before_step b s true = refl
before_step b s false = omega arith

cond_pick : {A : Type 0} (t : Bool) (x y : A) → cond t x y ≡ pick t x y
cond_pick true x y = refl
cond_pick false x y = refl

before_place : (s : List ℕ) → length (before0 s) ≡ position_or_len (λ b. eqb b 0) s
before_place = is_position_or_len (λ s. length (before0 s)) (λ b. eqb b 0) refl (λ b s. before_step b (before0 s) (eqb b 0))

-- the place of the first 00, as a search tells it
pub zero_place : (s : List ℕ) → cond (ltb (position_or_len (λ b. eqb b 0) s) (length s)) (Some (position_or_len (λ b. eqb b 0) s)) None
    ≡ pick (ltb (length (before0 s)) (length s)) (Some (length (before0 s))) None
zero_place s = rw (← before_place s) (cond_pick (ltb (length (before0 s)) (length s)) _ _)

pub text_none : (most : ℕ) (s : List ℕ) → None ≡ pick (ltb (length (before0 s)) (length s)) (Some (length (before0 s))) None → read_item (text 0 most) s ≡ refused 1 0
unfolding read_item
text_none most s h = by (ltb (length (before0 s)) (length s)) refl h
  where
    by : (t : Bool) → ltb (length (before0 s)) (length s) ≡ t → None ≡ pick t (Some (length (before0 s))) None
        → pick (ltb (length (before0 s)) (length s)) (pick (ltb most (length (before0 s))) (refused 1 0) (got (before0 s))) (refused 1 0) ≡ refused 1 0
    by true p g = let z : ◌≡◌ {A = ℕ} 0 1 = cc in absurd (omega arith)
    by false p g = rw p

pub text_some : (s : List ℕ) (n : ℕ) → Some n ≡ pick (ltb (length (before0 s)) (length s)) (Some (length (before0 s))) None → (n ≡ length (before0 s)) × (n < length s)
text_some s n h = by (ltb (length (before0 s)) (length s)) refl h
  where
    by : (t : Bool) → ltb (length (before0 s)) (length s) ≡ t → Some n ≡ pick t (Some (length (before0 s))) None → (n ≡ length (before0 s)) × (n < length s)
    by true p g = let e : n ≡ length (before0 s) = cc in (e, rw e (ltb-true (length (before0 s)) (length s) p))
    by false p g = let z : ◌≡◌ {A = ℕ} 0 1 = cc in absurd (omega arith)

pub text_over : (most : ℕ) (s : List ℕ) (n : ℕ) → n ≡ length (before0 s) → n < length s → most < n → read_item (text 0 most) s ≡ refused 1 0
unfolding read_item
text_over most s n e h l = rw (lt-ltb (length (before0 s)) (length s) (rw e at h), lt-ltb most (length (before0 s)) (rw e at l))

pub text_is : (most : ℕ) (s : List ℕ) (n : ℕ) → n ≡ length (before0 s) → n < length s → n ≤ most → got (take n s) ≡ read_item (text 0 most) s
unfolding read_item
text_is most s n e h l =
    rw (
      lt-ltb (length (before0 s)) (length s) (rw e at h),
      le-ltb most (length (before0 s)) (rw e at l),
      e,
      before-take,
    )

-- what follows a text stands after its bytes and its 00
pub after_text_lem : (s : List ℕ) (at n next : ℕ) → (at + n < length s) × (next ≡ at + (n + 1)) → at + (length (take n (drop at s)) + 1) ≡ next
after_text_lem s at n next h =
    let k : n ≤ length (drop at s) = rw length-drop (omega (arith, h.0)) in
    rw (length-take-le n (drop at s) k) (sym h.1)

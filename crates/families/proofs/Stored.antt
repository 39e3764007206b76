-- Loops over stored bytes, and a part copied over zeros. Assumes nothing.
use Prim.Native.Nat.{ℕ, zero, suc, ◌+◌, ◌-◌, ◌<◌, ◌≤◌}
use mathlib.Core.Bool.{Bool, true, false, not, ◌&&◌}
use mathlib.Core.List.{List, [], ◌∷◌}
use mathlib.Core.Path.{◌≡◌, refl}
use native.Mathlib.Omega.{arith}
use native.Mathlib.Numerals.{add-one}
use native.Mathlib.Nat.{zero-sub, sub-zero, suc-sub-suc}
use lib.Bits.{bit_or, or_zero_l, or_add_and, and_le_r}
use lib.Dec.{eqb}
use lib.ListN.{length, get_or, drop, take, replicate, drop_of_length-le, length-drop}
use lib.Seq.{drop-cons, take_all}
use borrow.Author.Tests.{ne_eqb, le-leb}
use Rattle.std.specs.List.{list_all}
use Rattle.codec.specs.Pick.{pick}
use Rattle.codec.specs.Writing.{nonzero}
use Rattle.families.specs.Text.{zeros, made_bytes}

-- every byte passes a test that none is zero
pub all-nonzero : (s : List ℕ) → list_all (λ b. not (eqb b 0)) s ≡ nonzero s
all-nonzero [] = refl
all-nonzero (b ∷ s) = by (eqb b 0) (all-nonzero s)
  where
    by : (t : Bool) → list_all (λ c. not (eqb c 0)) s ≡ nonzero s → (not t && list_all (λ c. not (eqb c 0)) s) ≡ pick t false (nonzero s)
    by true h = refl
    by false h = h

-- no byte seen is nonzero: none so far, nor this one
or_none : (a b : ℕ) → eqb (bit_or a b) 0 ≡ pick (eqb a 0) (eqb b 0) false
or_none zero b = rw (or_zero_l b)
or_none (suc a) b =
    let z : eqb (suc a) 0 ≡ false = ne_eqb (suc a) 0 (λ e. omega arith) in
    rw z (ne_eqb (bit_or (suc a) b) 0 (λ e. let s = or_add_and (suc a) b in let l = and_le_r (suc a) b in omega arith))

both : (t u v : Bool) → pick t (pick u v false) false ≡ pick (pick t u false) v false
both true u v = refl
both false u v = refl

pub zeros-on : (s : List ℕ) (i seen : ℕ) → i < length s
    → pick (eqb seen 0) (zeros (drop i s)) false ≡ pick (eqb (bit_or seen (get_or s i 0)) 0) (zeros (drop (i + 1) s)) false
zeros-on s i seen h =
    rw (drop-cons s i 0 h, or_none seen (get_or s i 0), add-one) (both (eqb seen 0) (eqb (get_or s i 0) 0) (zeros (drop (suc i) s)))

pub zeros_end : (s : List ℕ) (i seen : ℕ) → length s ≤ i → pick (eqb seen 0) (zeros (drop i s)) false ≡ eqb seen 0
zeros_end s i seen h = rw (drop_of_length-le s h) (same (eqb seen 0))
  where
    same : (t : Bool) → pick t true false ≡ t
    same true = refl
    same false = refl

pub rest_is : (s : List ℕ) (n : ℕ) → take (length s - n) (drop n s) ≡ drop n s
rest_is s n = take_all (length s - n) (drop n s) (rw length-drop (omega arith))

pub drop-zeros : (k m : ℕ) → drop {A = ℕ} k (replicate m 0) ≡ replicate (m - k) 0
drop-zeros zero m = rw sub-zero
drop-zeros (suc k) zero = rw zero-sub
drop-zeros (suc k) (suc m) = rw suc-sub-suc (drop-zeros k m)

-- fewer bytes than the length says: they are all there is to judge
pub made-short : (most n : ℕ) (b : List ℕ) → n ≤ most → length b < n → made_bytes most n b ≡ nonzero b
made-short most n b h l = rw (le-leb n most h, take_all n b (omega arith), drop_of_length-le b {i = n} (omega arith)) (by (nonzero b))
  where
    by : (t : Bool) → pick t true false ≡ t
    by true = refl
    by false = refl

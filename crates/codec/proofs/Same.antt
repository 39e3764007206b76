-- Bytes that are the same, and the turns of the loop that compares. Assumes nothing.
use Prim.Native.Nat.{ℕ, ◌+◌, ◌<◌, ◌≤◌}
use mathlib.Core.Bool.{Bool, true, false}
use mathlib.Core.List.{List, [], ◌∷◌, ◌++◌}
use mathlib.Core.Path.{◌≡◌, refl, sym, ◌∙◌}
use native.Mathlib.Omega.{arith}
use native.Mathlib.Numerals.{add-one}
use lib.ListN.{length, drop, get_or, drop_of_length-le}
use lib.Seq.{drop-cons}
use lib.Dec.{eqb}
use borrow.Author.Tests.{eq-eqb, ne_eqb, eqb-true}
use Rattle.codec.specs.Pick.{pick}
use Rattle.codec.specs.Same.{same}
use Rattle.codec.proofs.Back.{both}

pub same_self : (s : List ℕ) → same s s ≡ true
same_self [] = refl
same_self (b ∷ s) = rw (eq-eqb b b refl) (same_self s)

pub same_true : (r s : List ℕ) → same r s ≡ true → r ≡ s
same_true [] [] h = refl
same_true [] (b ∷ s) h = let z : ◌≡◌ {A = ℕ} 0 1 = cc in absurd (omega arith)
same_true (a ∷ r) [] h = let z : ◌≡◌ {A = ℕ} 0 1 = cc in absurd (omega arith)
same_true (a ∷ r) (b ∷ s) h =
    let p = both (eqb a b) (same r s) h in
    rw (eqb-true a b p.0, same_true r s p.1)

-- part by part
pub same_seam : (a b c d : List ℕ) → length a ≡ length b → same (a ++ c) (b ++ d) ≡ pick (same a b) (same c d) false
same_seam [] [] c d l = refl
same_seam [] (y ∷ b) c d l = absurd (omega arith)
same_seam (x ∷ a) [] c d l = absurd (omega arith)
same_seam (x ∷ a) (y ∷ b) c d l = by (eqb x y) (same_seam a b c d (omega arith))
  where
    by : (t : Bool) → same (a ++ c) (b ++ d) ≡ pick (same a b) (same c d) false
        → pick t (same (a ++ c) (b ++ d)) false ≡ pick (pick t (same a b) false) (same c d) false
    by true e = e
    by false e = refl

-- ---- the loop: what is left decides
module _ (a b : List ℕ) (l : length a ≡ length b) (i : ℕ) where
  turn : i < length a → same (drop i a) (drop i b) ≡ pick (eqb (get_or a i 0) (get_or b i 0)) (same (drop (i + 1) a) (drop (i + 1) b)) false
  turn h = rw (add-one i, drop-cons a i 0 h, drop-cons b i 0 (omega arith))

  pub same_differs : i < length a → same a b ≡ same (drop i a) (drop i b) → (get_or a i 0 ≡ get_or b i 0 → ⊥) → false ≡ same a b
  same_differs h e n = sym (e ∙ turn h ∙ rw (ne_eqb (get_or a i 0) (get_or b i 0) n))

  pub same-on : i < length a → same a b ≡ same (drop i a) (drop i b) → get_or a i 0 ≡ get_or b i 0 → same a b ≡ same (drop (i + 1) a) (drop (i + 1) b)
  same-on h e n = e ∙ turn h ∙ rw (eq-eqb (get_or a i 0) (get_or b i 0) n)

  pub same_ends : length a ≤ i → same a b ≡ same (drop i a) (drop i b) → true ≡ same a b
  same_ends h e = sym (e ∙ rw (drop_of_length-le a {i = i} h, drop_of_length-le b {i = i} (omega arith)))

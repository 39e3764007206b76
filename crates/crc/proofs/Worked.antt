-- The division worked bit after bit and byte after byte gives the remainder: of every message, from every start, for every
-- polynomial of degree 8.
-- Assumes nothing.
use mathlib.Core.Path.{◌≡◌, sym, ap, ap₂, ◌∙◌}
use mathlib.Core.List.{List, [], ◌∷◌}
use Prim.Native.Nat.{ℕ, zero, suc, ◌+◌, ◌*◌, ◌/◌, ◌<◌, ◌^◌}
use native.Mathlib.Nat.{mul-one, mul_assoc, mul_comm, mul_right_comm, mul-suc, pow-suc, zero-mul, add-zero, add-suc}
use native.Mathlib.Omega.{arith}
use lib.Bits.{bit_xor, xor_zero_r, xor_lt}
use lib.ListN.{length}
use Rattle.crc.specs.Polynomial.{Degree8, Remainder}
use Rattle.crc.specs.Check.{Bytes, message, started_message, check_from}
use Rattle.crc.specs.Steps.{step, steps, worked}
use Rattle.crc.proofs.Xor.{xor_assoc, xor_times}
use Rattle.crc.proofs.Product.{Alike, alike_of, remainder_of, alike_refl, alike_trans, alike_plus, alike_twice, alike_shift}
use Rattle.crc.proofs.Remainders.{reduced, remainder_is, one_remainder}

pow_plus : (j k : ℕ) → 2 ^ (j + k) ≡ 2 ^ j * 2 ^ k
pow_plus j zero = simp (add-zero, mul-one)
pow_plus j (suc k) = simp (add-suc, pow-suc, ← mul_assoc) (ap (λ (x : ℕ). x * 2) (pow_plus j k))

-- eight places and n bytes up, in either order
up : (a n : ℕ) → a * 2 ^ (8 * suc n) ≡ a * 2 ^ 8 * 2 ^ (8 * n)
up a n =
    ap (λ (e : ℕ). a * 2 ^ e) (mul-suc 8 n)
    ∙ ap (λ (y : ℕ). a * y) (pow_plus (8 * n) 8 ∙ mul_comm (2 ^ (8 * n)) (2 ^ 8))
    ∙ sym (mul_assoc a (2 ^ 8) (2 ^ (8 * n)))

-- a start stands over the first byte b of the message: the two are one sum, before the n bytes m
brought_in : (s b m n : ℕ)
    → bit_xor (s * 2 ^ (8 * suc n)) (bit_xor (b * 2 ^ (8 * n)) m * 2 ^ 8) ≡ bit_xor (bit_xor s b * 2 ^ 8 * 2 ^ (8 * n)) (m * 2 ^ 8)
brought_in s b m n =
    ap₂ bit_xor (up s n)
    (xor_times 8 (b * 2 ^ (8 * n)) m ∙ ap (λ (y : ℕ). bit_xor y (m * 2 ^ 8)) (mul_right_comm b (2 ^ (8 * n)) (2 ^ 8)))
    ∙ sym (xor_assoc (s * 2 ^ 8 * 2 ^ (8 * n)) (b * 2 ^ 8 * 2 ^ (8 * n)) (m * 2 ^ 8))
    ∙ ap (λ (y : ℕ). bit_xor y (m * 2 ^ 8))
    (sym (ap (λ (y : ℕ). y * 2 ^ (8 * n)) (xor_times 8 s b) ∙ xor_times (8 * n) (s * 2 ^ 8) (b * 2 ^ 8)))

module _ {g : ℕ} (d : Degree8 g) where
  step_is : (r : ℕ) → r < 256 → Remainder g (r * 2) (step g r)
  unfolding step
  step_is r h = let e : r * 2 / 256 ≡ r / 128 = omega arith in rw e at (reduced d (r * 2) (omega arith))

  pub steps_low : (k r : ℕ) → r < 256 → steps g k r < 256
  unfolding steps
  steps_low zero r h = h
  steps_low (suc k) r h = (step_is (steps g k r) (steps_low k r h)).low

  alike_steps : (k r : ℕ) → r < 256 → Alike g (r * 2 ^ k) (steps g k r)
  unfolding steps
  alike_steps zero r h = simp mul-one (alike_refl r)
  alike_steps (suc k) r h =
      let s : Remainder g (steps g k r * 2) (step g (steps g k r)) = step_is (steps g k r) (steps_low k r h) in
      simp (pow-suc, ← mul_assoc) (alike_trans (alike_twice (alike_steps k r h)) (alike_of s))

  pub worked-low : (s : ℕ) (bs : List ℕ) → s < 256 → Bytes bs → worked g s bs < 256
  unfolding worked
  worked-low s [] hs hb = hs
  worked-low s (b ∷ bs) hs (hb, hbs) = worked-low (steps g 8 (bit_xor s b)) bs (steps_low 8 (bit_xor s b) (xor_lt 8 s b hs hb)) hbs

  -- the check goes on from the check s of what came before
  alike_worked : (s : ℕ) (bs : List ℕ) → s < 256 → Bytes bs → Alike g (started_message s bs) (worked g s bs)
  unfolding worked
  alike_worked s [] hs hb = simp (mul-one, zero-mul, xor_zero_r) (alike_refl s)
  alike_worked s (b ∷ bs) hs (hb, hbs) =
      let h : bit_xor s b < 256 = xor_lt 8 s b hs hb in
      rw (brought_in s b (message bs) (length bs))
      (alike_trans (alike_plus (message bs * 2 ^ 8) (alike_shift (8 * length bs) (alike_steps 8 (bit_xor s b) h)))
      (alike_worked (steps g 8 (bit_xor s b)) bs (steps_low 8 (bit_xor s b) h) hbs))

  pub worked_is_check : (s : ℕ) (bs : List ℕ) → s < 256 → Bytes bs → worked g s bs ≡ check_from g s bs
  unfolding check_from
  worked_is_check s bs hs hb =
      one_remainder d (remainder_of (alike_worked s bs hs hb) (worked-low s bs hs hb)) (remainder_is d (started_message s bs))

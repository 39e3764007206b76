-- The product of polynomials, and polynomials that differ by a multiple of g.
-- Assumes nothing.
use mathlib.Core.Path.{◌≡◌, refl, sym, ap, ap₂, ◌∙◌}
use Prim.Native.Nat.{ℕ, zero, suc, ◌*◌, ◌/◌, ◌%◌, ◌<◌, ◌≤◌, ◌^◌}
use native.Mathlib.Nat.{zero-mul, le_refl, not-suc-le-zero, mul_assoc, pow-suc, mul-one}
use native.Mathlib.Decide.{le_ind}
use lib.Arith.{bin_ind, half_le}
use lib.Bits.{bit_xor, xor_zero_r}
use Rattle.crc.specs.Polynomial.{times_in, times, Remainder}
use Rattle.crc.proofs.Xor.{bit, xor_assoc, xor_swap, xor_twice, bit-times, xor_half, xor_odd, twice_half, twice_odd, mod2}

more : (g n q : ℕ) → q ≤ n → times_in (suc n) q g ≡ times_in n q g
more g zero zero h = zero-mul g
more g zero (suc q) h = absurd (not-suc-le-zero h)
more g (suc n) q h = ap (λ (x : ℕ). bit_xor (x * 2) (q % 2 * g)) (more g n (q / 2) (half_le h))

enough : (g n q : ℕ) → q ≤ n → times_in n q g ≡ times_in q q g
enough g n q h = le_ind (λ (m : ℕ). times_in m q g ≡ times_in q q g) refl (λ m k e. more g m q k ∙ e) n h

pub times-step : (q g : ℕ) → times q g ≡ bit_xor (times (q / 2) g * 2) (q % 2 * g)
unfolding times
times-step zero g = sym (zero-mul g)
times-step (suc q) g = ap (λ (x : ℕ). bit_xor (x * 2) (suc q % 2 * g)) (enough g q (suc q / 2) (half_le (le_refl (suc q))))

pub times-sum : (g a b : ℕ) → times (bit_xor a b) g ≡ bit_xor (times a g) (times b g)
unfolding times
times-sum g =
    bin_ind (λ (n : ℕ). (b : ℕ) → times (bit_xor n b) g ≡ bit_xor (times n g) (times b g)) (λ b. refl)
    (λ n ih b. times-step (bit_xor n b) g
    ∙ ap₂ bit_xor
    (ap (λ (x : ℕ). times x g * 2) (xor_half n b) ∙ ap (λ (x : ℕ). x * 2) (ih (b / 2)) ∙ xor_twice (times (n / 2) g) (times (b / 2) g))
    (ap (λ (x : ℕ). x * g) (xor_odd n b) ∙ bit-times g (n % 2) (b % 2) (mod2 n) (mod2 b))
    ∙ xor_swap (times (n / 2) g * 2) (times (b / 2) g * 2) (n % 2 * g) (b % 2 * g)
    ∙ ap₂ bit_xor (sym (times-step n g)) (sym (times-step b g)))

pub times-twice : (g q : ℕ) → times (q * 2) g ≡ times q g * 2
times-twice g q = times-step (q * 2) g ∙ simp (twice_half, twice_odd, zero-mul, xor_zero_r)

pub times-bit : (g d : ℕ) → d < 2 → times d g ≡ d * g
unfolding times
times-bit g = bit (λ (d : ℕ). times d g ≡ d * g) (sym (zero-mul g)) refl

-- a and b differ by a multiple of g
pub record Alike (g a b : ℕ) : Type 0 where
  pub by : ℕ
  pub is : a ≡ bit_xor (times by g) b

module _ {g : ℕ} where
  pub alike_of : {m r : ℕ} → Remainder g m r → Alike g m r
  alike_of h = record { by = h.quotient; is = h.sum }

  pub remainder_of : {m r : ℕ} → Alike g m r → r < 256 → Remainder g m r
  remainder_of h l = record { quotient = h.by; sum = h.is; low = l }

  pub alike_refl : (a : ℕ) → Alike g a a
  unfolding times
  alike_refl a = record { by = 0; is = refl }

  pub alike_trans : {a b c : ℕ} → Alike g a b → Alike g b c → Alike g a c
  alike_trans {a} {b} {c} d e =
      record {
        by = bit_xor d.by e.by;
        is = d.is ∙ ap (bit_xor (times d.by g)) e.is ∙ sym (xor_assoc (times d.by g) (times e.by g) c)
            ∙ ap (λ (x : ℕ). bit_xor x c) (sym (times-sum g d.by e.by));
      }

  pub alike_plus : {a b : ℕ} (c : ℕ) → Alike g a b → Alike g (bit_xor a c) (bit_xor b c)
  alike_plus {a} {b} c d = record { by = d.by; is = ap (λ (x : ℕ). bit_xor x c) d.is ∙ xor_assoc (times d.by g) b c }

  pub alike_twice : {a b : ℕ} → Alike g a b → Alike g (a * 2) (b * 2)
  alike_twice {a} {b} d =
      record {
        by = d.by * 2;
        is = ap (λ (x : ℕ). x * 2) d.is ∙ xor_twice (times d.by g) b ∙ ap (λ (x : ℕ). bit_xor x (b * 2)) (sym (times-twice g d.by));
      }

  pub alike_shift : (k : ℕ) {a b : ℕ} → Alike g a b → Alike g (a * 2 ^ k) (b * 2 ^ k)
  alike_shift zero {a} {b} h = simp mul-one h
  alike_shift (suc k) {a} {b} h = simp (pow-suc, ← mul_assoc) (alike_twice (alike_shift k h))

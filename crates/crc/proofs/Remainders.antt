-- Division by any polynomial of degree 8 leaves a remainder, only one, and `remainder` works it out.
-- Assumes nothing.
use mathlib.Core.Path.{◌≡◌, refl, sym, ap, ap₂, ◌∙◌}
use Prim.Native.Nat.{ℕ, zero, suc, ◌+◌, ◌*◌, ◌/◌, ◌%◌, ◌<◌, ◌≤◌}
use native.Mathlib.Nat.{le_refl, not-suc-le-zero}
use native.Mathlib.Omega.{arith}
use lib.Arith.{bin_ind, half_le}
use lib.Bits.{bit_xor, xor_zero_r, xor_self, xor_lt, xor_shr, xor_shifted}
use lib.Dec.{lit<}
use Rattle.crc.specs.Polynomial.{times, Degree8, Remainder, remainder_in, remainder}
use Rattle.crc.proofs.Xor.{bit, xor_swap, xor_back, xor_zero, mod2}
use Rattle.crc.proofs.Product.{times-step, times-sum, times-bit, Alike, alike_of, remainder_of, alike_trans, alike_plus, alike_twice}

below : (x : ℕ) → x / 256 ≡ 0 → x < 256
below x e = omega arith

module _ {g : ℕ} (d : Degree8 g) where
  top : (t : ℕ) → t < 2 → t * g / 256 ≡ t
  top = bit (λ (t : ℕ). t * g / 256 ≡ t) (omega arith) (omega arith)

  -- a polynomial of degree 8 or less, less g where its degree is 8
  pub reduced : (x : ℕ) → x < 512 → Remainder g x (bit_xor x (x / 256 * g))
  reduced x h =
      record {
        quotient = x / 256;
        sum = sym (ap (λ (y : ℕ). bit_xor y (bit_xor x (x / 256 * g))) (times-bit g (x / 256) (omega arith)) ∙ xor_back x (x / 256 * g));
        low = below (bit_xor x (x / 256 * g))
            (xor_shr x (x / 256 * g) 8 ∙ ap (bit_xor (x / 256)) (top (x / 256) (omega arith)) ∙ xor_self (x / 256));
      }

  divided : (n m : ℕ) → m ≤ n → Remainder g m (remainder_in n g m)
  unfolding times
  divided zero zero h = record { quotient = 0; sum = refl; low = lit< tt }
  divided zero (suc m) h = absurd (not-suc-le-zero h)
  divided (suc n) zero h = record { quotient = 0; sum = refl; low = lit< tt }
  divided (suc n) (suc m) h =
      let r : ℕ = remainder_in n g (suc m / 2) in
      let a : Remainder g (suc m / 2) r = divided n (suc m / 2) (half_le h) in
      let l : r < 256 = a.low in
      let b : Remainder g (r * 2 + suc m % 2) (bit_xor (r * 2 + suc m % 2) ((r * 2 + suc m % 2) / 256 * g)) = reduced (r * 2 + suc m % 2) (omega arith) in
      let t : Alike g (suc m / 2 * 2) (r * 2) = alike_twice (alike_of a) in
      let e : bit_xor (suc m / 2 * 2) (suc m % 2) ≡ suc m = xor_shifted (suc m / 2) 1 (suc m % 2) (mod2 (suc m)) ∙ omega arith in
      let k : Alike g (suc m) (r * 2 + suc m % 2) = rw e at (rw (xor_shifted r 1 (suc m % 2) (mod2 (suc m))) at (alike_plus (suc m % 2) t)) in
      remainder_of (alike_trans k (alike_of b)) b.low

  -- existence, and the executable form
  pub remainder_is : (m : ℕ) → Remainder g m (remainder g m)
  unfolding remainder
  remainder_is m = divided m m (le_refl m)

  -- a multiple of g other than 0 has degree 8 or more
  small : (t : ℕ) → t < 2 → t * g / 512 ≡ 0
  small = bit (λ (t : ℕ). t * g / 512 ≡ 0) (omega arith) (omega arith)

  one_low : (t : ℕ) → t < 2 → t * g < 256 → t ≡ 0
  one_low = bit (λ (t : ℕ). t * g < 256 → t ≡ 0) (λ h. refl) (λ h. omega arith)

  high : (q : ℕ) → times q g < 256 → q ≡ 0
  high =
      bin_ind (λ (n : ℕ). times n g < 256 → n ≡ 0) (λ h. refl)
      (λ n ih h.
      let e : times n g / 512 ≡ times (n / 2) g * 2 / 512 =
      ap (λ (x : ℕ). x / 512) (times-step n g) ∙ xor_shr (times (n / 2) g * 2) (n % 2 * g) 9
      ∙ ap (bit_xor (times (n / 2) g * 2 / 512)) (small (n % 2) (mod2 n)) ∙ xor_zero_r (times (n / 2) g * 2 / 512) in
      let z : n / 2 ≡ 0 = ih (omega arith) in
      let t : n < 2 = omega arith in
      one_low n t (rw (times-bit g n t) at h))

  -- uniqueness
  pub one_remainder : {m r r' : ℕ} → Remainder g m r → Remainder g m r' → r ≡ r'
  unfolding times
  one_remainder {m} {r} {r'} a b =
      let p : ℕ = times a.quotient g in
      let q : ℕ = times b.quotient g in
      let e : times (bit_xor a.quotient b.quotient) g ≡ bit_xor r r' =
      times-sum g a.quotient b.quotient
      ∙ xor_zero (bit_xor p q) (bit_xor r r') (xor_swap p q r r' ∙ ap₂ bit_xor (sym a.sum) (sym b.sum) ∙ xor_self m) in
      let z : bit_xor a.quotient b.quotient ≡ 0 = high _ (rw e (xor_lt 8 r r' a.low b.low)) in
      xor_zero r r' (sym e ∙ ap (λ (x : ℕ). times x g) z)

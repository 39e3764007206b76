-- More steps, steps of a sum, and bytes 00 behind a message. Assumes nothing.
use mathlib.Core.Path.{◌≡◌, refl, sym, ap, ap₂, ◌∙◌}
use Prim.Native.Nat.{ℕ, zero, suc, ◌+◌, ◌-◌, ◌*◌, ◌/◌, ◌%◌, ◌<◌, ◌^◌}
use native.Mathlib.Nat.{zero-add, suc-add, zero-mul, mul-suc}
use native.Mathlib.Omega.{arith}
use lib.Arith.{bin_ind}
use lib.Bits.{bit_xor, xor_zero_r, xor_shr, xor_shifted}
use lib.Dec.{lit<}
use lib.ListN.{length, replicate, length-replicate}
use Rattle.crc.specs.Polynomial.{x, Degree8, Remainder}
use Rattle.crc.specs.Check.{command_polynomial, Bytes, message, started_message, check_from}
use Rattle.crc.specs.Steps.{step, steps}
use Rattle.crc.proofs.Xor.{bit, xor_swap, xor_twice, bit-times, mod2}
use Rattle.crc.proofs.Worked.{steps_low}
use Rattle.crc.proofs.Loops.{step_small}
use Rattle.crc.proofs.Laws.{from_is_remainder, check_none, check-next, command}

step_sum : (g a b : ℕ) → a < 256 → b < 256 → step g (bit_xor a b) ≡ bit_xor (step g a) (step g b)
unfolding step
step_sum g a b ha hb =
    ap₂ bit_xor (xor_twice a b) (ap (λ (x : ℕ). x * g) (xor_shr a b 7) ∙ bit-times g (a / 128) (b / 128) (omega arith) (omega arith))
    ∙ xor_swap (a * 2) (b * 2) (a / 128 * g) (b / 128 * g)

steps-more : (g j k r : ℕ) → steps g (j + k) r ≡ steps g j (steps g k r)
unfolding steps
steps-more g zero k r = ap (λ (n : ℕ). steps g n r) (zero-add k)
steps-more g (suc j) k r = ap (λ (n : ℕ). steps g n r) (suc-add j k) ∙ ap (step g) (steps-more g j k r)

pub eight_more : (g i r : ℕ) → steps g 8 (steps g (8 * i) r) ≡ steps g (8 * (i + 1)) r
eight_more g i r = let e : 8 * (i + 1) ≡ 8 + 8 * i = omega arith in sym (ap (λ (n : ℕ). steps g n r) e ∙ steps-more g 8 (8 * i) r)

-- one step first, or last
step-first : (g k r : ℕ) → steps g k (step g r) ≡ step g (steps g k r)
unfolding steps
step-first g zero r = refl
step-first g (suc k) r = ap (step g) (step-first g k r)

module _ {g : ℕ} (d : Degree8 g) where
  pub steps-sum : (k a b : ℕ) → a < 256 → b < 256 → steps g k (bit_xor a b) ≡ bit_xor (steps g k a) (steps g k b)
  unfolding steps
  steps-sum zero a b ha hb = refl
  steps-sum (suc k) a b ha hb = ap (step g) (steps-sum k a b ha hb) ∙ step_sum g (steps g k a) (steps g k b) (steps_low d k a ha) (steps_low d k b hb)

  steps_digit : (k r : ℕ) → r < 256 → steps g k r ≡ bit_xor (step g (steps g k (r / 2))) (steps g k (r % 2))
  steps_digit k r h =
      let e : r ≡ bit_xor (r / 2 * 2) (r % 2) = omega arith ∙ sym (xor_shifted (r / 2) 1 (r % 2) (mod2 r)) in
      ap (steps g k) e
      ∙ steps-sum k (r / 2 * 2) (r % 2) (omega arith) (omega arith)
      ∙ ap (λ (y : ℕ). bit_xor y (steps g k (r % 2))) (ap (steps g k) (step_small g (r / 2) (omega arith)) ∙ step-first g k (r / 2))

  steps-zero : (k : ℕ) → steps g k 0 ≡ 0
  unfolding steps
  steps-zero zero = refl
  steps-zero (suc k) = ap (step g) (steps-zero k) ∙ sym (step_small g 0 (lit< tt))

  -- if x^j and x^k leave the same remainder, so do r · x^j and r · x^k
  steps_alike : (j k : ℕ) → steps g j 1 ≡ steps g k 1 → (r : ℕ) → r < 256 → steps g j r ≡ steps g k r
  steps_alike j k e =
      bin_ind (λ (n : ℕ). n < 256 → steps g j n ≡ steps g k n) (λ h. steps-zero j ∙ sym (steps-zero k))
      (λ n ih h. steps_digit j n h
      ∙ ap₂ (λ (y z : ℕ). bit_xor (step g y) z) (ih (omega arith))
      (bit (λ (t : ℕ). steps g j t ≡ steps g k t) (steps-zero j ∙ sym (steps-zero k)) e (n % 2) (mod2 n))
      ∙ sym (steps_digit k n h))

-- ---- the command's polynomial: x^64 and x^8 leave the same remainder
same-remainder : steps command_polynomial 64 1 ≡ steps command_polynomial 8 1
unfolding step steps
same-remainder = refl

more_sevens : (q r : ℕ) → r < 256 → steps command_polynomial (56 * q + 8) r ≡ steps command_polynomial 8 r
more_sevens zero r h = refl
more_sevens (suc q) r h =
    let e : 56 * suc q + 8 ≡ 56 * q + 64 = omega arith in
    ap (λ (n : ℕ). steps command_polynomial n r) e
    ∙ steps-more command_polynomial (56 * q) 64 r
    ∙ ap (steps command_polynomial (56 * q)) (steps_alike command 64 8 same-remainder r h)
    ∙ sym (steps-more command_polynomial (56 * q) 8 r)
    ∙ more_sevens q r h

-- behind one byte 00, seven more change nothing
pub sevens : (n r : ℕ) → 0 < n → r < 256 → steps command_polynomial (8 * ((n - 1) % 7 + 1)) r ≡ steps command_polynomial (8 * n) r
sevens n r l h =
    let m : ℕ = (n - 1) % 7 in
    let q : ℕ = (n - 1) / 7 in
    let e : 8 * (m + 1) ≡ 8 * m + 8 = omega arith in
    let f : 8 * n ≡ 8 * m + (56 * q + 8) = omega arith in
    ap (λ (k : ℕ). steps command_polynomial k r) e
    ∙ steps-more command_polynomial (8 * m) 8 r
    ∙ ap (steps command_polynomial (8 * m)) (sym (more_sevens q r h))
    ∙ sym (steps-more command_polynomial (8 * m) (56 * q + 8) r)
    ∙ ap (λ (k : ℕ). steps command_polynomial k r) (sym f)

-- ---- bytes 00
pub bytes-zeros : (n : ℕ) → Bytes (replicate n 0)
bytes-zeros zero = tt
bytes-zeros (suc n) = (lit< tt, bytes-zeros n)

-- each of them is eight steps
pub check-zeros : {g : ℕ} → Degree8 g → (n s : ℕ) → s < 256 → check_from g s (replicate n 0) ≡ steps g (8 * n) s
unfolding steps
check-zeros {g} d zero s h = check_none d s h
check-zeros {g} d (suc n) s h =
    check-next d s 0 (replicate n 0) h (lit< tt) (bytes-zeros n)
    ∙ ap (λ (t : ℕ). check_from g (steps g 8 t) (replicate n 0)) (xor_zero_r s)
    ∙ check-zeros d n (steps g 8 s) (steps_low d 8 s h)
    ∙ sym (ap (λ (k : ℕ). steps g k s) (mul-suc 8 n) ∙ steps-more g (8 * n) 8 s)

message-zeros : (n : ℕ) → message (replicate n 0) ≡ 0
message-zeros zero = refl
message-zeros (suc n) = ap₂ bit_xor (zero-mul (x ^ (8 * length (replicate n 0)))) (message-zeros n)

-- the start, times x^8 for each of them
pub zeros-remainder : {g : ℕ} → Degree8 g → (n s : ℕ) → Remainder g (s * x ^ (8 * n)) (check_from g s (replicate n 0))
zeros-remainder {g} d n s =
    let e : started_message s (replicate n 0) ≡ s * x ^ (8 * n) =
    ap₂ (λ (k m : ℕ). bit_xor (s * x ^ (8 * k)) (m * x ^ 8)) (length-replicate n 0) (message-zeros n) ∙ xor_zero_r (s * x ^ (8 * n)) in
    rw e at (from_is_remainder d s (replicate n 0))

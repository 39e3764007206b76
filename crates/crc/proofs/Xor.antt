-- Exclusive or: the laws that lib.Bits lacks.
-- Assumes nothing.
use mathlib.Core.Path.{◌≡◌, refl, sym, ap, ap₂, ◌∙◌}
use Prim.Native.Nat.{ℕ, zero, suc, ◌+◌, ◌*◌, ◌/◌, ◌%◌, ◌<◌, ◌^◌}
use native.Mathlib.Nat.{mod-lt, zero-lt-suc, add-zero, zero-mul, one-mul, mul_assoc, mul-one, pow-suc}
use native.Mathlib.Omega.{arith}
use lib.Arith.{bin_ind}
use lib.Bits.{bit_xor, differ, xor_step, xor_zero_r, xor_self, xor_comm, xor_shr, xor_mod}

-- a digit is 0 or 1
pub bit : (P : ℕ → Type 0) → P 0 → P 1 → (n : ℕ) → n < 2 → P n
bit P z o zero h = z
bit P z o (suc zero) h = o
bit P z o (suc (suc n)) h = let e : ⊥ = omega arith in absurd e

pub bits2 : (P : ℕ → ℕ → Type 0) → P 0 0 → P 0 1 → P 1 0 → P 1 1 → (x y : ℕ) → x < 2 → y < 2 → P x y
bits2 P a b c d x y hx hy = bit (λ (x : ℕ). P x y) (bit (P 0) a b y hy) (bit (P 1) c d y hy) x hx

pub mod2 : (n : ℕ) → n % 2 < 2
mod2 n = mod-lt n (zero-lt-suc 1)

pub xor_half : (a b : ℕ) → bit_xor a b / 2 ≡ bit_xor (a / 2) (b / 2)
xor_half a b = xor_shr a b 1

pub xor_odd : (a b : ℕ) → bit_xor a b % 2 ≡ bit_xor (a % 2) (b % 2)
xor_odd a b = xor_mod a b 1

xor_bit : (x y : ℕ) → x < 2 → y < 2 → differ x y ≡ bit_xor x y
xor_bit = bits2 (λ (x y : ℕ). differ x y ≡ bit_xor x y) refl refl refl refl

bit_assoc : (x y z : ℕ) → x < 2 → y < 2 → z < 2 → bit_xor (bit_xor x y) z ≡ bit_xor x (bit_xor y z)
bit_assoc x y z hx hy hz =
    bit (λ (z : ℕ). bit_xor (bit_xor x y) z ≡ bit_xor x (bit_xor y z))
    (bits2 (λ (x y : ℕ). bit_xor (bit_xor x y) 0 ≡ bit_xor x (bit_xor y 0)) refl refl refl refl x y hx hy)
    (bits2 (λ (x y : ℕ). bit_xor (bit_xor x y) 1 ≡ bit_xor x (bit_xor y 1)) refl refl refl refl x y hx hy) z hz

xor_digits : (a b : ℕ) → bit_xor a b ≡ bit_xor (a / 2) (b / 2) * 2 + bit_xor (a % 2) (b % 2)
xor_digits a b = xor_step a b ∙ ap (λ (x : ℕ). bit_xor (a / 2) (b / 2) * 2 + x) (xor_bit (a % 2) (b % 2) (mod2 a) (mod2 b))

pub xor_assoc : (a b c : ℕ) → bit_xor (bit_xor a b) c ≡ bit_xor a (bit_xor b c)
xor_assoc =
    bin_ind (λ (n : ℕ). (b c : ℕ) → bit_xor (bit_xor n b) c ≡ bit_xor n (bit_xor b c)) (λ b c. refl)
    (λ n ih b c. xor_digits (bit_xor n b) c
    ∙ ap₂ (λ (x y : ℕ). x * 2 + y)
    (ap (λ (x : ℕ). bit_xor x (c / 2)) (xor_half n b) ∙ ih (b / 2) (c / 2) ∙ ap (bit_xor (n / 2)) (sym (xor_half b c)))
    (ap (λ (x : ℕ). bit_xor x (c % 2)) (xor_odd n b)
    ∙ bit_assoc (n % 2) (b % 2) (c % 2) (mod2 n) (mod2 b) (mod2 c)
    ∙ ap (bit_xor (n % 2)) (sym (xor_odd b c)))
    ∙ sym (xor_digits n (bit_xor b c)))

-- (a + b) + (c + d) = (a + c) + (b + d)
pub xor_swap : (a b c d : ℕ) → bit_xor (bit_xor a b) (bit_xor c d) ≡ bit_xor (bit_xor a c) (bit_xor b d)
xor_swap a b c d =
    xor_assoc a b (bit_xor c d)
    ∙ ap (bit_xor a) (sym (xor_assoc b c d) ∙ ap (λ (x : ℕ). bit_xor x d) (xor_comm b c) ∙ xor_assoc c b d)
    ∙ sym (xor_assoc a c (bit_xor b d))

-- b + (a + b) = a
pub xor_back : (a b : ℕ) → bit_xor b (bit_xor a b) ≡ a
xor_back a b = xor_comm b (bit_xor a b) ∙ xor_assoc a b b ∙ ap (bit_xor a) (xor_self b) ∙ xor_zero_r a

pub xor_zero : (a b : ℕ) → bit_xor a b ≡ 0 → a ≡ b
xor_zero a b e = sym (xor_back a b) ∙ ap (bit_xor b) e ∙ xor_zero_r b

pub twice_half : (a : ℕ) → a * 2 / 2 ≡ a
twice_half a = omega arith

pub twice_odd : (a : ℕ) → a * 2 % 2 ≡ 0
twice_odd a = omega arith

-- x times a sum, and x^k times a sum
pub xor_twice : (a b : ℕ) → bit_xor a b * 2 ≡ bit_xor (a * 2) (b * 2)
xor_twice a b = sym (xor_digits (a * 2) (b * 2) ∙ simp (twice_half, twice_odd, add-zero))

pub xor_times : (k a b : ℕ) → bit_xor a b * 2 ^ k ≡ bit_xor (a * 2 ^ k) (b * 2 ^ k)
xor_times zero a b = simp mul-one
xor_times (suc k) a b = simp (pow-suc, ← mul_assoc) (ap (λ (x : ℕ). x * 2) (xor_times k a b) ∙ xor_twice (a * 2 ^ k) (b * 2 ^ k))

-- a sum of two digits times g
pub bit-times : (g x y : ℕ) → x < 2 → y < 2 → bit_xor x y * g ≡ bit_xor (x * g) (y * g)
bit-times g =
    bits2 (λ (x y : ℕ). bit_xor x y * g ≡ bit_xor (x * g) (y * g))
    (simp zero-mul) (simp zero-mul) (simp (zero-mul, xor_zero_r)) (simp (zero-mul, one-mul, xor_self))

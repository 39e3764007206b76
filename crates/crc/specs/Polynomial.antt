-- Polynomials with coefficients 0 and 1, and the remainder of a division. A polynomial is a number whose binary digits are its
-- coefficients: x^3 + x is 0b1010. Assumes nothing.
use Rattle.std.specs.Prelude.{◌≡◌, ℕ, zero, suc, ◌+◌, ◌*◌, ◌/◌, ◌%◌, ◌<◌, ◌≤◌}
use Rattle.std.specs.Int.Bits.{bit_xor}

-- so x ^ 3 + x, worked out as a number, is the polynomial x^3 + x, and `* x ^ n` is times x^n
abbrev pub x : ℕ
x = 2

-- the sum: 1 + 1 = 0 in each place
abbrev pub plus : ℕ → ℕ → ℕ
plus = bit_xor

-- the product q · g: x times the product of all digits of q but the last, plus the last digit times g. The first argument counts
-- the digits to go.
abbrev pub times_in : ℕ → ℕ → ℕ → ℕ
times_in zero q g = 0
times_in (suc n) q g = plus (times_in n (q / x) g * x) (q % x * g)

unfoldable pub times : ℕ → ℕ → ℕ
times q g = times_in q q g

-- g has degree 8
pub record Degree8 (g : ℕ) : Type 0 where
  pub least : 256 ≤ g
  pub most : g < 512

-- r is a remainder of m divided by g of degree 8: m = q · g + r for some q, and the degree of r is below 8
pub record Remainder (g m r : ℕ) : Type 0 where
  pub quotient : ℕ
  pub sum : m ≡ plus (times quotient g) r
  pub low : r < 256

-- The remainder worked out by long division: take that of all digits of m but the last, bring down the last digit, and where the
-- degree is now 8, subtract g. The first argument counts the digits to go.
abbrev pub remainder_in : ℕ → ℕ → ℕ → ℕ
remainder_in zero g m = 0
remainder_in (suc n) g zero = 0
remainder_in (suc n) g (suc m) =
    let r : ℕ = remainder_in n g (suc m / x) * x + suc m % x in
    plus r (r / 256 * g)

unfoldable pub remainder : ℕ → ℕ → ℕ
remainder g m = remainder_in m g m

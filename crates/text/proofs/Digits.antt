-- The digits of a number: put from the last to the first, and how many there are. Assumes nothing.
use Prim.Native.Nat.{ℕ, zero, suc, ◌+◌, ◌/◌, ◌%◌, ◌^◌, ◌<◌, ◌≤◌}
use mathlib.Core.Bool.{Bool, true, false}
use mathlib.Core.List.{List, [], ◌∷◌, ◌++◌}
use mathlib.Core.Path.{◌≡◌, refl, ap, subst, ◌∙◌}
use native.Mathlib.Omega.{arith}
use native.Mathlib.Nat.{div-lt_iff_lt-mul, zero-lt-suc, pow-suc}
use borrow.Author.Tests.{lt-ltb, le-ltb, ltb-false}
use lib.ListN.{length, length-append}
use lib.Dec.{ltb}
use Rattle.std.specs.Fmt.{decimal as std-decimal}
use Rattle.std.proofs.lemmas.Fmt.{decimal_by_steps}
use Rattle.text.specs.Pieces.{digits, decimal, newline, most_digits}

-- more fuel than the value changes nothing
digits-enough : (f g r : ℕ) → r < f → r < g → digits f r ≡ digits g r
digits-enough zero g r h k = absurd (omega arith)
digits-enough (suc f) zero r h k = absurd (omega arith)
digits-enough (suc f) (suc g) r h k = by (ltb r 10) refl (digits-enough f g (r / 10))
  where
    by : (b : Bool) → ltb r 10 ≡ b → (r / 10 < f → r / 10 < g → digits f (r / 10) ≡ digits g (r / 10)) → digits (suc f) r ≡ digits (suc g) r
    by true e more = rw e refl
    by false e more =
        let l = ltb-false r 10 e in
        rw e (ap (λ (ds : List ℕ). ds ++ ((48 + r % 10) ∷ [])) (more (omega arith) (omega arith)))

-- the library's digits are these
pub decimal_is : (n : ℕ) → n < 2 ^ 64 → std-decimal n ≡ decimal n
decimal_is =
    decimal_by_steps (λ (n : ℕ) (ds : List ℕ). ds ≡ decimal n) (λ n h. rw (lt-ltb n 10 h) refl)
    (λ n ds h e. rw (le-ltb n 10 h)
    (ap (λ (ds : List ℕ). ds ++ ((48 + n % 10) ∷ [])) (e ∙ digits-enough (suc (n / 10)) n (n / 10) (omega arith) (omega arith))))

-- 2^64: a number of 64 bits is below
abbrev pub bits64 : ℕ
bits64 = 18446744073709551616

room : (j r : ℕ) → 10 ≤ r → r < 10 ^ j → (k : ℕ) × ((j ≡ suc (suc k)) × (r / 10 < 10 ^ suc k))
room zero r p h = let z : 10 ^ 0 ≡ 1 = refl in absurd (omega arith)
room (suc zero) r p h = let z : 10 ^ 1 ≡ 10 = refl in absurd (omega arith)
room (suc (suc k)) r p h = (k, (refl, (div-lt_iff_lt-mul (zero-lt-suc 9)).1 (subst (λ (x : ℕ). r < x) (pow-suc 10 (suc k)) h)))

-- ---- how many there are: at most k of a number below 10^k, and one at least
pub digits-length : (f k n : ℕ) → n < 10 ^ suc k → length (digits f n) ≤ suc k
digits-length zero k n h = omega arith
digits-length (suc f) k n h = by (ltb n 10) refl (λ j. digits-length f j (n / 10))
  where
    by : (b : Bool) → ltb n 10 ≡ b → ((j : ℕ) → n / 10 < 10 ^ suc j → length (digits f (n / 10)) ≤ suc j)
        → length (digits (suc f) n) ≤ suc k
    by true e more = rw e (omega arith)
    by false e more =
        let m = room (suc k) n (ltb-false n 10 e) h in
        rw (e, length-append (digits f (n / 10)) ((48 + n % 10) ∷ [])) (omega (arith, m.1.0, more m.0 m.1.1))

pub decimal-length : (n : ℕ) → n < bits64 → length (decimal n) ≤ most_digits
decimal-length n h = let p : 10 ^ 20 ≡ 100000000000000000000 = refl in digits-length (suc n) 19 n (rw p (omega arith))

pub decimal-some : (n : ℕ) → 0 < length (decimal n)
decimal-some n = by (ltb n 10) refl
  where
    by : (b : Bool) → ltb n 10 ≡ b → 0 < length (decimal n)
    by true e = rw e (omega arith)
    by false e = rw (e, length-append (digits n (n / 10)) ((48 + n % 10) ∷ [])) (omega arith)

-- so the library's have room
pub digits_fit : (n : ℕ) → n < 2 ^ 64 → length (std-decimal n) ≤ most_digits
digits_fit n h = rw (decimal_is n h) (decimal-length n h)

-- a line's last number and its end
pub end_length : (n : ℕ) → n < bits64 → length (decimal n ++ newline) ≤ most_digits + 1
end_length n h = rw (length-append (decimal n) newline) (omega (arith, decimal-length n h))

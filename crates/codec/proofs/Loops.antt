-- What the loops' turns cite. Assumes nothing.
use Prim.Native.Nat.{ℕ, suc, ◌+◌, ◌*◌, ◌/◌, ◌%◌, ◌^◌, ◌<◌, ◌≤◌}
use mathlib.Core.List.{List, [], ◌∷◌, ◌++◌}
use mathlib.Core.Path.{◌≡◌, refl, ap, ◌∙◌}
use native.Mathlib.Omega.{arith}
use native.Mathlib.Numerals.{add-one}
use native.Mathlib.Nat.{mul_assoc}
use lib.Arith.{digits_lt}
use lib.Pow.{pow-add, pow_mono}
use lib.ListN.{length, take, get_or, set, replicate, length-append}
use lib.Seq.{sets, length-sets, set_comm, take-suc}
use Rattle.codec.specs.Digits.{sum, number_of, bytes_of}
use Rattle.codec.proofs.Digits.{sum_eights}

-- one byte more at the end
pub number_snoc : (xs : List ℕ) (x : ℕ) → number_of (xs ++ x ∷ []) ≡ number_of xs * 256 + x
number_snoc [] x = omega arith
number_snoc (y ∷ xs) x =
    let n = length xs in
    let l : length (xs ++ x ∷ []) ≡ n + 1 = length-append xs (x ∷ []) in
    let e : 2 ^ (8 * (n + 1)) ≡ 2 ^ (8 * n) * 256 = ap (λ (k : ℕ). 2 ^ k) (let g : 8 * (n + 1) ≡ 8 * n + 8 = omega arith in g) ∙ pow-add 2 (8 * n) 8 in
    let h : y * 2 ^ sum (replicate (length (xs ++ x ∷ [])) 8) ≡ y * 2 ^ sum (replicate n 8) * 256 =
    rw (sum_eights, l, e, ← mul_assoc, sum_eights) in
    omega (arith, h, number_snoc xs x)

pub number_turn : (s : List ℕ) (i n : ℕ) → i < length s → n ≡ number_of (take i s)
    → n * 256 + get_or s i 0 ≡ number_of (take (i + 1) s)
number_turn s i n h e = rw (add-one, take-suc s i 0 h, number_snoc, e)

pub small : (n i : ℕ) → n < 2 ^ (8 * i) → i ≤ 4 → n < 4294967296
small n i h l = let p : 2 ^ (8 * i) ≤ 2 ^ 32 = pow_mono {j = 32} (omega arith) in omega arith

pub digit : (n b i : ℕ) → n < 2 ^ (8 * i) → b < 256 → n * 256 + b < 2 ^ (8 * (i + 1))
digit n b i h l =
    let e : 8 * (i + 1) ≡ 8 * i + 8 = omega arith in
    rw (e, pow-add) (digits_lt h l)

-- one byte more in front
pub sets_front : (vs l : List ℕ) (i j a : ℕ) → i < j → set (sets l j vs) i a ≡ sets (set l i a) j vs
sets_front [] l i j a h = refl
sets_front (v ∷ vs) l i j a h =
    rw (sets_front vs (set l j v) i (suc j) a (omega arith), set_comm l j i v a (λ e. omega arith))

pub put_turn : (l : List ℕ) (at j n : ℕ) → set (sets l (suc at) (bytes_of j n)) at (n / 2 ^ (8 * j) % 256) ≡ sets l at (bytes_of (suc j) n)
put_turn l at j n = rw (sets_front (bytes_of j n) l at (suc at) (n / 2 ^ (8 * j) % 256) (omega arith), ← (sum_eights j))

pub sets_append : (a b l : List ℕ) (i : ℕ) → sets l i (a ++ b) ≡ sets (sets l i a) (i + length a) b
sets_append [] b l i = let e : i + 0 ≡ i = omega arith in rw e
sets_append (x ∷ a) b l i = let e : suc i + length a ≡ i + suc (length a) = omega arith in rw (sets_append a b (set l i x) (suc i), e)

pub kept : (l vs : List ℕ) (i : ℕ) {s : List ℕ} → s ≡ sets l i vs → length s ≡ length l
kept l vs i e = ap length e ∙ length-sets l i vs

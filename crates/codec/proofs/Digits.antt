-- The law of digits, once over their widths: a number's digits give it back, and digits that fit come back from their number. Assumes nothing.
use Prim.Native.Nat.{ℕ, zero, suc, ◌+◌, ◌*◌, ◌/◌, ◌%◌, ◌^◌, ◌<◌}
use mathlib.Core.List.{List, [], ◌∷◌}
use mathlib.Core.Path.{◌≡◌, refl, ap, sym, ◌∙◌}
use native.Mathlib.Omega.{arith}
use native.Mathlib.Nat.{mod-eq_of_lt, mul_assoc, mul-add-div_right, mul-add-mod_self_right, mod-one}
use lib.Arith.{digits_lt, digits_div, mod-mul}
use lib.Pow.{pow_pos, pow-add}
use lib.ListN.{length, replicate, length-replicate}
use Rattle.codec.specs.Digits.{sum, join, split, number_of, bytes_of}

-- each digit is below its own power
abbrev pub Fit : List ℕ → List ℕ → Type 0
Fit [] [] = Unit {0}
Fit [] (v ∷ vs) = ⊥
Fit (b ∷ bs) [] = ⊥
Fit (b ∷ bs) (v ∷ vs) = (v < 2 ^ b) × Fit bs vs

pub join_lt : (bs vs : List ℕ) → Fit bs vs → join bs vs < 2 ^ sum bs
join_lt [] [] h = omega arith
join_lt [] (v ∷ vs) h = absurd h
join_lt (b ∷ bs) [] h = absurd h
join_lt (b ∷ bs) (v ∷ vs) h = rw (pow-add 2 b (sum bs)) (digits_lt h.0 (join_lt bs vs h.1))

pub split-high : (bs : List ℕ) (m n : ℕ) → split bs (m * 2 ^ sum bs + n) ≡ split bs n
split-high [] m n = refl
split-high (b ∷ bs) m n =
    rw (pow-add 2 b (sum bs), ← mul_assoc m (2 ^ b) (2 ^ sum bs), mul-add-div_right (pow_pos (sum bs)) (m * 2 ^ b) n, mul-add-mod_self_right m (2 ^ b))
    (ap (λ (l : List ℕ). n / 2 ^ sum bs % 2 ^ b ∷ l) (split-high bs (m * 2 ^ b) n))

-- fields → number → fields
pub split-join : (bs vs : List ℕ) → Fit bs vs → split bs (join bs vs) ≡ vs
split-join [] [] h = refl
split-join [] (v ∷ vs) h = absurd h
split-join (b ∷ bs) [] h = absurd h
split-join (b ∷ bs) (v ∷ vs) h =
    rw (split-high bs v (join bs vs), digits_div v (join_lt bs vs h.1), mod-eq_of_lt h.0, split-join bs vs h.1)

-- number → fields → number
pub join-split : (bs : List ℕ) (n : ℕ) → join bs (split bs n) ≡ n % 2 ^ sum bs
join-split [] n = sym (mod-one n)
join-split (b ∷ bs) n =
    rw (join-split bs n, pow-add 2 b (sum bs)) (sym (mod-mul n (pow_pos b) (pow_pos (sum bs))))

pub length-split : (bs : List ℕ) (n : ℕ) → length (split bs n) ≡ length bs
length-split [] n = refl
length-split (b ∷ bs) n = ap suc (length-split bs n)

pub sum_eights : (w : ℕ) → sum (replicate w 8) ≡ 8 * w
sum_eights zero = refl
sum_eights (suc w) = let h = sum_eights w in omega arith

pub length-bytes_of : (w n : ℕ) → length (bytes_of w n) ≡ w
length-bytes_of w n = length-split (replicate w 8) n ∙ length-replicate w 8

-- THE fact about a big-endian number, over its width
pub number-bytes : (w n : ℕ) → n < 2 ^ (8 * w) → number_of (bytes_of w n) ≡ n
number-bytes w n h = rw (length-bytes_of w n, join-split, sum_eights) (mod-eq_of_lt h)

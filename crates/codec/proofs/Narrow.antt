-- A field changed on the bytes that hold it: the item's bytes before and behind these are written as they were. Assumes nothing.
use Prim.Native.Nat.{ℕ, zero, suc, ◌+◌, ◌-◌, ◌*◌, ◌/◌, ◌%◌, ◌^◌, ◌<◌, ◌≤◌}
use mathlib.Core.List.{List, [], ◌∷◌, ◌++◌}
use mathlib.Core.Path.{◌≡◌, refl, ap, sym, ◌∙◌}
use native.Mathlib.Omega.{arith}
use native.Mathlib.Nat.{mod-lt, mul_comm, div-add-mod', div-div-eq-div-mul, div-lt_iff_lt-mul, mul-add-div_right, mul-add-mod_self_right}
use lib.Arith.{digits_lt, digits_div, digits_mod, mod-mul}
use lib.Pow.{pow_pos, pow-add, shr-shr}
use lib.ListN.{length, take, drop, get_or, set, replicate, length-append, length-drop}
use lib.Seq.{sets, length-take-le, take-add, drop-drop, drop-cons, set-get_or, drop-set-lt, get_or-set_other, length-sets}
use Rattle.codec.specs.Digits.{sum, number_of, bytes_of}
use Rattle.codec.specs.Edit.{replaced}
use Rattle.crc.specs.Check.{Bytes}
use Rattle.crc.proofs.Laws.{bytes_take}
use Rattle.codec.proofs.Digits.{split-high, sum_eights, length-bytes_of}
use Rattle.codec.proofs.Forth.{bytes_drop, bytes-number}
use Rattle.codec.proofs.Loops.{sets_append}

-- a byte outside the window is as it was
pub sets-before : (o bs : List ℕ) (at k : ℕ) → k < at → get_or (sets o at bs) k 0 ≡ get_or o k 0
sets-before o [] at k h = refl
sets-before o (b ∷ bs) at k h = sets-before (set o at b) bs (suc at) k (omega arith) ∙ get_or-set_other o at k b 0 (λ (e : k ≡ at). omega (arith, e))

pub sets_behind : (o bs : List ℕ) (at k : ℕ) → at + length bs ≤ k → get_or (sets o at bs) k 0 ≡ get_or o k 0
sets_behind o [] at k h = refl
sets_behind o (b ∷ bs) at k h = sets_behind (set o at b) bs (suc at) k (omega arith) ∙ get_or-set_other o at k b 0 (λ (e : k ≡ at). omega (arith, e))

-- bytes written over themselves
drop-sets : (bs o : List ℕ) (at k : ℕ) → at + length bs ≤ k → drop k (sets o at bs) ≡ drop k o
drop-sets [] o at k h = refl
drop-sets (b ∷ bs) o at k h = drop-sets bs (set o at b) (suc at) k (omega arith) ∙ drop-set-lt k o at b (omega arith)

sets_same : (o : List ℕ) (at k : ℕ) → at + k ≤ length o → sets o at (take k (drop at o)) ≡ o
sets_same o at zero h = refl
sets_same o at (suc k) h =
    ap (λ (q : List ℕ). sets o at (take (suc k) q)) (drop-cons o at 0 (omega arith))
    ∙ (ap (λ (q : List ℕ). sets q (suc at) (take k (drop (suc at) o))) (set-get_or o at 0) ∙ sets_same o (suc at) k (omega arith))

sets-inside : (o bs : List ℕ) (at front v back : ℕ) → at + (front + (v + back)) ≤ length o → length bs ≡ v
    → sets o at (take front (drop at o) ++ (bs ++ take back (drop (at + front + v) o))) ≡ sets o (at + front) bs
sets-inside o bs at front v back h l =
    let hs = take front (drop at o) in
    let ls = take back (drop (at + front + v) o) in
    let r : front ≤ length (drop at o) = rw length-drop (omega arith) in
    let n : length hs ≡ front = length-take-le front (drop at o) r in
    let w = sets o (at + front) bs in
    let d : drop (at + front + v) o ≡ drop (at + front + v) w = sym (drop-sets bs o (at + front) (at + front + v) (omega arith)) in
    let k : at + front + v + back ≤ length w = rw length-sets (omega arith) in
    rw (sets_append hs (bs ++ ls) o at, n, sets_same o at front (omega arith), sets_append bs ls o (at + front), l)
    (ap (λ (q : List ℕ). sets w (at + front + v) (take back q)) d ∙ sets_same w (at + front + v) back k)

-- a digit replaced: what stands above it, the new digit, what stands below it
parted : (x a d r u m n : ℕ) → (a * m + d) * u + r ≡ x → x - d * u + n * u ≡ (a * m + n) * u + r
parted x a d r u m n h = omega arith

replaced_as : (u m x n : ℕ) → replaced u m x n ≡ (x / u / m * m + n) * u + x % u
replaced_as u m x n =
    let e : (x / u / m * m + x / u % m) * u + x % u ≡ x = rw (div-add-mod' (x / u) m) (div-add-mod' x u) in
    parted x (x / u / m) (x / u % m) (x % u) u m n e

digit_lt : (u m k x n : ℕ) → 0 < u → 0 < m → x < k * m * u → n < m → replaced u m x n < k * m * u
digit_lt u m k x n p q h l =
    let a : x / u < k * m = (div-lt_iff_lt-mul p).1 h in
    let b : x / u / m < k = (div-lt_iff_lt-mul q).1 a in
    rw (replaced_as u m x n) (digits_lt (digits_lt b l) (mod-lt x p))

-- whole digits above are carried along, and so is what is below
replaced_under : (u m k h x n : ℕ) → 0 < u → 0 < m → replaced u m (h * (k * m * u) + x) n ≡ h * (k * m * u) + replaced u m x n
replaced_under u m k h x n p q =
    let e : h * (k * m * u) + x ≡ h * k * m * u + x = omega arith in
    rw (
      e,
      replaced_as u m (h * k * m * u + x) n,
      replaced_as u m x n,
      mul-add-div_right p (h * k * m) x,
      mul-add-div_right q (h * k) (x / u),
      mul-add-mod_self_right (h * k * m) u x,
    )
    (omega arith)

replaced_above : (t u m x l n : ℕ) → 0 < t → 0 < u → l < t → replaced (t * u) m (x * t + l) n ≡ replaced u m x n * t + l
replaced_above t u m x l n p q h =
    let d : (x * t + l) / (t * u) ≡ x / u = sym (div-div-eq-div-mul (x * t + l) t u) ∙ ap (λ (z : ℕ). z / u) (digits_div x h) in
    let r : (x * t + l) % (t * u) ≡ x % u * t + l = rw (mul_comm t u, mod-mul (x * t + l) q p, digits_div x h, digits_mod x h) in
    rw (replaced_as (t * u) m (x * t + l) n, replaced_as u m x n, d, r) (omega arith)

-- the bits of the window: those above the field, the field, those below it
window : (v shift b : ℕ) → shift + b ≤ 8 * v → 2 ^ (8 * v) ≡ 2 ^ (8 * v - (shift + b)) * 2 ^ b * 2 ^ shift
window v shift b h =
    let k = 8 * v - (shift + b) in
    let e : 8 * v ≡ k + b + shift = omega arith in
    ap (λ (z : ℕ). 2 ^ z) e ∙ rw (pow-add 2 (k + b) shift, pow-add 2 k b)

-- the replaced number fits its bytes
pub replaced-small : (v shift b x n : ℕ) → x < 2 ^ (8 * v) → shift + b ≤ 8 * v → n < 2 ^ b → replaced (2 ^ shift) (2 ^ b) x n < 2 ^ (8 * v)
replaced-small v shift b x n h f l =
    let w = window v shift b f in
    rw w (digit_lt (2 ^ shift) (2 ^ b) (2 ^ (8 * v - (shift + b))) x n (pow_pos shift) (pow_pos b) (rw w at h) l)

replaced-inside : (v back shift b n h m l : ℕ) → l < 2 ^ (8 * back) → shift + b ≤ 8 * v
    → replaced (2 ^ (8 * back + shift)) (2 ^ b) (h * 2 ^ (8 * (v + back)) + (m * 2 ^ (8 * back) + l)) n
    ≡ h * 2 ^ (8 * (v + back)) + (replaced (2 ^ shift) (2 ^ b) m n * 2 ^ (8 * back) + l)
replaced-inside v back shift b n h m l k f =
    let t = 2 ^ (8 * back) in
    let w = 2 ^ (8 * v) in
    let y = replaced (2 ^ shift) (2 ^ b) m n in
    let e : 2 ^ (8 * (v + back)) ≡ w * t = let i : 8 * (v + back) ≡ 8 * v + 8 * back = omega arith in ap (λ (z : ℕ). 2 ^ z) i ∙ pow-add 2 (8 * v) (8 * back) in
    let a : h * (w * t) + (m * t + l) ≡ (h * w + m) * t + l = omega arith in
    let c : h * (w * t) + (y * t + l) ≡ (h * w + y) * t + l = omega arith in
    let u : replaced (2 ^ shift) (2 ^ b) (h * w + m) n ≡ h * w + y =
    rw (window v shift b f) (replaced_under (2 ^ shift) (2 ^ b) (2 ^ (8 * v - (shift + b))) h m n (pow_pos shift) (pow_pos b)) in
    rw (e, pow-add 2 (8 * back) shift, a, c, replaced_above t (2 ^ shift) (2 ^ b) (h * w + m) l n (pow_pos (8 * back)) (pow_pos shift) k, u)

-- bytes one after the other
number_append : (a b : List ℕ) (w : ℕ) → length b ≡ w → number_of (a ++ b) ≡ number_of a * 2 ^ (8 * w) + number_of b
number_append [] b w l = omega arith
number_append (x ∷ a) b w l =
    let i : 8 * (length a + w) ≡ 8 * length a + 8 * w = omega arith in
    let e : 2 ^ sum (replicate (length (a ++ b)) 8) ≡ 2 ^ sum (replicate (length a) 8) * 2 ^ (8 * w) =
    rw (sum_eights (length (a ++ b)), sum_eights (length a), length-append a b, l, i) (pow-add 2 (8 * length a) (8 * w)) in
    rw e (omega (arith, number_append a b w l))

bytes_append : (a b x y : ℕ) → y < 2 ^ (8 * b) → bytes_of (a + b) (x * 2 ^ (8 * b) + y) ≡ bytes_of a x ++ bytes_of b y
bytes_append zero b x y h =
    let i : 0 + b ≡ b = omega arith in
    rw (i, ← (sum_eights b)) (split-high (replicate b 8) x y)
bytes_append (suc a) b x y h =
    let i : suc a + b ≡ suc (a + b) = omega arith in
    let j : 8 * (a + b) ≡ 8 * b + 8 * a = omega arith in
    let d : (x * 2 ^ (8 * b) + y) / 2 ^ sum (replicate (a + b) 8) ≡ x / 2 ^ sum (replicate a 8) =
    rw (sum_eights (a + b), sum_eights a, j, ← (shr-shr (x * 2 ^ (8 * b) + y) (8 * b) (8 * a)), digits_div x h) in
    rw (i, d) (ap (λ (q : List ℕ). x / 2 ^ sum (replicate a 8) % 256 ∷ q) (bytes_append a b x y h))

-- THE narrow change: an item's field of b bits, held by v of its bytes with `shift` bits below it there, is changed by writing these bytes alone
pub narrow : (o : List ℕ) (at front v back shift b n : ℕ) → Bytes o → at + (front + (v + back)) ≤ length o → shift + b ≤ 8 * v → n < 2 ^ b
    → sets o at (bytes_of (front + (v + back)) (replaced (2 ^ (8 * back + shift)) (2 ^ b) (number_of (take (front + (v + back)) (drop at o))) n))
    ≡ sets o (at + front) (bytes_of v (replaced (2 ^ shift) (2 ^ b) (number_of (take v (drop (at + front) o))) n))
narrow o at front v back shift b n y r f l =
    let hs = take front (drop at o) in
    let ms = take v (drop (at + front) o) in
    let ls = take back (drop (at + front + v) o) in
    let rh : front ≤ length (drop at o) = rw length-drop (omega arith) in
    let rm : v ≤ length (drop (at + front) o) = rw length-drop (omega arith) in
    let rl : back ≤ length (drop (at + front + v) o) = rw length-drop (omega arith) in
    let lm : length ms ≡ v = length-take-le v (drop (at + front) o) rm in
    let ll : length ls ≡ back = length-take-le back (drop (at + front + v) o) rl in
    let lr : length (ms ++ ls) ≡ v + back = rw (length-append, lm, ll) in
    let h = bytes-number hs front (length-take-le front (drop at o) rh) (bytes_take front (drop at o) (bytes_drop at o y)) in
    let m = bytes-number ms v lm (bytes_take v (drop (at + front) o) (bytes_drop (at + front) o y)) in
    let e = bytes-number ls back ll (bytes_take back (drop (at + front + v) o) (bytes_drop (at + front + v) o y)) in
    let s : take (front + (v + back)) (drop at o) ≡ hs ++ (ms ++ ls) =
    rw (take-add front (v + back) (drop at o), drop-drop front at o, take-add v back (drop (at + front) o), drop-drop v (at + front) o) in
    let x : number_of (take (front + (v + back)) (drop at o)) ≡ number_of hs * 2 ^ (8 * (v + back)) + (number_of ms * 2 ^ (8 * back) + number_of ls) =
    ap number_of s ∙ (number_append hs (ms ++ ls) (v + back) lr ∙ ap (λ (z : ℕ). number_of hs * 2 ^ (8 * (v + back)) + z) (number_append ms ls back ll)) in
    let c = replaced (2 ^ shift) (2 ^ b) (number_of ms) n in
    let k : c < 2 ^ (8 * v) = replaced-small v shift b (number_of ms) n m.1 f l in
    let i : 8 * (v + back) ≡ 8 * v + 8 * back = omega arith in
    let q : c * 2 ^ (8 * back) + number_of ls < 2 ^ (8 * (v + back)) = rw (i, pow-add 2 (8 * v) (8 * back)) (digits_lt k e.1) in
    let z : bytes_of (front + (v + back)) (number_of hs * 2 ^ (8 * (v + back)) + (c * 2 ^ (8 * back) + number_of ls)) ≡ hs ++ (bytes_of v c ++ ls) =
    rw (bytes_append front (v + back) (number_of hs) (c * 2 ^ (8 * back) + number_of ls) q, bytes_append v back c (number_of ls) e.1, h.0, e.0) in
    rw (x, replaced-inside v back shift b n (number_of hs) (number_of ms) (number_of ls) e.1 f, z)
    (sets-inside o (bytes_of v c) at front v back r (length-bytes_of v c))

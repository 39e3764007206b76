-- A packed item from the number of its bytes, once over all packed items. Assumes nothing.
use Prim.Native.Nat.{ℕ, ◌+◌, ◌-◌, ◌*◌, ◌/◌, ◌%◌, ◌^◌, ◌<◌, ◌≤◌}
use mathlib.Core.Bool.{Bool, true, false}
use mathlib.Core.List.{List, [], ◌∷◌}
use mathlib.Core.Path.{◌≡◌, refl, ap, sym, ◌∙◌}
use native.Mathlib.Omega.{arith}
use native.Mathlib.Nat.{div-one, mod-eq_of_lt, mod-lt, mul_assoc, div-add-mod'}
use lib.ListN.{length, take}
use lib.Dec.{ltb, leb}
use lib.Pow.{pow_pos, pow-add}
use borrow.Author.Tests.{le-ltb, lt-ltb, leb-true}
use Rattle.codec.specs.Pick.{pick}
use Rattle.codec.specs.Digits.{sum, split, number_of, bytes_of}
use Rattle.codec.specs.Sheet.{Field, field, Item, packed, number, byte, flag, widths, got, refused}
use Rattle.codec.specs.Reading.{within, read_item}
use Rattle.codec.specs.Writing.{ok_item, item_bytes}
use Rattle.codec.specs.Told.{bit}
use Rattle.codec.specs.Sound.{sound_fields, sound_item}
use Rattle.codec.proofs.Digits.{split-high}
use Rattle.codec.proofs.Items.{judged, alone, ltb-zero}
use Rattle.codec.proofs.Back.{both}

-- bits above the fields are not looked at
pub split-low : (bs : List ℕ) (w n : ℕ) → sum bs ≤ w → split bs (n % 2 ^ w) ≡ split bs n
split-low bs w n h =
    let k = w - sum bs in
    let e : w ≡ k + sum bs = omega arith in
    let q = n / 2 ^ w in
    let f : 2 ^ w ≡ 2 ^ k * 2 ^ sum bs = ap (λ (m : ℕ). 2 ^ m) e ∙ pow-add 2 k (sum bs) in
    let g : n ≡ q * 2 ^ k * 2 ^ sum bs + n % 2 ^ w = rw (mul_assoc q (2 ^ k) (2 ^ sum bs), ← f) (sym (div-add-mod' n (2 ^ w))) in
    sym (ap (split bs) g ∙ split-high bs (q * 2 ^ k) (n % 2 ^ w))

-- the number of w bytes, whatever it is
abbrev pub bare : ℕ → Item
bare w = number w 0 (2 ^ (8 * w) - 1)

bare_in : (w x : ℕ) → within (field (8 * w) 0 (2 ^ (8 * w) - 1) ∷ []) (x % 2 ^ (8 * w) ∷ []) ≡ true
bare_in w x =
    let l = mod-lt x (pow_pos (8 * w)) in
    rw (le-ltb (x % 2 ^ (8 * w)) 0 (omega arith), le-ltb (2 ^ (8 * w) - 1) (x % 2 ^ (8 * w)) (omega arith))

packed-by : (w : ℕ) (fs : List Field) (s : List ℕ) (a : Bool) (v : List ℕ) (n p : ℕ) → ltb (length s) w ≡ a
    → pick a (refused 1 0) (got (number_of (take w s) % 2 ^ (8 * w) ∷ [])) ≡ refused n p → read_item (packed w fs) s ≡ refused n p
unfolding read_item
packed-by w fs s true v n p e h = rw e h
packed-by w fs s false v n p e h = let z : ◌≡◌ {A = ℕ} 0 1 = cc in absurd (omega arith)

bare_is : (w : ℕ) (s : List ℕ) → read_item (bare w) s ≡ pick (ltb (length s) w) (refused 1 0) (got (number_of (take w s) % 2 ^ (8 * w) ∷ []))
unfolding read_item
bare_is w s = rw (div-one (number_of (take w s)), bare_in w (number_of (take w s)))

-- what refuses the bytes' number refuses the item
pub packed-not : (w : ℕ) (fs : List Field) (s : List ℕ) (n p : ℕ) → read_item (bare w) s ≡ refused n p → read_item (packed w fs) s ≡ refused n p
packed-not w fs s n p h = packed-by w fs s (ltb (length s) w) [] n p refl (sym (bare_is w s) ∙ h)

got-by : (w : ℕ) (fs : List Field) (s : List ℕ) (a : Bool) (n : ℕ) → sound_item (packed w fs) ≡ true → ltb (length s) w ≡ a
    → pick a (refused 1 0) (got (number_of (take w s) % 2 ^ (8 * w) ∷ [])) ≡ got (n ∷ []) → read_item (packed w fs) s ≡ judged fs n
unfolding read_item
got-by w fs s true n o e h = let z : ◌≡◌ {A = ℕ} 0 1 = cc in absurd (omega arith)
got-by w fs s false n o e h =
    let k : n ≡ number_of (take w s) % 2 ^ (8 * w) = cc in
    let b = both (leb (sum (widths fs)) (8 * w)) (sound_fields fs) o in
    rw (e, k, split-low (widths fs) (8 * w) (number_of (take w s)) (leb-true (sum (widths fs)) (8 * w) b.0))

-- else the item's fields are that number's, and are judged
pub packed-got : (w : ℕ) (fs : List Field) (s : List ℕ) (n : ℕ) → sound_item (packed w fs) ≡ true → read_item (bare w) s ≡ got (n ∷ [])
    → read_item (packed w fs) s ≡ judged fs n
packed-got w fs s n o h = got-by w fs s (ltb (length s) w) n o refl (sym (bare_is w s) ∙ h)

-- ---- the bytes of numbers that fit
pub byte-bytes : (n : ℕ) → n < 256 → bytes_of 1 n ≡ n ∷ []
byte-bytes n h = rw (div-one n, mod-eq_of_lt h)

pub byte-item : (n : ℕ) → n < 256 → item_bytes byte (n ∷ []) ≡ n ∷ []
byte-item n h = rw (alone n) (byte-bytes n h)

-- a flag's number is that of a byte
pub bit-small : (b : Bool) → bit b < 256
bit-small true = omega arith
bit-small false = omega arith

pub byte_ok : (n : ℕ) → n < 256 → ok_item byte (n ∷ []) ≡ true
byte_ok n h = rw (ltb-zero n, le-ltb 255 n (omega arith))

pub number_ok : (w lo hi n : ℕ) → lo ≤ n → n ≤ hi → ok_item (number w lo hi) (n ∷ []) ≡ true
number_ok w lo hi n g h = rw (le-ltb n lo g, le-ltb hi n h)

pub number-over : (w lo hi n : ℕ) → hi < n → ok_item (number w lo hi) (n ∷ []) ≡ false
number-over w lo hi n h = by (ltb n lo)
  where
    by : (t : Bool) → pick t false (pick (ltb hi n) false true) ≡ false
    by true = refl
    by false = rw (lt-ltb hi n h)

pub flag_ok : (b : Bool) → ok_item flag (bit b ∷ []) ≡ true
flag_ok true = refl
flag_ok false = refl

-- A number put into its field where it stands, and the check renewed: what the code reads and stores. Assumes nothing.
use Rattle.std.specs.Prelude.{Result, Ok, Err}
use Prim.Native.Nat.{ℕ, suc, ◌+◌, ◌-◌, ◌*◌, ◌/◌, ◌%◌, ◌^◌, ◌<◌, ◌≤◌}
use mathlib.Core.List.{List, [], ◌∷◌}
use mathlib.Core.Path.{◌≡◌, refl, sym, ap, ◌∙◌}
use native.Mathlib.Omega.{arith}
use native.Mathlib.Nat.{le_trans, lt_of_lt_of_le, mod-le, mul-le-mul_right, div-mul-le_self}
use lib.ListN.{length, take, drop, get_or, set, replicate, length-drop}
use lib.Seq.{lt-length-set, length-take-le, drop-cons, get_or-set_same}
use lib.Pow.{pow_mono}
use borrow.Author.Tests.{le-ltb}
use Rattle.crc.specs.Polynomial.{plus}
use Rattle.crc.specs.Check.{command_polynomial, check_from, Bytes}
use Rattle.crc.proofs.Laws.{bytes_take}
use Rattle.crc.proofs.Renewed.{byte_renewed}
use Rattle.codec.specs.Digits.{number_of, bytes_of}
use Rattle.codec.specs.Sheet.{got, number}
use Rattle.codec.specs.Reading.{read_item}
use Rattle.codec.specs.Writing.{put_at}
use Rattle.codec.specs.Edit.{replaced}
use Rattle.codec.specs.Told.{told_number}
use Rattle.codec.specs.declared.refusal.Refusal.{Refusal}
use Rattle.codec.proofs.Digits.{length-bytes_of}
use Rattle.codec.proofs.Forth.{bytes_drop, bytes-number}
use Rattle.codec.proofs.Items.{number_is_lem}
use Rattle.codec.proofs.Narrow.{sets_behind}
use Rattle.codec.proofs.Writes.{put-fits}
use Rattle.edits.specs.Change.{held, patched, changed}

-- what a field counts for is a part of the number
pub field-part : (x u m : ℕ) → x / u % m * u ≤ x
field-part x u m = le_trans (mul-le-mul_right u (mod-le (x / u) m)) (div-mul-le_self x u)

module _ (s : List ℕ) (at v w : ℕ) (y : Bytes s) (e : v ≡ w) (l : w ≤ 4) (h : at + w < length s) where
  -- a number of at most 4 bytes that are there is never refused
  number-got : read_item (number v 0 4294967295) (drop at s) ≡ got (number_of (held s at w) ∷ [])
  number-got =
      let d : w ≤ length (drop at s) = rw length-drop (omega arith) in
      let n = number_of (held s at w) in
      let b = (bytes-number (held s at w) w (length-take-le w (drop at s) d) (bytes_take w (drop at s) (bytes_drop at s y))).1 in
      let q : 8 * w ≤ 32 = omega arith in
      let k : n < 2 ^ 32 = lt_of_lt_of_le b (pow_mono q) in
      rw (e, number_is_lem w 0 4294967295 s at n (omega arith) (refl, b), le-ltb n 0 (omega arith), le-ltb 4294967295 n (omega arith))

  pub number-held : (r : Result ℕ Refusal) (x : ℕ) → r ≡ Ok x → told_number r ≡ read_item (number v 0 4294967295) (drop at s)
      → x ≡ number_of (held s at w)
  number-held r x f t =
      let g : got (x ∷ []) ≡ got (number_of (held s at w) ∷ []) = (rw f at t) ∙ number-got in cc

  pub never_refused : (r : Result ℕ Refusal) (k : Refusal) → r ≡ Err k → told_number r ≡ read_item (number v 0 4294967295) (drop at s) → ⊥
  never_refused r k f t =
      let g = (rw f at t) ∙ number-got in
      let z : ◌≡◌ {A = ℕ} 0 1 = cc in omega arith

-- what is stored where the bytes have room
pub field_put : (s t : List ℕ) (at v w u m n x k : ℕ) → v ≡ w → at + w < length s → x ≡ number_of (held s at w) → k ≡ replaced u m x n
    → t ≡ put_at s at (bytes_of v k) → t ≡ patched s at w u m n
field_put s t at v w u m n x k e h f g p =
    let y = replaced u m (number_of (held s at w)) n in
    let q : t ≡ put_at s at (bytes_of w y) = rw (e, g, f) at p in
    q ∙ put-fits s at (bytes_of w y) (rw length-bytes_of (omega arith))

-- the last byte is as it was, and the checks are those of the bytes of the field
pub check-put : (s t : List ℕ) (at w u m n a b f : ℕ) → at + w < length s → t ≡ patched s at w u m n
    → a ≡ check_from command_polynomial 0 (take (at + w - at) (drop at s)) → b ≡ check_from command_polynomial 0
    (take (at + w - at) (drop at t))
    → f ≡ check_from command_polynomial (plus a b) (replicate (length s - 1 - (at + w)) 0)
    → set t (length s - 1) (plus (get_or t (length s - 1) 0) f) ≡ changed s at w u m n
check-put s t at w u m n a b f h p x y z =
    let d : at + w - at ≡ w = omega arith in
    let c = bytes_of w (replaced u m (number_of (held s at w)) n) in
    let g : get_or (patched s at w u m n) (length s - 1) 0 ≡ get_or s (length s - 1) 0 = sets_behind s c at (length s - 1)
    (rw length-bytes_of (omega arith)) in
    rw (z, x, y, d, p, g)

-- ---- one byte
byte-held : (s : List ℕ) (at : ℕ) → at < length s → held s at 1 ≡ get_or s at 0 ∷ []
byte-held s at h = rw (drop-cons s at 0 h)

-- it is its own number
pub byte-number : (s : List ℕ) (at : ℕ) → at < length s → number_of (held s at 1) ≡ get_or s at 0
byte-number s at h = rw (byte-held s at h) (omega arith)

byte_put : (s : List ℕ) (at u m n k : ℕ) → at < length s → k ≡ replaced u m (get_or s at 0) n → set s at (k % 256) ≡ patched s at 1 u m n
byte_put s at u m n k h e =
    let d : k / 1 ≡ k = omega arith in
    rw (byte-number s at h, ← e, d)

-- the check of the difference
pub check-byte : (s : List ℕ) (at u m n k f : ℕ) → get_or s at 0 < 256 → at + 1 < length s → k ≡ replaced u m (get_or s at 0) n
    → f ≡ check_from command_polynomial (plus (get_or s at 0) (k % 256)) (replicate (length s - 1 - at) 0)
    → set (set s at (k % 256)) (length s - 1) (plus (get_or (set s at (k % 256)) (length s - 1) 0) f) ≡ changed s at 1 u m n
check-byte s at u m n k f y h e z =
    let x = get_or s at 0 in
    let b = k % 256 in
    let t = set s at b in
    let l : at < length s = omega arith in
    let own : List ℕ → ℕ = check_from command_polynomial 0 in
    let i : held s at 1 ≡ x ∷ [] = byte-held s at l in
    let j : held t at 1 ≡ b ∷ [] = byte-held t at (lt-length-set s at b l) ∙ ap (λ (c : ℕ). c ∷ []) (get_or-set_same s at b 0 l) in
    let o : at + 1 - at ≡ 1 = omega arith in
    let g : length s - 1 - at ≡ suc (length s - 1 - (at + 1)) = omega arith in
    check-put s t at 1 u m n (own (x ∷ [])) (own (b ∷ [])) f h (byte_put s at u m n k l e)
    (rw (o, i)) (rw (o, j))
    (z ∙ (rw g (sym (byte_renewed x b (length s - 1 - (at + 1)) y (omega arith)))))

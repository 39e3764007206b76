-- Bytes of an opening replaced, and the check behind it renewed. Assumes nothing.
use Prim.Native.Nat.{ℕ, ◌+◌, ◌-◌, ◌≤◌}
use mathlib.Core.List.{List, [], ◌∷◌, ◌++◌, append_assoc}
use mathlib.Core.Path.{◌≡◌, ap, ap₂, sym, ◌∙◌}
use native.Mathlib.Omega.{arith}
use lib.ListN.{length, take, drop, set, replicate, length-append, length-drop, take-append-drop}
use lib.Seq.{sets, sets-eq, length-sets, take-append-le, drop-append-le, take_at, drop_at, length-take-le, drop-drop, set-append_seam, get_or-append_seam, take-append_seam}
use Rattle.crc.specs.Polynomial.{plus}
use Rattle.crc.specs.Check.{command_polynomial, check_of, check_from, Bytes}
use Rattle.crc.proofs.Laws.{bytes_take}
use Rattle.crc.proofs.Renewed.{check_renewed}
use Rattle.codec.proofs.Forth.{bytes_drop, digit_bytes}
use Rattle.codec.proofs.Patch.{sets-left}
use Rattle.codec.specs.Digits.{number_of, bytes_of}
use Rattle.codec.specs.Edit.{replaced}
use Rattle.codec.proofs.Digits.{length-bytes_of}
use Rattle.edits.specs.Change.{held, renewal, changed}

-- an opening, and the check behind it
abbrev pub closed : List ℕ → List ℕ
closed o = o ++ check_of command_polynomial (0x32 ∷ o) ∷ []

-- the bytes at a place among those before and behind
around : (o : List ℕ) (at w : ℕ) → at + w ≤ length o → o ≡ take at o ++ (take w (drop at o) ++ drop (at + w) o)
around o at w h =
    let e : drop w (drop at o) ≡ drop (at + w) o = drop-drop w at o in
    sym (ap (λ (x : List ℕ). take at o ++ (take w (drop at o) ++ x)) (sym e) ∙ ap (λ (x : List ℕ). take at o ++ x)
    (take-append-drop w (drop at o)) ∙ take-append-drop at o)

stored : (o b : List ℕ) (at w : ℕ) → length b ≡ w → at + w ≤ length o → sets o at b ≡ take at o ++ (b ++ drop (at + w) o)
stored o b at w l h =
    sets-eq b o at (omega arith) ∙ ap (λ (k : ℕ). take at o ++ b ++ drop (at + k) o) l ∙ append_assoc (take at o) b (drop (at + w) o)

-- what stands there then
held_after : (o b : List ℕ) (at w : ℕ) → length b ≡ w → at + w ≤ length o → held (sets o at b) at w ≡ b
held_after o b at w l h =
    let t : length (take at o) ≡ at = length-take-le at o (omega arith) in
    ap (λ (x : List ℕ). take w (drop at x)) (stored o b at w l h)
    ∙ ap (λ (x : List ℕ). take w x) (drop_at (take at o) (b ++ drop (at + w) o) at t)
    ∙ take_at b (drop (at + w) o) w l

-- the same bytes, with a check behind them
pub held-closed : (o : List ℕ) (k at w : ℕ) → at + w ≤ length o → held (o ++ k ∷ []) at w ≡ held o at w
held-closed o k at w h =
    let n : length (drop at o) ≡ length o - at = length-drop at o in
    ap (λ (x : List ℕ). take w x) (drop-append-le at o (k ∷ []) (omega arith)) ∙ take-append-le w (drop at o) (k ∷ []) (omega arith)

module _ (o b : List ℕ) (at w : ℕ) (y : Bytes o) (z : Bytes b) (l : length b ≡ w) (h : at + w ≤ length o) where
  check_is : check_of command_polynomial (0x32 ∷ sets o at b)
      ≡ plus (check_of command_polynomial (0x32 ∷ o))
      (check_from command_polynomial
      (plus (check_from command_polynomial 0 (held o at w)) (check_from command_polynomial 0 b))
      (replicate (length o - (at + w)) 0))
  check_is =
      let a = held o at w in
      let hd = take at o in
      let post = drop (at + w) o in
      let n : length (drop at o) ≡ length o - at = length-drop at o in
      let p : length post ≡ length o - (at + w) = length-drop (at + w) o in
      let e : length a ≡ length b = length-take-le w (drop at o) (omega arith) ∙ sym l in
      let r = check_renewed (0x32 ∷ hd) a b post (omega arith, bytes_take at o y)
      (bytes_take w (drop at o) (bytes_drop at o y)) z (bytes_drop (at + w) o y) e in
      ap (λ (x : List ℕ). check_of command_polynomial (0x32 ∷ x)) (stored o b at w l h)
      ∙ r
      ∙ ap₂ (λ (x : List ℕ) (q : ℕ). plus (check_of command_polynomial (0x32 ∷ x))
      (check_from command_polynomial (plus (check_from command_polynomial 0 a) (check_from command_polynomial 0 b))
      (replicate q 0)))
      (sym (around o at w h)) p

  -- THE law: the changed opening closed is the closed one changed in place, its check renewed
  pub renewed : closed (sets o at b) ≡ set (sets (closed o) at b) (length (closed o) - 1) (renewal (closed o) (sets (closed o) at b) at w)
  renewed =
      let k = check_of command_polynomial (0x32 ∷ o) in
      let n : length (closed o) - 1 ≡ length o = ap (λ (x : ℕ). x - 1) (length-append o (k ∷ [])) ∙ omega arith in
      let s : sets (closed o) at b ≡ sets o at b ++ k ∷ [] = sets-left o (k ∷ []) b at (omega arith) in
      let m : at + w ≤ length (sets o at b) = omega (arith, length-sets o at b) in
      let x : renewal (closed o) (sets (closed o) at b) at w ≡ check_of command_polynomial (0x32 ∷ sets o at b) =
      rw (
        n,
        s,
        get_or-append_seam o k [] 0,
        held-closed o k at w h,
        held-closed (sets o at b) k at w m,
        held_after o b at w l h,
      ) (sym check_is) in
      sym (rw (x, n, s, ← (length-sets o at b)) (set-append_seam (sets o at b) k [] (check_of command_polynomial (0x32 ∷ sets o at b))))

pub bytes_front : (o : List ℕ) (k : ℕ) → Bytes (o ++ k ∷ []) → Bytes o
bytes_front o k h = rw (take-append_seam o (k ∷ [])) at (bytes_take (length o) (o ++ k ∷ []) h)

-- a field's number put into the closed opening: as the code changes it
pub changed-closed : (o : List ℕ) (at w u m n : ℕ) → Bytes o → at + w ≤ length o
    → changed (closed o) at w u m n ≡ closed (sets o at (bytes_of w (replaced u m (number_of (held o at w)) n)))
changed-closed o at w u m n y h =
    let k = check_of command_polynomial (0x32 ∷ o) in
    let b = bytes_of w (replaced u m (number_of (held o at w)) n) in
    ap (λ (x : List ℕ). set (sets (closed o) at (bytes_of w (replaced u m (number_of x) n))) (length (closed o) - 1)
    (renewal (closed o) (sets (closed o) at (bytes_of w (replaced u m (number_of x) n))) at w))
    (held-closed o k at w h)
    ∙ sym (renewed o b at w y (digit_bytes w (replaced u m (number_of (held o at w)) n))
    (length-bytes_of w (replaced u m (number_of (held o at w)) n)) h)

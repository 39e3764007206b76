-- A body in its place, closed, is the payload. Assumes nothing.
use Prim.Native.Nat.{ℕ, ◌+◌, ◌-◌, ◌≤◌, ◌<◌}
use mathlib.Core.List.{List, [], ◌∷◌, ◌++◌}
use mathlib.Core.Path.{◌≡◌, ap, sym, ◌∙◌}
use native.Mathlib.Omega.{arith}
use native.Mathlib.Nat.{add-zero, zero-add}
use lib.ListN.{length, take, drop, set, take-append-drop, length-append, length-drop}
use lib.Seq.{sets, sets-eq, length-take-le, take-append_seam, take-append-add}
use Rattle.crc.specs.Check.{command_polynomial, check_of, all_but_last, typed_check, payload_check}
use Rattle.codec.proofs.Loops.{sets_front, sets_append}
use Rattle.codec.proofs.Patch.{sets_right, sets-left}
use Rattle.commands.specs.Closing.{fronted, closed}

-- bytes put into a part are put at its place
pieces : (a m p w : List ℕ) → length w ≤ length m → sets (a ++ (m ++ p)) (length a) w ≡ a ++ (sets m 0 w ++ p)
pieces a m p w l =
    ap (λ (i : ℕ). sets (a ++ (m ++ p)) i w) (sym (add-zero (length a)))
    ∙ sets_right a (m ++ p) w 0
    ∙ ap (λ (r : List ℕ). a ++ r) (sets-left m p w 0 (omega arith))

pub part-put : (s w : List ℕ) (at n : ℕ) → at + n ≤ length s → length w ≤ n
    → take at s ++ (sets (take n (drop at s)) 0 w ++ drop n (drop at s)) ≡ sets s at w
part-put s w at n h l =
    let a : length (take at s) ≡ at = length-take-le at s (omega arith) in
    let d : n ≤ length (drop at s) = rw length-drop (omega arith) in
    let b : length (take n (drop at s)) ≡ n = length-take-le n (drop at s) d in
    let e : take at s ++ (take n (drop at s) ++ drop n (drop at s)) ≡ s =
    ap (λ (r : List ℕ). take at s ++ r) (take-append-drop n (drop at s)) ∙ take-append-drop at s in
    let f = pieces (take at s) (take n (drop at s)) (drop n (drop at s)) w (omega arith) in
    sym (rw (a, e) at f)

-- addresses and id before a body that is there
pub fronted_is : (s w : List ℕ) (dst src id : ℕ) → fronted dst src id (sets s 3 w) ≡ sets s 0 (dst ∷ src ∷ id ∷ w)
fronted_is s w dst src id =
    ap (λ (r : List ℕ). set (set r 1 src) 2 id) (sets_front w s 0 3 dst (omega arith))
    ∙ ap (λ (r : List ℕ). set r 2 id) (sets_front w (set s 0 dst) 1 3 src (omega arith))
    ∙ sets_front w (set (set s 0 dst) 1 src) 2 3 id (omega arith)

-- all but the last
pub but_last : (p : List ℕ) (b : ℕ) → all_but_last (p ++ b ∷ []) ≡ p
but_last p b =
    let e : length (p ++ b ∷ []) - 1 ≡ length p = rw (length-append p (b ∷ [])) (omega arith) in
    rw e (take-append_seam p (b ∷ []))

-- the first n + 1 of bytes that open with these n
front : (p l : List ℕ) → 0 < length l → (b : ℕ) × (take (length p + 1) (p ++ l) ≡ p ++ b ∷ [])
front p [] h = absurd (omega arith)
front p (b ∷ l) h = (b, take-append-add p (b ∷ l) 1)

-- the check behind bytes that were put at the front
pub check-behind : (s p : List ℕ) → length p < length s → payload_check (take (length p + 1) (sets s 0 p)) ≡ check_of command_polynomial (0x32 ∷ p)
unfolding typed_check
check-behind s p h =
    let e : sets s 0 p ≡ p ++ drop (length p) s = rw (zero-add (length p)) at (sets-eq p s 0 (omega arith)) in
    let d : 0 < length (drop (length p) s) = rw length-drop (omega arith) in
    let f = front p (drop (length p) s) d in
    rw (e, f.1, but_last p f.0)

pub closed_is : (s w : List ℕ) (dst src id n : ℕ) → n ≡ length w → n + 4 ≤ length s
    → closed dst src id n (sets s 3 w)
    ≡ sets s 0 ((dst ∷ src ∷ id ∷ w) ++ check_of command_polynomial (0x32 ∷ dst ∷ src ∷ id ∷ w) ∷ [])
closed_is s w dst src id n e h =
    let p = dst ∷ src ∷ id ∷ w in
    let k = check_of command_polynomial (0x32 ∷ p) in
    let l : n + 4 ≡ length p + 1 = omega arith in
    let c : payload_check (take (n + 4) (sets s 0 p)) ≡ k = rw l (check-behind s p (omega arith)) in
    ap (λ (r : List ℕ). set r (n + 3) (payload_check (take (n + 4) r))) (fronted_is s w dst src id)
    ∙ ap (λ (x : ℕ). set (sets s 0 p) (n + 3) x) c
    ∙ ap (λ (i : ℕ). set (sets s 0 p) i k) (omega arith)
    ∙ sym (sets_append p (k ∷ []) s 0)

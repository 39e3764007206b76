-- A stored length and its bytes, put; an image put at the front, or behind its head. Assumes nothing.
use Prim.Native.Nat.{ℕ, suc, ◌+◌, ◌%◌, ◌<◌, ◌≤◌}
use mathlib.Core.Bool.{Bool, true, false}
use mathlib.Core.List.{List, [], ◌++◌, append-nil}
use mathlib.Core.Path.{◌≡◌, refl, ap, sym, ◌∙◌}
use native.Mathlib.Omega.{arith}
use lib.ListN.{length, take, drop, set, length-set, length-append, length-drop, drop_of_length-le}
use lib.Seq.{sets, sets-eq, length-sets, length-take-le}
use borrow.Rule.Slice.PartMut.{put_mid}
use Rattle.std.specs.Int.{from_bool}
use Rattle.codec.specs.Told.{bit}
use Rattle.codec.specs.Writing.{put_at}
use Rattle.codec.proofs.Loops.{sets_append}
use Rattle.codec.proofs.Writes.{put-fits, put-not, put_first, length-put}
use Rattle.families.specs.declared.text.CommandString.{CommandString}
use Rattle.commands.proofs.Closed.{part-put}
use Rattle.images.specs.Text.{stored, text_image}

pub stored-put : (s s' b : List ℕ) (at n : ℕ) → at + (length b + 1) ≤ length s → s' ≡ put_at (set s at (n % 256)) (at + 1) b → s' ≡ sets s at (stored n b)
stored-put s s' b at n h e =
    let l : at + 1 + length b ≤ length (set s at (n % 256)) = rw length-set (omega arith) in
    let k : at + 1 ≡ suc at = omega arith in
    rw k at (e ∙ put-fits (set s at (n % 256)) (at + 1) b l)

-- an image at the front, and none where there is no room
pub front_put : (s s' w : List ℕ) (n : ℕ) → length w ≡ n → n ≤ length s → s' ≡ sets s 0 w → s' ≡ put_at s 0 w
front_put s s' w n l h e = e ∙ sym (put-fits s 0 w (omega arith))

-- an image put into the first n bytes, which are y
pub chunk-put : (s y z w : List ℕ) (n : ℕ) → length w ≡ n → n ≤ length s → y ≡ take n s → z ≡ sets y 0 w → z ++ drop n s ≡ put_at s 0 w
chunk-put s y z w n l h e g =
    let t : length y ≡ n = ap length e ∙ length-take-le n s h in
    let d : drop (0 + length w) y ≡ [] = drop_of_length-le y {i = 0 + length w} (omega arith) in
    let k : z ≡ w = g ∙ sets-eq w y 0 (omega arith) ∙ ap (λ (r : List ℕ). w ++ r) d ∙ append-nil w in
    let o : n ≡ 0 + length w = omega arith in
    rw (k, o) (sym (put-fits s 0 w (omega arith) ∙ sets-eq w s 0 (omega arith)))

pub front_not : (s w : List ℕ) (n : ℕ) → length w ≡ n → length s < n → s ≡ put_at s 0 w
front_not s w n l h = sym (put-not s 0 w (omega arith))

pub put-kept : (s s' w : List ℕ) → s' ≡ put_at s 0 w → length s' ≡ length s
put-kept s s' w e = ap length e ∙ length-put s 0 w

-- m bytes w put into the part behind a head of n bytes: both stand at the front
pub behind-put : (h w s s1 q : List ℕ) (n m : ℕ) → n + m ≤ length s → length h ≡ n → length w ≡ m → s1 ≡ sets s 0 h
    → q ≡ put_at (take m (drop n s1)) 0 w → put_mid n m s1 q ≡ put_at s 0 (h ++ w)
behind-put h w s s1 q n m l i j e f =
    let k : length s1 ≡ length s = ap length e ∙ length-sets s 0 h in
    let d : length (take m (drop n s1)) ≡ m = length-take-le m (drop n s1) (rw length-drop (omega arith)) in
    let g : q ≡ sets (take m (drop n s1)) 0 w = f ∙ put_first (take m (drop n s1)) w (omega arith) in
    let p : put_mid n m s1 q ≡ sets s1 n w = rw g (part-put s1 w n m (omega arith) (omega arith)) in
    let o : 0 + length h ≡ n = omega arith in
    let r : length (h ++ w) ≤ length s = rw (length-append h w) (omega arith) in
    p ∙ rw e (sym (rw o at (sets_append h w s 0))) ∙ sym (put_first s (h ++ w) r)

pub text-size : (t : CommandString) → length t.bytes ≡ 51 → length (text_image t) ≡ 52
text-size t l = ap suc l

pub byte_mod : (n : ℕ) → n < 256 → n % 256 ≡ n
byte_mod n h = omega arith

-- the byte of a flag
pub flag-byte : (b : Bool) → from_bool b ≡ bit b
flag-byte true = refl
flag-byte false = refl

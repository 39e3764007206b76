-- The image of an ACK: its size, its parts one behind the other, and what an ACK says. Assumes nothing.
use Prim.Native.Nat.{ℕ, ◌≤◌}
use mathlib.Core.List.{List, ◌++◌}
use mathlib.Core.Path.{◌≡◌}
use native.Mathlib.Omega.{arith}
use lib.ListN.{length, take, drop, set}
use lib.Seq.{sets, length-take-le}
use Rattle.codec.specs.Writing.{put_at}
use Rattle.families.specs.Ack.{acked}
use Rattle.families.specs.declared.ack.CommandAck.{CommandAck}
use Rattle.families.specs.declared.ack.AckRead.{AckRead}
use Rattle.images.specs.Text.{stored}
use Rattle.images.specs.Ack.{ack_image, image_of_ack}
use Rattle.images.proofs.TextLaws.{chunk-put}

pub ack_size : (a : CommandAck) (n : ℕ) (b : List ℕ) → length b ≡ 55 → length (ack_image a n b) ≡ 56
ack_size a n b l = let t : length (take 52 b) ≡ 52 = length-take-le 52 b (omega arith) in rw t

pub ack_put : (s y s' : List ℕ) (a : CommandAck) (n : ℕ) (b : List ℕ) → length b ≡ 55 → 56 ≤ length s → y ≡ take 56 s
    → s' ≡ sets (set (set (set y 0 a.command_id) 1 a.sub_command_id) 2 a.action) 3 (stored n (take 52 b))
    → s' ++ drop 56 s ≡ put_at s 0 (ack_image a n b)
ack_put s y s' a n b l h e g = chunk-put s y s' (ack_image a n b) 56 (ack_size a n b l) h e g

-- what the constructor answers, as an image
pub ack_image_lem : (vs : List (List ℕ)) (r : AckRead) → r ≡ acked vs → ack_image r.ack r.len r.bytes ≡ image_of_ack vs
ack_image_lem vs r h = rw h

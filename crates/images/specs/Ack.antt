-- The C boundary's image of an ACK (include/crsf.h). Assumes nothing.
use Rattle.std.specs.Prelude.{ℕ, List, [], ◌∷◌, length, take, get_or}
use Rattle.families.specs.Text.{padded}
use Rattle.families.specs.Ack.{ack_of}
use Rattle.families.specs.declared.ack.CommandAck.{CommandAck}
use Rattle.images.specs.Text.{stored}

-- 56 bytes: command id, sub id, action, length, 52 bytes; n bytes of information, stored in b
abbrev pub ack_image : CommandAck → ℕ → List ℕ → List ℕ
ack_image a n b = a.command_id ∷ a.sub_command_id ∷ a.action ∷ stored n (take 52 b)

-- the image of what an ACK says, zeros after its information
abbrev pub image_of_ack : List (List ℕ) → List ℕ
image_of_ack vs = ack_image (ack_of vs) (length (get_or vs 3 [])) (padded 55 (get_or vs 3 []))

-- 0xFF ACK, no sub-command byte of its own: command id(1), sub id(1), action 0 or 1, information up to 52 bytes, 00. Assumes nothing.
use Rattle.std.specs.Prelude.{Result}
use Rattle.codec.specs.declared.refusal.Refusal.{Refusal}
use Rattle.std.specs.Prelude.{ℕ, Bool, List, [], ◌∷◌, length, get_or, leb}
use Rattle.codec.specs.Pick.{pick}
use Rattle.codec.specs.Sheet.{Answer, got, refused, and_then, Item, text, byte, flag, first}
use Rattle.codec.specs.Reading.{read_items}
use Rattle.codec.specs.Writing.{nonzero, ok_item, write_items, stop_room}
use Rattle.codec.specs.Refusals.{Gives}
use Rattle.codec.specs.Told.{Writes}
use Rattle.families.specs.Text.{padded, made_bytes}
use Rattle.families.specs.declared.ack.CommandAck.{CommandAck}
use Rattle.families.specs.declared.ack.AckRead.{AckRead}

abbrev pub ack_items : List Item
ack_items = byte ∷ byte ∷ flag ∷ text 0 52 ∷ []

-- the action as any byte: it is judged after all else on reading, before all else on writing
abbrev pub ack_loose : List Item
ack_loose = byte ∷ byte ∷ byte ∷ text 0 52 ∷ []

abbrev pub action_ok : List (List ℕ) → Bool
action_ok vs = ok_item flag (get_or vs 2 [])

-- "ACK: below 3 body bytes 1, no 00 from byte 3 on 1, then action above 1: 2."
abbrev pub read_ack : List ℕ → Answer (List (List ℕ))
read_ack s = and_then (read_items ack_loose s 0) (λ vs. pick (action_ok vs) (got vs) (refused 2 0))

abbrev pub ack_with : ℕ → ℕ → ℕ → CommandAck
ack_with command sub action = record { command_id = command; sub_command_id = sub; action = action }

-- what an ACK with its information says
abbrev pub ack_says : CommandAck → List ℕ → List (List ℕ)
ack_says a t = (a.command_id ∷ []) ∷ (a.sub_command_id ∷ []) ∷ (a.action ∷ []) ∷ t ∷ []

-- "VTX and ACK look at values first (2), then at room (3)."
abbrev pub stop_ack : ℕ → List (List ℕ) → ℕ
stop_ack room vs = pick (action_ok vs) (stop_room room (length (write_items ack_items vs))) 2

-- "ACK: over 52 bytes 1, then action above 1 or a zero byte 2."
abbrev pub new_ack : CommandAck → List ℕ → Answer (List (List ℕ))
new_ack a t = pick (leb (length t) 52) (pick (action_ok (ack_says a t)) (pick (nonzero t) (got (ack_says a t)) (refused 2 0)) (refused 2 0)) (refused 1 0)

abbrev pub ack_of : List (List ℕ) → CommandAck
ack_of vs = record { command_id = first (get_or vs 0 []); sub_command_id = first (get_or vs 1 []); action = first (get_or vs 2 []) }

-- the ACK, and its information beside it
abbrev pub acked : List (List ℕ) → AckRead
acked vs = record { ack = ack_of vs; len = length (get_or vs 3 []); bytes = padded 55 (get_or vs 3 []) }

-- what reading and the constructor answer
abbrev pub AckIs : Answer (List (List ℕ)) → Result AckRead Refusal → Type 0
AckIs a r = Gives acked a r

-- WRITING an ACK with its information answers r and leaves s' of s
abbrev pub WritesAck : CommandAck → List ℕ → Result ℕ Refusal → List ℕ → List ℕ → Type 0
WritesAck a t r s s' = Writes (stop_ack (length s) (ack_says a t)) (write_items ack_items (ack_says a t)) r s s'

-- "An ACK's action is outside this and is judged on writing."
abbrev pub made_information : ℕ → List ℕ → Bool
made_information n b = made_bytes 52 n b

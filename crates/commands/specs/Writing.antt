-- Document 01, "Writing order", for a whole command. Assumes nothing.
use Rattle.std.specs.Prelude.{Result}
use Rattle.codec.specs.declared.refusal.Refusal.{Refusal}
use Rattle.std.specs.Prelude.{ℕ, ◌-◌, List, [], ◌∷◌, ◌++◌, length, ltb, leb}
use Rattle.crc.specs.Check.{command_polynomial, check_of}
use Rattle.codec.specs.Pick.{pick}
use Rattle.codec.specs.Writing.{write_items, write_body, stop_in_order, stop_room, stop_values_first}
use Rattle.codec.specs.Told.{Writes}
use Rattle.families.specs.Sheets.{fc_rows, osd_rows, vtx_rows, led_rows, general_rows, crossfire_rows, flow_rows}
use Rattle.families.specs.Fc.{fc_says}
use Rattle.families.specs.Osd.{osd_says}
use Rattle.families.specs.Vtx.{vtx_says}
use Rattle.families.specs.Led.{led_says}
use Rattle.families.specs.General.{general_says}
use Rattle.families.specs.Crossfire.{crossfire_says}
use Rattle.families.specs.FlowControl.{flow_says}
use Rattle.families.specs.Ack.{ack_items, ack_says, stop_ack}
use Rattle.families.specs.Screen.{screen_body}
use Rattle.families.specs.Payload.{family_id}
use Rattle.families.specs.declared.payload.CommandPayload.{CommandPayload}
use Rattle.families.specs.declared.payload.CommandPayload.TheVariants.{Fc, Osd, Vtx, Led, General, Crossfire, FlowControl, Screen, Ack}
use Rattle.commands.specs.Command.{stored_in, made}
use Rattle.commands.specs.declared.DirectCommands.{DirectCommands}
pub mod Equation

-- THE body of a family, with these bytes stored beside it
abbrev pub body_of : CommandPayload → List ℕ → List ℕ
body_of (Fc c) t = write_body fc_rows (fc_says c)
body_of (Osd c) t = write_body osd_rows (osd_says c)
body_of (Vtx c) t = write_body vtx_rows (vtx_says c)
body_of (Led c) t = write_body led_rows (led_says c)
body_of (General c) t = write_body general_rows (general_says c)
body_of (Crossfire c) t = write_body crossfire_rows (crossfire_says c)
body_of (FlowControl c) t = write_body flow_rows (flow_says c)
body_of (Screen c) t = screen_body c t
body_of (Ack a) t = write_items ack_items (ack_says a t)

-- "VTX and ACK look at values first (2), then at room (3). LED takes its items in order .. The others look at room only."
abbrev pub stop_body : CommandPayload → List ℕ → ℕ → ℕ
stop_body (Fc c) t room = stop_in_order fc_rows room (fc_says c)
stop_body (Osd c) t room = stop_in_order osd_rows room (osd_says c)
stop_body (Vtx c) t room = stop_values_first vtx_rows room (vtx_says c)
stop_body (Led c) t room = stop_in_order led_rows room (led_says c)
stop_body (General c) t room = stop_in_order general_rows room (general_says c)
stop_body (Crossfire c) t room = stop_in_order crossfire_rows room (crossfire_says c)
stop_body (FlowControl c) t room = stop_in_order flow_rows room (flow_says c)
stop_body (Screen c) t room = stop_room room (length (screen_body c t))
stop_body (Ack a) t room = stop_ack room (ack_says a t)

-- "destination (1), source (1), command id (1), body"
abbrev pub opening : ℕ → ℕ → CommandPayload → List ℕ → List ℕ
opening dst src p t = dst ∷ src ∷ family_id p ∷ body_of p t

-- "check (1)": "The message is byte 0x32, then all payload bytes but the last."
abbrev pub checked : List ℕ → List ℕ
checked o = o ++ check_of command_polynomial (0x32 ∷ o) ∷ []

-- a payload, laid out so
abbrev pub layout_of : DirectCommands → List ℕ
layout_of c = checked (opening c.dst_addr c.src_addr c.payload (stored_in c))

-- "room R = min(length, 60) - 4 for the body"
abbrev pub room_of : ℕ → ℕ
room_of n = pick (leb n 60) n 60 - 4

-- the number that stops writing into so many bytes; 0: none. "Record not made: 5. Buffer below 4: 3. Then room .. for the body."
abbrev pub writing_order : DirectCommands → ℕ → ℕ
writing_order c n = pick (made c) (pick (ltb n 4) 3 (stop_body c.payload (stored_in c) (room_of n))) 5

-- THE payload, and THE number that stops writing it. Shut: what stands above sees their laws alone
pub payload_of : DirectCommands → List ℕ
payload_of c = layout_of c

pub stop_writing : DirectCommands → ℕ → ℕ
stop_writing c n = writing_order c n

-- WRITING answers r and leaves s' of s: a body, with these bytes stored beside it
abbrev pub WritesBody : CommandPayload → List ℕ → Result ℕ Refusal → List ℕ → List ℕ → Type 0
WritesBody p t r s s' = Writes (stop_body p t (length s)) (body_of p t) r s s'

-- the payload of a command that is made, in a buffer that has the four bytes around a body
abbrev pub WritesMade : ℕ → ℕ → CommandPayload → List ℕ → Result ℕ Refusal → List ℕ → List ℕ → Type 0
WritesMade dst src p t r s s' = Writes (stop_body p t (room_of (length s))) (checked (opening dst src p t)) r s s'

-- the payload of any command
abbrev pub WritesCommand : DirectCommands → Result ℕ Refusal → List ℕ → List ℕ → Type 0
WritesCommand c r s s' = Writes (stop_writing c (length s)) (payload_of c) r s s'

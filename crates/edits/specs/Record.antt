-- A command by the items of its payload, and with other values of them. Assumes nothing.
use Rattle.std.specs.Prelude.{ℕ, List, [], ◌∷◌, drop, get_or}
use Rattle.codec.specs.Sheet.{Item, Said, said, byte, item_number}
use Rattle.codec.specs.Writing.{write_items}
use Rattle.families.specs.Fc.{fc_says, fc_of}
use Rattle.families.specs.Osd.{osd_says, osd_of}
use Rattle.families.specs.Vtx.{vtx_says, vtx_of}
use Rattle.families.specs.Led.{led_says, led_of}
use Rattle.families.specs.General.{general_says, general_of}
use Rattle.families.specs.Crossfire.{crossfire_says, crossfire_of}
use Rattle.families.specs.FlowControl.{flow_says, flow_of}
use Rattle.families.specs.Ack.{ack_of}
use Rattle.families.specs.Popup.{Popup, popup, popup_items}
use Rattle.families.specs.Screen.{return_of}
use Rattle.families.specs.Body.{popup_in, body_items, body_values}
use Rattle.families.specs.Payload.{family_id}
use Rattle.families.specs.declared.screen.ScreenCommand.{ScreenCommand}
use Rattle.families.specs.declared.screen.ScreenCommand.TheVariants.{PopupMessageStart, SelectionReturnValue}
use Rattle.families.specs.declared.payload.CommandPayload.{CommandPayload}
use Rattle.families.specs.declared.payload.CommandPayload.TheVariants.{Fc, Osd, Vtx, Led, General, Crossfire, FlowControl, Screen, Ack}
use Rattle.commands.specs.Command.{with_stored, command_of, stored_in}
use Rattle.commands.specs.declared.DirectCommands.{DirectCommands}

-- its sub-command; an ACK has none and counts as 0
abbrev pub said_sub : Said → ℕ
said_sub (said sub vs) = sub

abbrev pub screen_sub : ScreenCommand → ℕ
screen_sub PopupMessageStart = 0x01
screen_sub (SelectionReturnValue value response) = 0x02

abbrev pub sub_of : CommandPayload → ℕ
sub_of (Fc c) = said_sub (fc_says c)
sub_of (Osd c) = said_sub (osd_says c)
sub_of (Vtx c) = said_sub (vtx_says c)
sub_of (Led c) = said_sub (led_says c)
sub_of (General c) = said_sub (general_says c)
sub_of (Crossfire c) = said_sub (crossfire_says c)
sub_of (FlowControl c) = said_sub (flow_says c)
sub_of (Screen c) = screen_sub c
sub_of (Ack a) = 0

-- "destination (1), source (1), command id (1), body": its items, and their values
abbrev pub items_in : DirectCommands → List Item
items_in c = byte ∷ byte ∷ byte ∷ body_items c.payload (stored_in c)

abbrev pub values_in : DirectCommands → List (List ℕ)
values_in c = (c.dst_addr ∷ []) ∷ (c.src_addr ∷ []) ∷ (family_id c.payload ∷ []) ∷ body_values c.payload (stored_in c)

-- what values of a body say, the sub-command first
abbrev pub said_by : List (List ℕ) → Said
said_by vs = said (item_number vs 0) (drop 1 vs)

-- the payload that says it
abbrev pub screen_with : ScreenCommand → List (List ℕ) → ScreenCommand
screen_with PopupMessageStart vs = PopupMessageStart
screen_with (SelectionReturnValue value response) vs = return_of (said_by vs)

abbrev pub payload_with : CommandPayload → List (List ℕ) → CommandPayload
payload_with (Fc c) vs = Fc (fc_of (said_by vs))
payload_with (Osd c) vs = Osd (osd_of (said_by vs))
payload_with (Vtx c) vs = Vtx (vtx_of (said_by vs))
payload_with (Led c) vs = Led (led_of (said_by vs))
payload_with (General c) vs = General (general_of (said_by vs))
payload_with (Crossfire c) vs = Crossfire (crossfire_of (said_by vs))
payload_with (FlowControl c) vs = FlowControl (flow_of (said_by vs))
payload_with (Screen c) vs = Screen (screen_with c vs)
payload_with (Ack a) vs = Ack (ack_of vs)

-- the bytes stored beside it: a popup's, of the same kind with these values; an ACK's information
abbrev pub popup_with : Popup → List (List ℕ) → List ℕ
popup_with (popup k p us) vs = write_items (popup_items k p) (drop 1 vs)

abbrev pub screen_stored : ScreenCommand → List ℕ → List (List ℕ) → List ℕ
screen_stored PopupMessageStart t vs = popup_with (popup_in t) vs
screen_stored (SelectionReturnValue value response) t vs = []

abbrev pub stored_with : CommandPayload → List ℕ → List (List ℕ) → List ℕ
stored_with (Fc c) t vs = []
stored_with (Osd c) t vs = []
stored_with (Vtx c) t vs = []
stored_with (Led c) t vs = []
stored_with (General c) t vs = []
stored_with (Crossfire c) t vs = []
stored_with (FlowControl c) t vs = []
stored_with (Screen c) t vs = screen_stored c t vs
stored_with (Ack a) t vs = get_or vs 3 []

-- the command with these values of its items
abbrev pub with_values : DirectCommands → List (List ℕ) → DirectCommands
with_values c vs =
    command_of (item_number vs 0) (item_number vs 1)
    (with_stored (payload_with c.payload (drop 3 vs)) (stored_with c.payload (stored_in c) (drop 3 vs)))

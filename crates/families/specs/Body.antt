-- The items of a body and their values, of every family: what a command says, as its sheet lays it out. Assumes nothing.
use Rattle.std.specs.Prelude.{ℕ, Bool, List, [], ◌∷◌}
use Rattle.codec.specs.Sheet.{Item, Row, Said, said, byte}
use Rattle.codec.specs.Writing.{items_of}
use Rattle.codec.specs.Refusals.{value_in}
use Rattle.codec.specs.Told.{bit}
use Rattle.families.specs.Sheets.{fc_rows, osd_rows, vtx_rows, led_rows, general_rows, crossfire_rows, flow_rows, screen_rows}
use Rattle.families.specs.Fc.{fc_says}
use Rattle.families.specs.Osd.{osd_says}
use Rattle.families.specs.Vtx.{vtx_says}
use Rattle.families.specs.Led.{led_says}
use Rattle.families.specs.General.{general_says}
use Rattle.families.specs.Crossfire.{crossfire_says}
use Rattle.families.specs.FlowControl.{flow_says}
use Rattle.families.specs.Ack.{ack_items, ack_says}
use Rattle.families.specs.Popup.{Popup, popup, popup_items}
use Rattle.families.specs.Fields.{popup_says, popup_of, inspect, blank_fields}
use Rattle.families.specs.declared.screen.ScreenCommand.{ScreenCommand}
use Rattle.families.specs.declared.screen.ScreenCommand.TheVariants.{PopupMessageStart, SelectionReturnValue}
use Rattle.families.specs.declared.payload.CommandPayload.{CommandPayload}
use Rattle.families.specs.declared.payload.CommandPayload.TheVariants.{Fc, Osd, Vtx, Led, General, Crossfire, FlowControl, Screen, Ack}

-- "Body byte 0 is the sub-command"; then the items of its row
abbrev pub said_items : List Row → Said → List Item
said_items rs (said sub vs) = byte ∷ items_of rs sub

abbrev pub said_values : Said → List (List ℕ)
said_values (said sub vs) = (sub ∷ []) ∷ vs

-- what the popup of these stored bytes says: "a popup's items as inspection gives them"
abbrev pub popup_in : List ℕ → Popup
popup_in t = popup_says (value_in blank_fields (inspect (popup_of t)))

abbrev pub start_items : Popup → List Item
start_items (popup k p vs) = byte ∷ popup_items k p

abbrev pub start_values : Popup → List (List ℕ)
start_values (popup k p vs) = (0x01 ∷ []) ∷ vs

abbrev pub return_says : ℕ → Bool → Said
return_says value response = said 0x02 ((value ∷ []) ∷ (bit response ∷ []) ∷ [])

abbrev pub screen_items : ScreenCommand → List ℕ → List Item
screen_items PopupMessageStart t = start_items (popup_in t)
screen_items (SelectionReturnValue value response) t = said_items screen_rows (return_says value response)

abbrev pub screen_values : ScreenCommand → List ℕ → List (List ℕ)
screen_values PopupMessageStart t = start_values (popup_in t)
screen_values (SelectionReturnValue value response) t = said_values (return_says value response)

-- the items of a body, with these bytes stored beside the command; an ACK has "no sub-command byte of its own"
abbrev pub body_items : CommandPayload → List ℕ → List Item
body_items (Fc c) t = said_items fc_rows (fc_says c)
body_items (Osd c) t = said_items osd_rows (osd_says c)
body_items (Vtx c) t = said_items vtx_rows (vtx_says c)
body_items (Led c) t = said_items led_rows (led_says c)
body_items (General c) t = said_items general_rows (general_says c)
body_items (Crossfire c) t = said_items crossfire_rows (crossfire_says c)
body_items (FlowControl c) t = said_items flow_rows (flow_says c)
body_items (Screen c) t = screen_items c t
body_items (Ack a) t = ack_items

-- and their values
abbrev pub body_values : CommandPayload → List ℕ → List (List ℕ)
body_values (Fc c) t = said_values (fc_says c)
body_values (Osd c) t = said_values (osd_says c)
body_values (Vtx c) t = said_values (vtx_says c)
body_values (Led c) t = said_values (led_says c)
body_values (General c) t = said_values (general_says c)
body_values (Crossfire c) t = said_values (crossfire_says c)
body_values (FlowControl c) t = said_values (flow_says c)
body_values (Screen c) t = screen_values c t
body_values (Ack a) t = ack_says a t

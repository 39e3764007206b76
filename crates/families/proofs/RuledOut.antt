-- Wrong answers that the contracts of the public functions rule out: the definition that the contract names, worked out for an input
-- where the wrong answer would be another. That no other answer is allowed there is in OneAnswer.antt, OneAnswerText.antt,
-- OneAnswerScreen.antt and OneAnswerLengths.antt. Assumes nothing.
use Rattle.std.specs.Prelude.{Result, Ok, Err}
use Rattle.codec.specs.declared.refusal.Refusal.{Refusal}
use Prim.Native.Nat.{ℕ}
use mathlib.Core.Bool.{true, false}
use mathlib.Core.List.{List, [], ◌∷◌, ◌++◌}
use mathlib.Core.Path.{◌≡◌, refl}
use lib.ListN.{length, take, replicate}
use Rattle.codec.specs.Sheet.{got, refused, Row, Said}
use Rattle.codec.specs.Reading.{read_item, read_body}
use Rattle.codec.specs.Writing.{write_items, write_body, stop_in_order, stop_values_first, stop_room}
use Rattle.codec.specs.Told.{Writes}
use Rattle.codec.specs.declared.refusal.Refusal.TheVariants.{InvalidPayload, BufferOverflow}
use Rattle.families.specs.Sheets.{fc_rows, osd_rows, vtx_rows, led_rows, general_rows, crossfire_rows, flow_rows}
use Rattle.families.specs.Fc.{fc_says}
use Rattle.families.specs.Osd.{osd_says}
use Rattle.families.specs.Vtx.{vtx_says}
use Rattle.families.specs.Led.{led_says}
use Rattle.families.specs.General.{general_says}
use Rattle.families.specs.Crossfire.{crossfire_says}
use Rattle.families.specs.FlowControl.{flow_says}
use Rattle.families.specs.Text.{made_bytes, text_of, new_text, zeros}
use Rattle.families.specs.Ack.{ack_items, read_ack, ack_with, ack_says, stop_ack, new_ack, made_information}
use Rattle.families.specs.Fields.{popup_of, construct, blank_fields, inspect, made_popup}
use Rattle.families.specs.Screen.{read_screen, ScreenIs, screen_body}
use Rattle.families.specs.Payload.{family_id}
use Rattle.families.specs.declared.fc.FcCommand.TheVariants.{ScaleChannel}
use Rattle.families.specs.declared.vtx.VtxCommand.{VtxCommand}
use Rattle.families.specs.declared.vtx.VtxCommand.TheVariants.{SetFrequency, EnablePitModeOnPowerUp}
use Rattle.families.specs.declared.led.LedColor.{LedColor}
use Rattle.families.specs.declared.led.LedCommand.TheVariants.{OverrideColor, OverridePulse}
use Rattle.families.specs.declared.general.GeneralCommand.TheVariants.{SpeedProposal, SpeedProposalResponse}
use Rattle.families.specs.declared.crossfire.CrossfireCommand.TheVariants.{SetBindId, ModelSelection, ReplyCurrentModelSelection}
use Rattle.families.specs.declared.flow_control.FlowControlCommand.TheVariants.{Subscribe, Unsubscribe}
use Rattle.families.specs.declared.ack.CommandAck.{CommandAck}
use Rattle.families.specs.declared.screen.ScreenAdditionalData.TheVariants.{Absent, Selection}
use Rattle.families.specs.declared.screen.ScreenPopupFields.{ScreenPopupFields}
use Rattle.families.specs.declared.screen.ScreenCommand.{ScreenCommand}
use Rattle.families.specs.declared.screen.ScreenCommand.TheVariants.{PopupMessageStart, SelectionReturnValue}
use Rattle.families.specs.declared.payload.CommandPayload.TheVariants.{FlowControl, Ack}

-- the contract of `write_to`, of VTX and of the other sheets: this answer, with these bytes left of those
abbrev PutsInOrder : List Row → Said → Result ℕ Refusal → List ℕ → List ℕ → Type 0
PutsInOrder rows c r s s' = Writes (stop_in_order rows (length s) c) (write_body rows c) r s s'

abbrev PutsVtx : VtxCommand → Result ℕ Refusal → List ℕ → List ℕ → Type 0
PutsVtx c r s s' = Writes (stop_values_first vtx_rows (length s) (vtx_says c)) (write_body vtx_rows (vtx_says c)) r s s'

-- ---- fc::read
-- no body is a missing byte, not an unknown sub-command
pub fc_none : read_body fc_rows [] ≡ refused 1 0
unfolding read_item
fc_none = refl

-- 03 is no scale channel
pub fc_unknown : read_body fc_rows (0x03 ∷ []) ≡ refused 2 0
unfolding read_item
fc_unknown = refl

-- ---- fc::write_to
-- one byte, 02, and the rest keep theirs
pub fc_puts : PutsInOrder fc_rows (fc_says ScaleChannel) (Ok 1) (8 ∷ 9 ∷ []) (0x02 ∷ 9 ∷ [])
fc_puts = (refl, refl)

-- no count without a byte for it
pub fc_no_room : PutsInOrder fc_rows (fc_says ScaleChannel) (Err BufferOverflow) [] []
fc_no_room = (refl, refl)

-- ---- osd::read
-- missing buttons are not 0
pub osd_missing : read_body osd_rows (0x01 ∷ []) ≡ refused 1 0
unfolding read_item
osd_missing = refl

-- a byte behind them is ignored, not refused
pub osd_more : read_body osd_rows (0x01 ∷ 5 ∷ 6 ∷ []) ≡ got (osd_says (record { buttons = 5 }))
unfolding read_item
osd_more = refl

-- ---- osd::write_to
-- the buttons stand behind the sub-command
pub osd_puts : PutsInOrder osd_rows (osd_says (record { buttons = 5 })) (Ok 2) (7 ∷ 8 ∷ 9 ∷ []) (0x01 ∷ 5 ∷ 9 ∷ [])
osd_puts = (refl, refl)

-- where only the sub-command has room, it is not put
pub osd_no_room : PutsInOrder osd_rows (osd_says (record { buttons = 5 })) (Err BufferOverflow) (7 ∷ []) (7 ∷ [])
osd_no_room = (refl, refl)

-- ---- vtx::read
-- 6001 MHz is out of range
pub vtx_6001 : read_body vtx_rows (0x02 ∷ 0x17 ∷ 0x71 ∷ []) ≡ refused 2 0
unfolding read_item
vtx_6001 = refl

-- control 2 and switch 9 are not exchanged, and bit 7 is in neither
pub vtx_pit_lem : read_body vtx_rows (0x04 ∷ 0xCD ∷ []) ≡ got (vtx_says (EnablePitModeOnPowerUp true 2 9))
unfolding read_item
vtx_pit_lem = refl

-- ---- vtx::write_to
-- the value is judged before the room
pub vtx_values_first : PutsVtx (SetFrequency 4999) (Err InvalidPayload) [] []
vtx_values_first = (refl, refl)

-- bit 7 of the pit byte is not set, and control and switch are not exchanged
pub vtx_puts_pit : PutsVtx (EnablePitModeOnPowerUp true 2 9) (Ok 2) (7 ∷ 8 ∷ 9 ∷ []) (0x04 ∷ 0x4D ∷ 9 ∷ [])
vtx_puts_pit = (refl, refl)

-- ---- led::read
abbrev colour : ℕ → ℕ → ℕ → LedColor
colour h s v = record { hue = h; saturation = s; value = v }

-- "A LED pulse whose start colour is bad and whose stop is missing: 2, not 1."
pub led_bad_start : read_body led_rows (0x03 ∷ 0 ∷ 9 ∷ 0xB4 ∷ 0 ∷ 0 ∷ []) ≡ refused 2 0
unfolding read_item
led_bad_start = refl

-- start and stop are not exchanged
pub led_start_stop : read_body led_rows (0x03 ∷ 0 ∷ 9 ∷ 0x00 ∷ 0x82 ∷ 0x03 ∷ 0x02 ∷ 0x05 ∷ 0x06 ∷ [])
    ≡ got (led_says (OverridePulse 9 (colour 1 2 3) (colour 4 5 6)))
unfolding read_item
led_start_stop = refl

-- ---- led::write_to
-- a bad start colour is judged when the time has room, though the colours have none
pub led_judged : PutsInOrder led_rows (led_says (OverridePulse 9 (colour 360 0 0) (colour 4 5 6))) (Err InvalidPayload) (6 ∷ 7 ∷ 8 ∷ []) (6 ∷ 7 ∷ 8 ∷ [])
led_judged = (refl, refl)

-- and not before
pub led_room_first : PutsInOrder led_rows (led_says (OverrideColor (colour 360 0 0))) (Err BufferOverflow) [] []
led_room_first = (refl, refl)

-- ---- general::read
-- a baud rate has four bytes, not three
pub baud_short : read_body general_rows (0x70 ∷ 1 ∷ 0x01 ∷ 0xC2 ∷ 0x00 ∷ []) ≡ refused 1 0
unfolding read_item
baud_short = refl

-- 2 is not "accepted"
pub accepted_2 : read_body general_rows (0x71 ∷ 1 ∷ 2 ∷ []) ≡ refused 2 0
unfolding read_item
accepted_2 = refl

-- ---- general::write_to
-- 115200 baud in four bytes, the highest first
pub baud_put : PutsInOrder general_rows (general_says (SpeedProposal 1 115200)) (Ok 6) (replicate 7 9) (0x70 ∷ 1 ∷ 0x00 ∷ 0x01 ∷ 0xC2 ∷ 0x00 ∷ 9 ∷ [])
baud_put = (refl, refl)

-- where all but the flag has room, nothing is put
pub general_no_room : PutsInOrder general_rows (general_says (SpeedProposalResponse 1 true)) (Err BufferOverflow) (8 ∷ 9 ∷ []) (8 ∷ 9 ∷ [])
general_no_room = (refl, refl)

-- ---- crossfire::read
-- 04 is no sub-command
pub crossfire_unknown : read_body crossfire_rows (0x04 ∷ []) ≡ refused 2 0
unfolding read_item
crossfire_unknown = refl

-- a missing model is not 0
pub model_missing : read_body crossfire_rows (0x05 ∷ []) ≡ refused 1 0
unfolding read_item
model_missing = refl

-- ---- crossfire::write_to
-- the reply is 07, not 05
pub reply-put : PutsInOrder crossfire_rows (crossfire_says (ReplyCurrentModelSelection 3)) (Ok 2) (7 ∷ 8 ∷ 9 ∷ []) (0x07 ∷ 3 ∷ 9 ∷ [])
reply-put = (refl, refl)

-- where only the sub-command has room, it is not put
pub model_no_room : PutsInOrder crossfire_rows (crossfire_says (ModelSelection 3)) (Err BufferOverflow) (7 ∷ []) (7 ∷ [])
model_no_room = (refl, refl)

-- ---- flow_control::read
-- an interval has two bytes, not one
pub interval_short : read_body flow_rows (0x01 ∷ 9 ∷ 1 ∷ []) ≡ refused 1 0
unfolding read_item
interval_short = refl

-- the frame type stands before the interval
pub flow_order : read_body flow_rows (0x01 ∷ 9 ∷ 1 ∷ 2 ∷ []) ≡ got (flow_says (Subscribe 9 0x0102))
unfolding read_item
flow_order = refl

-- ---- flow_control::write_to
-- and is written there
pub flow_puts : PutsInOrder flow_rows (flow_says (Subscribe 9 0x0102)) (Ok 4) (replicate 5 7) (0x01 ∷ 9 ∷ 1 ∷ 2 ∷ 7 ∷ [])
flow_puts = (refl, refl)

-- no interval is half written
pub flow_no_room : PutsInOrder flow_rows (flow_says (Subscribe 9 0x0102)) (Err BufferOverflow) (6 ∷ 7 ∷ 8 ∷ []) (6 ∷ 7 ∷ 8 ∷ [])
flow_no_room = (refl, refl)

-- ---- text::CommandString::new
-- a zero byte is judged before the length
pub text_zero_first : new_text (replicate 51 0x41 ++ 0 ∷ []) ≡ refused 2 0
text_zero_first = refl

-- a text of 52 bytes is not cut
pub text_52 : new_text (replicate 52 0x41) ≡ refused 1 0
text_52 = refl

-- ---- text::made_bytes
-- an unused place that is not zero
pub unused_7 : made_bytes 51 1 (0x41 ∷ 7 ∷ 0 ∷ []) ≡ false
unused_7 = refl

-- a used one that is
pub used_0 : made_bytes 51 2 (0x41 ∷ 0 ∷ 0 ∷ []) ≡ false
used_0 = refl

-- `text::all_zero`: a byte that is not 0, wherever it stands; no other answer where all are
pub zeros_7 : zeros (0 ∷ 7 ∷ 0 ∷ []) ≡ false
zeros_7 = refl

pub zeros-all : zeros (0 ∷ 0 ∷ []) ≡ true
zeros-all = refl

-- ---- ack::CommandAck::new
-- the length is judged before action and bytes
pub ack_length_first : new_ack (ack_with 1 1 2) (replicate 53 0) ≡ refused 1 0
ack_length_first = refl

-- no ACK has action 2
pub ack_2 : new_ack (ack_with 1 1 2) (0x41 ∷ []) ≡ refused 2 0
ack_2 = refl

-- ---- ack::read
-- "An ACK with action 2 and no 00: 1, not 2."
pub ack_unended : read_ack (1 ∷ 1 ∷ 2 ∷ 0x41 ∷ []) ≡ refused 1 0
unfolding read_item
ack_unended = refl

-- action 2 is not read
pub ack_reads_no_2 : read_ack (1 ∷ 1 ∷ 2 ∷ 0 ∷ []) ≡ refused 2 0
unfolding read_item
ack_reads_no_2 = refl

-- ---- ack::write_to
-- its contract, with the first n of the bytes b as information
abbrev PutsAck : CommandAck → List ℕ → ℕ → Result ℕ Refusal → List ℕ → List ℕ → Type 0
PutsAck a b n r s s' = Writes (stop_ack (length s) (ack_says a (take n b))) (write_items ack_items (ack_says a (take n b))) r s s'

-- the action is judged before the room
pub ack_values_first : PutsAck (ack_with 1 1 2) (0x41 ∷ []) 1 (Err InvalidPayload) [] []
ack_values_first = (refl, refl)

-- bytes behind the information are not written, and its 00 is
pub ack_puts : PutsAck (ack_with 1 2 1) (0x41 ∷ 0x42 ∷ []) 1 (Ok 5) (replicate 6 9) (1 ∷ 2 ∷ 1 ∷ 0x41 ∷ 0 ∷ 9 ∷ [])
ack_puts = (refl, refl)

-- ---- ack::made
-- a length of 53
pub information_53 : made_information 53 (replicate 55 0x41) ≡ false
information_53 = refl

-- an unused place that is not zero
pub information_unused : made_information 1 (0x41 ∷ 7 ∷ []) ≡ false
information_unused = refl

-- ---- screen::ScreenPopup::new (and must-fail/popup_56)
-- a selection with this label, all else empty
abbrev selecting : List ℕ → ScreenPopupFields
selecting label = record {
  header = text_of [];
  info = text_of [];
  max_timeout_interval = 0;
  close_button_option = false;
  additional_data = Selection;
  selection_text = text_of label;
  value = 0;
  min_value = 0;
  max_value = 0;
  default_value = 0;
  unit = text_of [];
  has_possible_values = false;
  possible_values = text_of [];
}

-- an empty label
pub label_empty : construct (selecting []) ≡ refused 2 0
label_empty = refl

-- ---- ScreenPopup::fields
-- a byte left over behind the possible values
pub left_over_lem : inspect (popup_of (0 ∷ 0 ∷ 0 ∷ 0 ∷ 0 ∷ 0 ∷ 9 ∷ [])) ≡ refused 5 0
unfolding read_item
left_over_lem = refl

-- a close flag of 2 is 5, not the reader's 2
pub close_2 : inspect (popup_of (0 ∷ 0 ∷ 0 ∷ 2 ∷ [])) ≡ refused 5 0
unfolding read_item
close_2 = refl

-- ---- ScreenPopupFields::blank (and must-fail/blank_closes)
-- nothing optional is present, not even `Empty`
pub blank_absent : blank_fields.additional_data ≡ Absent
blank_absent = refl

-- ---- screen::made
-- the blank popup is none that fields give
pub blank_not_made : made_popup (popup_of []) ≡ false
unfolding read_item
blank_not_made = refl

-- nor is one with an unused place that is not zero
pub popup-unused : made_popup (record { len = 4; bytes = replicate 54 0 ++ 7 ∷ [] }) ≡ false
popup-unused = refl

-- ---- screen::read
-- bytes behind the last item are not stored
pub rest_not_stored : ScreenIs (read_screen (0x01 ∷ 0 ∷ 0 ∷ 0 ∷ 0 ∷ 0 ∷ 0 ∷ 9 ∷ []))
    (Ok (record { command = PopupMessageStart; popup = popup_of (replicate 6 0) }))
unfolding read_item
rest_not_stored = refl

-- a popup of 56 bytes
pub popup_56_read : read_screen (0x01 ∷ replicate 51 0x41 ++ replicate 5 0) ≡ refused 1 0
unfolding read_item
popup_56_read = refl

-- ---- screen::write_to
-- its contract, with the first n of the bytes b as the popup's
abbrev PutsScreen : ScreenCommand → List ℕ → ℕ → Result ℕ Refusal → List ℕ → List ℕ → Type 0
PutsScreen c b n r s s' = Writes (stop_room (length s) (length (screen_body c (take n b)))) (screen_body c (take n b)) r s s'

-- the response stands behind the value
pub return-put : PutsScreen (SelectionReturnValue 5 true) [] 0 (Ok 3) (replicate 4 9) (0x02 ∷ 5 ∷ 1 ∷ 9 ∷ [])
return-put = (refl, refl)

-- no popup is half written
pub start_no_room : PutsScreen PopupMessageStart (replicate 55 0) 4 (Err BufferOverflow) (replicate 4 9) (replicate 4 9)
start_no_room = (refl, refl)

-- ---- payload::command_id
-- flow control is 0x20, not the 0x10 of Crossfire
pub flow_id : family_id (FlowControl (Unsubscribe 1)) ≡ 0x20
flow_id = refl

-- an ACK has its own id, not that of what it answers
pub ack_id : family_id (Ack (ack_with 0x08 2 1)) ≡ 0xFF
ack_id = refl

-- ---- written_len of each family
-- the sub-command is counted
pub fc_len : length (write_body fc_rows (fc_says ScaleChannel)) ≡ 1
fc_len = refl

pub osd_len : length (write_body osd_rows (osd_says (record { buttons = 5 }))) ≡ 2
osd_len = refl

-- the three values of a pit byte are one byte, those of a colour three
pub pit-len : length (write_body vtx_rows (vtx_says (EnablePitModeOnPowerUp true 2 9))) ≡ 2
pit-len = refl

pub colour-len : length (write_body led_rows (led_says (OverrideColor (colour 1 2 3)))) ≡ 4
colour-len = refl

-- a response's flag is a byte, as its port is
pub response_len : length (write_body general_rows (general_says (SpeedProposalResponse 1 true))) ≡ 3
response_len = refl

-- no model is counted where there is none
pub bind_len : length (write_body crossfire_rows (crossfire_says SetBindId)) ≡ 1
bind_len = refl

-- nor an interval
pub unsubscribe_len : length (write_body flow_rows (flow_says (Unsubscribe 9))) ≡ 2
unsubscribe_len = refl

-- stored bytes behind the popup's are not counted
pub popup-len : length (screen_body PopupMessageStart (take 4 (replicate 55 0))) ≡ 5
popup-len = refl

-- nor behind an ACK's information
pub ack_len : length (write_items ack_items (ack_says (ack_with 1 2 1) (take 1 (0x41 ∷ 0x42 ∷ [])))) ≡ 5
ack_len = refl

-- What no edit changes of a command, as the code finds it. For the contracts of private functions: nobody has to believe this file.
-- Assumes nothing.
use Rattle.std.specs.Prelude.{ℕ, ◌+◌, ◌≤◌, ◌<◌, List, [], ◌∷◌, length, drop, get_or, ltb, eqb}
use Rattle.codec.specs.Pick.{pick}
use Rattle.codec.specs.Sheet.{Item, Answer, got, refused, byte, word, long, flag}
use Rattle.codec.specs.Reading.{read_item}
use Rattle.families.specs.Sheets.{frequency, pit, colour, text_item}
use Rattle.families.specs.declared.vtx.VtxCommand.{VtxCommand}
use Rattle.families.specs.declared.vtx.VtxCommand.TheVariants.{SetFrequency, EnablePitModeOnPowerUp, PowerUpFromPitMode, SetDynamicPower, SetPower}
use Rattle.families.specs.declared.led.LedCommand.{LedCommand}
use Rattle.families.specs.declared.led.LedCommand.TheVariants.{SetDefault, OverrideColor, OverridePulse, OverrideBlink, OverrideShift}
use Rattle.families.specs.declared.general.GeneralCommand.{GeneralCommand}
use Rattle.families.specs.declared.general.GeneralCommand.TheVariants.{SpeedProposal, SpeedProposalResponse}
use Rattle.families.specs.declared.crossfire.CrossfireCommand.{CrossfireCommand}
use Rattle.families.specs.declared.crossfire.CrossfireCommand.TheVariants.{SetReceiverInBindMode, CancelBindMode, SetBindId, ModelSelection, CurrentModelSelection, ReplyCurrentModelSelection, EnableRxTelemetry, DisableRxTelemetry, FactoryReset, ResetToFactoryFirmware}
use Rattle.families.specs.declared.flow_control.FlowControlCommand.{FlowControlCommand}
use Rattle.families.specs.declared.flow_control.FlowControlCommand.TheVariants.{Subscribe, Unsubscribe}
use Rattle.families.specs.declared.screen.ScreenCommand.{ScreenCommand}
use Rattle.families.specs.declared.screen.ScreenCommand.TheVariants.{PopupMessageStart, SelectionReturnValue}
use Rattle.families.specs.declared.payload.CommandPayload.{CommandPayload}
use Rattle.families.specs.declared.payload.CommandPayload.TheVariants.{Fc, Osd, Vtx, Led, General, Crossfire, FlowControl, Screen, Ack}
use Rattle.edits.specs.Table.{sizes, index_for}
use Rattle.edits.specs.declared.layout.Layout.{Layout}

-- ---- IN GENERAL: the payload's length, rows of the table from first up to end, the places that are not fixed
-- "destination (1), source (1), command id (1), body, check (1)": with a sub-command alone; and where the items behind it begin
abbrev pub alone_size : ℕ
alone_size = 4 + 1

abbrev pub first_item : ℕ
first_item = 4

-- the table has a row of this index
abbrev pub IsRow : ℕ → Type 0
IsRow index = index < 32

-- "The largest length is 60.": items of so many bytes behind a sub-command
abbrev pub HaveRoom : ℕ → Type 0
HaveRoom items = alone_size + items ≤ 60

-- the rows from first to last
abbrev pub laid_out : ℕ → ℕ → ℕ → ℕ → ℕ → Layout
laid_out size first last near far = record { size = size; first = first; end = last + 1; near = near; far = far }

-- and all places fixed
abbrev pub fixed : ℕ → ℕ → ℕ → Layout
fixed size first last = laid_out size first last 0 0

-- so many bytes of items behind the sub-command, and all places fixed; or the only or start colour at a place
abbrev pub plain : ℕ → ℕ → ℕ → Layout
plain items first last = laid_out (alone_size + items) first last 0 0

abbrev pub coloured : ℕ → ℕ → ℕ → ℕ → Layout
coloured items first last colour = laid_out (alone_size + items) first last colour 0

-- ---- BY COMMAND: its items, and the first and the last of its fields by 01's numbers
abbrev pub with_fields : List Item → ℕ → ℕ → Layout
with_fields items from to = plain (sizes items) (index_for from) (index_for to)

abbrev pub with_colour : List Item → ℕ → ℕ → ℕ → Layout
with_colour items from to at = coloured (sizes items) (index_for from) (index_for to) at

-- a sub-command alone has no field of its own: none from row 2 on, which stands behind the addresses'
abbrev pub alone : Layout
alone = record { size = alone_size; first = 2; end = 2; near = 0; far = 0 }

abbrev pub osd_layout : Layout
osd_layout = with_fields (byte ∷ []) 10 10

abbrev pub vtx_layout : VtxCommand → Layout
vtx_layout (SetFrequency f) = with_fields (frequency ∷ []) 20 20
vtx_layout (EnablePitModeOnPowerUp mode control switch) = with_fields (pit ∷ []) 21 23
vtx_layout PowerUpFromPitMode = alone
vtx_layout (SetDynamicPower p) = with_fields (byte ∷ []) 24 24
vtx_layout (SetPower p) = with_fields (byte ∷ []) 24 24

-- where a colour stands behind time(2)
abbrev pub after_time : ℕ
after_time = first_item + 2

abbrev pub led_layout : LedCommand → Layout
led_layout SetDefault = alone
led_layout (OverrideColor c) = with_colour (colour ∷ []) 31 33 first_item
led_layout (OverridePulse t a b) = with_colour (word ∷ colour ∷ colour ∷ []) 30 36 after_time
led_layout (OverrideBlink t a b) = with_colour (word ∷ colour ∷ colour ∷ []) 30 36 after_time
led_layout (OverrideShift t c) = with_colour (word ∷ colour ∷ []) 30 33 after_time

-- in the table 41 stands before 40
abbrev pub general_layout : GeneralCommand → Layout
general_layout (SpeedProposal port baud) = with_fields (byte ∷ long ∷ []) 41 40
general_layout (SpeedProposalResponse port accepted) = with_fields (byte ∷ flag ∷ []) 40 42

abbrev pub crossfire_layout : CrossfireCommand → Layout
crossfire_layout SetReceiverInBindMode = alone
crossfire_layout CancelBindMode = alone
crossfire_layout SetBindId = alone
crossfire_layout (ModelSelection model) = with_fields (byte ∷ []) 50 50
crossfire_layout CurrentModelSelection = alone
crossfire_layout (ReplyCurrentModelSelection model) = with_fields (byte ∷ []) 50 50
crossfire_layout EnableRxTelemetry = alone
crossfire_layout DisableRxTelemetry = alone
crossfire_layout FactoryReset = alone
crossfire_layout ResetToFactoryFirmware = alone

abbrev pub flow_layout : FlowControlCommand → Layout
flow_layout (Subscribe frame interval) = with_fields (byte ∷ word ∷ []) 60 61
flow_layout (Unsubscribe frame) = with_fields (byte ∷ []) 60 60

-- n stored bytes have room in a payload, beside destination, source, command id and check
abbrev pub Stores : ℕ → List ℕ → Type 0
Stores n p = n + 4 ≤ length p

-- the place after the text at a place; 0 if there is none
abbrev pub place_after : ℕ → Answer (List ℕ) → ℕ
place_after at (got v) = at + (length v + 1)
place_after at (refused n p) = 0

abbrev pub after_text : List ℕ → ℕ → ℕ
after_text s at = place_after at (read_item text_item (drop at s))

-- a popup of n stored bytes, its timeout at a place; and with a selection, its value at a place
abbrev pub shown : ℕ → ℕ → Layout
shown n timeout = laid_out (n + alone_size) (index_for 70) (index_for 71) timeout 0

abbrev pub selection : ℕ → ℕ → ℕ → Layout
selection n timeout value = laid_out (n + alone_size) (index_for 70) (index_for 75) timeout value

-- in the payload s: a selection follows close where bytes remain and the next is no 00
abbrev pub popup_from : ℕ → List ℕ → ℕ → Layout
popup_from n s timeout =
    let label : ℕ = timeout + 2 in
    pick (ltb label (n + first_item))
    (pick (eqb (get_or s label 0) 0) (shown n timeout) (selection n timeout (after_text s label))) (shown n timeout)

abbrev pub popup_layout : ℕ → List ℕ → Layout
popup_layout n s = popup_from n s (after_text s (after_text s first_item))

abbrev pub screen_layout : ScreenCommand → ℕ → List ℕ → Layout
screen_layout PopupMessageStart n s = popup_layout n s
screen_layout (SelectionReturnValue value response) n s = with_fields (byte ∷ flag ∷ []) 76 77

-- of n bytes of information: "command id(1), sub id(1), action 0 or 1" before them, 00 behind
abbrev pub ack_layout : ℕ → Layout
ack_layout n = laid_out (n + (4 + 3 + 1)) (index_for 80) (index_for 82) 0 0

-- a command that stores n bytes, in the payload s
abbrev pub layout_for : CommandPayload → ℕ → List ℕ → Layout
layout_for (Fc c) n s = alone
layout_for (Osd c) n s = osd_layout
layout_for (Vtx c) n s = vtx_layout c
layout_for (Led c) n s = led_layout c
layout_for (General c) n s = general_layout c
layout_for (Crossfire c) n s = crossfire_layout c
layout_for (FlowControl c) n s = flow_layout c
layout_for (Screen c) n s = screen_layout c n s
layout_for (Ack a) n s = ack_layout n

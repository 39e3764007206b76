-- The C boundary's image of a payload: its sub-command and its values, 11 bytes from place 3 of a record's image on. Assumes nothing.
use Rattle.std.specs.Prelude.{ℕ, ◌+◌, Bool, List, [], ◌∷◌, ◌++◌, get_or, eqb}
use Rattle.codec.specs.Pick.{pick}
use Rattle.codec.specs.Digits.{number_of, bytes_of}
use Rattle.codec.specs.Told.{bit}
use Rattle.families.specs.Text.{padded}
use Rattle.families.specs.Ack.{ack_with}
use Rattle.families.specs.declared.fc.FcCommand.{FcCommand}
use Rattle.families.specs.declared.fc.FcCommand.TheVariants.{ForceDisarm, ScaleChannel}
use Rattle.families.specs.declared.osd.OsdCommand.{OsdCommand}
use Rattle.families.specs.declared.vtx.VtxCommand.{VtxCommand}
use Rattle.families.specs.declared.vtx.VtxCommand.TheVariants.{SetFrequency, EnablePitModeOnPowerUp, PowerUpFromPitMode, SetDynamicPower, SetPower}
use Rattle.families.specs.declared.led.LedColor.{LedColor}
use Rattle.families.specs.declared.led.LedCommand.{LedCommand}
use Rattle.families.specs.declared.led.LedCommand.TheVariants.{SetDefault, OverrideColor, OverridePulse, OverrideBlink, OverrideShift}
use Rattle.families.specs.declared.general.GeneralCommand.{GeneralCommand}
use Rattle.families.specs.declared.general.GeneralCommand.TheVariants.{SpeedProposal, SpeedProposalResponse}
use Rattle.families.specs.declared.crossfire.CrossfireCommand.{CrossfireCommand}
use Rattle.families.specs.declared.crossfire.CrossfireCommand.TheVariants.{SetReceiverInBindMode, CancelBindMode, SetBindId, ModelSelection, CurrentModelSelection, ReplyCurrentModelSelection, EnableRxTelemetry, DisableRxTelemetry, FactoryReset, ResetToFactoryFirmware}
use Rattle.families.specs.declared.flow_control.FlowControlCommand.{FlowControlCommand}
use Rattle.families.specs.declared.flow_control.FlowControlCommand.TheVariants.{Subscribe, Unsubscribe}
use Rattle.families.specs.declared.screen.ScreenCommand.{ScreenCommand}
use Rattle.families.specs.declared.screen.ScreenCommand.TheVariants.{PopupMessageStart, SelectionReturnValue}
use Rattle.families.specs.declared.ack.CommandAck.{CommandAck}
use Rattle.families.specs.declared.payload.CommandPayload.{CommandPayload}
use Rattle.families.specs.declared.payload.CommandPayload.TheVariants.{Fc, Osd, Vtx, Led, General, Crossfire, FlowControl, Screen, Ack}

-- the sub-command, 0 for an ACK; 10 bytes of values, each at its own type's width in the order of 01's sheet, zeros after
abbrev pub laid : ℕ → List ℕ → List ℕ
laid sub vs = sub ∷ padded 10 vs

abbrev pub fc_laid : FcCommand → List ℕ
fc_laid ForceDisarm = laid 0x01 []
fc_laid ScaleChannel = laid 0x02 []

abbrev pub osd_laid : OsdCommand → List ℕ
osd_laid c = laid 0x01 (c.buttons ∷ [])

-- pit byte: mode, control, switch, 1 each
abbrev pub vtx_laid : VtxCommand → List ℕ
vtx_laid (SetFrequency f) = laid 0x02 (bytes_of 2 f)
vtx_laid (EnablePitModeOnPowerUp mode control switch) = laid 0x04 (bit mode ∷ control ∷ switch ∷ [])
vtx_laid PowerUpFromPitMode = laid 0x05 []
vtx_laid (SetDynamicPower p) = laid 0x06 (p ∷ [])
vtx_laid (SetPower p) = laid 0x08 (p ∷ [])

-- a colour: hue 2, saturation 1, value 1
abbrev pub color_bytes : LedColor → List ℕ
color_bytes c = bytes_of 2 c.hue ++ c.saturation ∷ c.value ∷ []

abbrev pub led_laid : LedCommand → List ℕ
led_laid SetDefault = laid 0x01 []
led_laid (OverrideColor c) = laid 0x02 (color_bytes c)
led_laid (OverridePulse t a b) = laid 0x03 (bytes_of 2 t ++ (color_bytes a ++ color_bytes b))
led_laid (OverrideBlink t a b) = laid 0x04 (bytes_of 2 t ++ (color_bytes a ++ color_bytes b))
led_laid (OverrideShift t c) = laid 0x05 (bytes_of 2 t ++ color_bytes c)

-- a flag: 1
abbrev pub general_laid : GeneralCommand → List ℕ
general_laid (SpeedProposal port baud) = laid 0x70 (port ∷ bytes_of 4 baud)
general_laid (SpeedProposalResponse port accepted) = laid 0x71 (port ∷ bit accepted ∷ [])

abbrev pub crossfire_laid : CrossfireCommand → List ℕ
crossfire_laid SetReceiverInBindMode = laid 0x01 []
crossfire_laid CancelBindMode = laid 0x02 []
crossfire_laid SetBindId = laid 0x03 []
crossfire_laid (ModelSelection model) = laid 0x05 (model ∷ [])
crossfire_laid CurrentModelSelection = laid 0x06 []
crossfire_laid (ReplyCurrentModelSelection model) = laid 0x07 (model ∷ [])
crossfire_laid EnableRxTelemetry = laid 0x0A []
crossfire_laid DisableRxTelemetry = laid 0x0B []
crossfire_laid FactoryReset = laid 0x0C []
crossfire_laid ResetToFactoryFirmware = laid 0x0D []

abbrev pub flow_laid : FlowControlCommand → List ℕ
flow_laid (Subscribe frame interval) = laid 0x01 (frame ∷ bytes_of 2 interval)
flow_laid (Unsubscribe frame) = laid 0x02 (frame ∷ [])

abbrev pub screen_laid : ScreenCommand → List ℕ
screen_laid PopupMessageStart = laid 0x01 []
screen_laid (SelectionReturnValue value response) = laid 0x02 (value ∷ bit response ∷ [])

-- ACK: command id, sub id, action
abbrev pub ack_laid : CommandAck → List ℕ
ack_laid a = laid 0 (a.command_id ∷ a.sub_command_id ∷ a.action ∷ [])

unfoldable pub payload_laid : CommandPayload → List ℕ
payload_laid (Fc c) = fc_laid c
payload_laid (Osd c) = osd_laid c
payload_laid (Vtx c) = vtx_laid c
payload_laid (Led c) = led_laid c
payload_laid (General c) = general_laid c
payload_laid (Crossfire c) = crossfire_laid c
payload_laid (FlowControl c) = flow_laid c
payload_laid (Screen c) = screen_laid c
payload_laid (Ack a) = ack_laid a

-- AN IMAGE HANDED IN: command id at 2, sub-command at 3, values from 4 on. Of an unknown id or sub-command the last one is taken, whose
-- image is another.
abbrev pub sub_at : List ℕ → ℕ
sub_at s = get_or s 3 0

abbrev pub word_at : List ℕ → ℕ → ℕ
word_at s at = number_of (get_or s at 0 ∷ get_or s (at + 1) 0 ∷ [])

abbrev pub long_at : List ℕ → ℕ → ℕ
long_at s at = number_of (get_or s at 0 ∷ get_or s (at + 1) 0 ∷ get_or s (at + 2) 0 ∷ get_or s (at + 3) 0 ∷ [])

abbrev pub flag_at : List ℕ → ℕ → Bool
flag_at s at = eqb (get_or s at 0) 1

abbrev pub color_at : List ℕ → ℕ → LedColor
color_at s at = record { hue = word_at s at; saturation = get_or s (at + 2) 0; value = get_or s (at + 3) 0 }

abbrev pub fc_at : List ℕ → FcCommand
fc_at s = pick (eqb (sub_at s) 0x01) ForceDisarm ScaleChannel

abbrev pub osd_at : List ℕ → OsdCommand
osd_at s = record { buttons = get_or s 4 0 }

abbrev pub vtx_at : List ℕ → VtxCommand
vtx_at s =
    pick (eqb (sub_at s) 0x02) (SetFrequency (word_at s 4))
    (pick (eqb (sub_at s) 0x04) (EnablePitModeOnPowerUp (flag_at s 4) (get_or s 5 0) (get_or s 6 0))
    (pick (eqb (sub_at s) 0x05) PowerUpFromPitMode
    (pick (eqb (sub_at s) 0x06) (SetDynamicPower (get_or s 4 0)) (SetPower (get_or s 4 0)))))

abbrev pub led_at : List ℕ → LedCommand
led_at s =
    pick (eqb (sub_at s) 0x01) SetDefault
    (pick (eqb (sub_at s) 0x02) (OverrideColor (color_at s 4))
    (pick (eqb (sub_at s) 0x03) (OverridePulse (word_at s 4) (color_at s 6) (color_at s 10))
    (pick (eqb (sub_at s) 0x04) (OverrideBlink (word_at s 4) (color_at s 6) (color_at s 10))
    (OverrideShift (word_at s 4) (color_at s 6)))))

abbrev pub general_at : List ℕ → GeneralCommand
general_at s = pick (eqb (sub_at s) 0x70) (SpeedProposal (get_or s 4 0) (long_at s 5)) (SpeedProposalResponse (get_or s 4 0) (flag_at s 5))

abbrev pub crossfire_at : List ℕ → CrossfireCommand
crossfire_at s =
    pick (eqb (sub_at s) 0x01) SetReceiverInBindMode
    (pick (eqb (sub_at s) 0x02) CancelBindMode
    (pick (eqb (sub_at s) 0x03) SetBindId
    (pick (eqb (sub_at s) 0x05) (ModelSelection (get_or s 4 0))
    (pick (eqb (sub_at s) 0x06) CurrentModelSelection
    (pick (eqb (sub_at s) 0x07) (ReplyCurrentModelSelection (get_or s 4 0))
    (pick (eqb (sub_at s) 0x0A) EnableRxTelemetry
    (pick (eqb (sub_at s) 0x0B) DisableRxTelemetry
    (pick (eqb (sub_at s) 0x0C) FactoryReset ResetToFactoryFirmware))))))))

abbrev pub flow_at : List ℕ → FlowControlCommand
flow_at s = pick (eqb (sub_at s) 0x01) (Subscribe (get_or s 4 0) (word_at s 5)) (Unsubscribe (get_or s 4 0))

abbrev pub screen_at : List ℕ → ScreenCommand
screen_at s = pick (eqb (sub_at s) 0x01) PopupMessageStart (SelectionReturnValue (get_or s 4 0) (flag_at s 5))

abbrev pub ack_at : List ℕ → CommandAck
ack_at s = ack_with (get_or s 4 0) (get_or s 5 0) (get_or s 6 0)

unfoldable pub payload_at : List ℕ → CommandPayload
payload_at s =
    pick (eqb (get_or s 2 0) 0x01) (Fc (fc_at s))
    (pick (eqb (get_or s 2 0) 0x05) (Osd (osd_at s))
    (pick (eqb (get_or s 2 0) 0x08) (Vtx (vtx_at s))
    (pick (eqb (get_or s 2 0) 0x09) (Led (led_at s))
    (pick (eqb (get_or s 2 0) 0x0A) (General (general_at s))
    (pick (eqb (get_or s 2 0) 0x10) (Crossfire (crossfire_at s))
    (pick (eqb (get_or s 2 0) 0x20) (FlowControl (flow_at s))
    (pick (eqb (get_or s 2 0) 0x22) (Screen (screen_at s)) (Ack (ack_at s)))))))))

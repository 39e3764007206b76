-- What writing lets through reads back, whatever bytes follow: of each family the one law over all sheets. Assumes nothing.
use Prim.Native.Nat.{ℕ}
use mathlib.Core.Bool.{true}
use mathlib.Core.List.{List, ◌++◌}
use mathlib.Core.Path.{◌≡◌, refl}
use Rattle.codec.specs.Sheet.{Row, Said, got}
use Rattle.codec.specs.Reading.{read_body}
use Rattle.codec.specs.Writing.{write_body, stop_in_order, stop_values_first}
use Rattle.codec.specs.Sound.{sound_rows, known}
use Rattle.codec.proofs.Stops.{back_in_order, back_values_first}
use Rattle.families.specs.Sheets.{fc_rows, osd_rows, vtx_rows, led_rows, general_rows, crossfire_rows, flow_rows}
use Rattle.families.specs.Fc.{fc_says}
use Rattle.families.specs.Osd.{osd_says}
use Rattle.families.specs.Vtx.{vtx_says}
use Rattle.families.specs.Led.{led_says}
use Rattle.families.specs.General.{general_says}
use Rattle.families.specs.Crossfire.{crossfire_says}
use Rattle.families.specs.FlowControl.{flow_says}
use Rattle.families.specs.declared.fc.FcCommand.{FcCommand}
use Rattle.families.specs.declared.fc.FcCommand.TheVariants.{ForceDisarm, ScaleChannel}
use Rattle.families.specs.declared.osd.OsdCommand.{OsdCommand}
use Rattle.families.specs.declared.vtx.VtxCommand.{VtxCommand}
use Rattle.families.specs.declared.vtx.VtxCommand.TheVariants.{SetFrequency, EnablePitModeOnPowerUp, PowerUpFromPitMode, SetDynamicPower, SetPower}
use Rattle.families.specs.declared.led.LedCommand.{LedCommand}
use Rattle.families.specs.declared.led.LedCommand.TheVariants.{SetDefault, OverrideColor, OverridePulse, OverrideBlink, OverrideShift}
use Rattle.families.specs.declared.general.GeneralCommand.{GeneralCommand}
use Rattle.families.specs.declared.general.GeneralCommand.TheVariants.{SpeedProposal, SpeedProposalResponse}
use Rattle.families.specs.declared.crossfire.CrossfireCommand.{CrossfireCommand}
use Rattle.families.specs.declared.crossfire.CrossfireCommand.TheVariants.{SetReceiverInBindMode, CancelBindMode, SetBindId, ModelSelection, CurrentModelSelection, ReplyCurrentModelSelection, EnableRxTelemetry, DisableRxTelemetry, FactoryReset, ResetToFactoryFirmware}
use Rattle.families.specs.declared.flow_control.FlowControlCommand.{FlowControlCommand}
use Rattle.families.specs.declared.flow_control.FlowControlCommand.TheVariants.{Subscribe, Unsubscribe}

-- what a command says is on its sheet
pub fc_known : (c : FcCommand) → known fc_rows (fc_says c) ≡ true
fc_known ForceDisarm = refl
fc_known ScaleChannel = refl

pub osd_known : (c : OsdCommand) → known osd_rows (osd_says c) ≡ true
osd_known c = refl

pub vtx_known : (c : VtxCommand) → known vtx_rows (vtx_says c) ≡ true
vtx_known (SetFrequency f) = refl
vtx_known (EnablePitModeOnPowerUp mode control switch) = refl
vtx_known PowerUpFromPitMode = refl
vtx_known (SetDynamicPower p) = refl
vtx_known (SetPower p) = refl

pub led_known : (c : LedCommand) → known led_rows (led_says c) ≡ true
led_known SetDefault = refl
led_known (OverrideColor c) = refl
led_known (OverridePulse t a b) = refl
led_known (OverrideBlink t a b) = refl
led_known (OverrideShift t c) = refl

pub general_known : (c : GeneralCommand) → known general_rows (general_says c) ≡ true
general_known (SpeedProposal port baud) = refl
general_known (SpeedProposalResponse port accepted) = refl

pub crossfire_known : (c : CrossfireCommand) → known crossfire_rows (crossfire_says c) ≡ true
crossfire_known SetReceiverInBindMode = refl
crossfire_known CancelBindMode = refl
crossfire_known SetBindId = refl
crossfire_known (ModelSelection model) = refl
crossfire_known CurrentModelSelection = refl
crossfire_known (ReplyCurrentModelSelection model) = refl
crossfire_known EnableRxTelemetry = refl
crossfire_known DisableRxTelemetry = refl
crossfire_known FactoryReset = refl
crossfire_known ResetToFactoryFirmware = refl

pub flow_known : (c : FlowControlCommand) → known flow_rows (flow_says c) ≡ true
flow_known (Subscribe frame interval) = refl
flow_known (Unsubscribe frame) = refl

-- the round trip of a family whose writing stops in that order
abbrev pub Back : {C : Type 0} → List Row → (List Row → ℕ → Said → ℕ) → (C → Said) → Type 0
Back {C} rows stop says =
    (c : C) (room : ℕ) (post : List ℕ) → stop rows room (says c) ≡ 0 → read_body rows (write_body rows (says c) ++ post) ≡ got (says c)

pub in_order : {C : Type 0} (rows : List Row) (says : C → Said) → sound_rows rows ≡ true → ((c : C) → known rows (says c) ≡ true)
    → Back rows stop_in_order says
in_order rows says sound on c room post = back_in_order rows room (says c) post sound (on c)

pub values-first : {C : Type 0} (rows : List Row) (says : C → Said) → sound_rows rows ≡ true → ((c : C) → known rows (says c) ≡ true)
    → Back rows stop_values_first says
values-first rows says sound on c room post = back_values_first rows room (says c) post sound (on c)

pub fc_back : Back fc_rows stop_in_order fc_says
fc_back = in_order fc_rows fc_says refl fc_known

pub osd_back : Back osd_rows stop_in_order osd_says
osd_back = in_order osd_rows osd_says refl osd_known

pub vtx_back : Back vtx_rows stop_values_first vtx_says
vtx_back = values-first vtx_rows vtx_says refl vtx_known

pub led_back : Back led_rows stop_in_order led_says
led_back = in_order led_rows led_says refl led_known

pub general_back : Back general_rows stop_in_order general_says
general_back = in_order general_rows general_says refl general_known

pub crossfire_back : Back crossfire_rows stop_in_order crossfire_says
crossfire_back = in_order crossfire_rows crossfire_says refl crossfire_known

pub flow_back : Back flow_rows stop_in_order flow_says
flow_back = in_order flow_rows flow_says refl flow_known

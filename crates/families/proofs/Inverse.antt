-- A command is fixed by what it says: of each family, that its inverse is one. Assumes nothing.
use mathlib.Core.Bool.{true, false}
use mathlib.Core.Path.{◌≡◌, refl}
use Rattle.families.specs.Fc.{fc_says, fc_of}
use Rattle.families.specs.Osd.{osd_says, osd_of}
use Rattle.families.specs.Vtx.{vtx_says, vtx_of}
use Rattle.families.specs.Led.{led_says, led_of}
use Rattle.families.specs.General.{general_says, general_of}
use Rattle.families.specs.Crossfire.{crossfire_says, crossfire_of}
use Rattle.families.specs.FlowControl.{flow_says, flow_of}
use Rattle.families.specs.declared.fc.FcCommand.{FcCommand}
use Rattle.families.specs.declared.fc.FcCommand.TheVariants.{ForceDisarm, ScaleChannel}
use Rattle.families.specs.declared.osd.OsdCommand.{OsdCommand}
use Rattle.families.specs.declared.vtx.VtxCommand.{VtxCommand}
use Rattle.families.specs.declared.vtx.VtxCommand.TheVariants.{SetFrequency, EnablePitModeOnPowerUp, PowerUpFromPitMode, SetDynamicPower, SetPower}
use Rattle.families.specs.declared.led.LedCommand.{LedCommand}
use Rattle.families.specs.declared.led.LedCommand.TheVariants.{SetDefault, OverrideColor, OverridePulse, OverrideBlink, OverrideShift}
use Rattle.families.specs.declared.general.GeneralCommand.{GeneralCommand}
use Rattle.families.specs.declared.general.GeneralCommand.TheVariants.{SpeedProposal, SpeedProposalResponse}
use Rattle.families.specs.declared.crossfire.CrossfireCommand.{CrossfireCommand}
use Rattle.families.specs.declared.crossfire.CrossfireCommand.TheVariants.{SetReceiverInBindMode, CancelBindMode, SetBindId, ModelSelection, CurrentModelSelection, ReplyCurrentModelSelection, EnableRxTelemetry, DisableRxTelemetry, FactoryReset, ResetToFactoryFirmware}
use Rattle.families.specs.declared.flow_control.FlowControlCommand.{FlowControlCommand}
use Rattle.families.specs.declared.flow_control.FlowControlCommand.TheVariants.{Subscribe, Unsubscribe}

-- ---- 0x01 FC
pub fc_of_lem : (c : FcCommand) → fc_of (fc_says c) ≡ c
fc_of_lem ForceDisarm = refl
fc_of_lem ScaleChannel = refl

-- ---- 0x05 OSD
pub osd_of_lem : (c : OsdCommand) → osd_of (osd_says c) ≡ c
osd_of_lem c = refl

-- ---- 0x08 VTX: the pit byte's fields stand from the highest bits down
pub vtx_of_lem : (c : VtxCommand) → vtx_of (vtx_says c) ≡ c
vtx_of_lem (SetFrequency f) = refl
vtx_of_lem (EnablePitModeOnPowerUp true control switch) = refl
vtx_of_lem (EnablePitModeOnPowerUp false control switch) = refl
vtx_of_lem PowerUpFromPitMode = refl
vtx_of_lem (SetDynamicPower p) = refl
vtx_of_lem (SetPower p) = refl

-- ---- 0x09 LED
pub led_of_lem : (c : LedCommand) → led_of (led_says c) ≡ c
led_of_lem SetDefault = refl
led_of_lem (OverrideColor c) = refl
led_of_lem (OverridePulse t a b) = refl
led_of_lem (OverrideBlink t a b) = refl
led_of_lem (OverrideShift t c) = refl

-- ---- 0x0A General
pub general_of_lem : (c : GeneralCommand) → general_of (general_says c) ≡ c
general_of_lem (SpeedProposal port baud) = refl
general_of_lem (SpeedProposalResponse port true) = refl
general_of_lem (SpeedProposalResponse port false) = refl

-- ---- 0x10 Crossfire
pub crossfire_of_lem : (c : CrossfireCommand) → crossfire_of (crossfire_says c) ≡ c
crossfire_of_lem SetReceiverInBindMode = refl
crossfire_of_lem CancelBindMode = refl
crossfire_of_lem SetBindId = refl
crossfire_of_lem (ModelSelection model) = refl
crossfire_of_lem CurrentModelSelection = refl
crossfire_of_lem (ReplyCurrentModelSelection model) = refl
crossfire_of_lem EnableRxTelemetry = refl
crossfire_of_lem DisableRxTelemetry = refl
crossfire_of_lem FactoryReset = refl
crossfire_of_lem ResetToFactoryFirmware = refl

-- ---- 0x20 Flow control
pub flow_of_lem : (c : FlowControlCommand) → flow_of (flow_says c) ≡ c
flow_of_lem (Subscribe frame interval) = refl
flow_of_lem (Unsubscribe frame) = refl

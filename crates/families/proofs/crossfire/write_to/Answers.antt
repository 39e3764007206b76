-- Each case writes the body of its row. Assumes nothing.
use Prim.Native.Nat.{◌<◌}
use mathlib.Core.Path.{refl}
use Rattle.families.specs.Sheets.{crossfire_rows}
use Rattle.families.proofs.Ok.{with_byte}
use borrow.Author.Rules.{rules}
use Rattle.families.proofs.crossfire.write_to.Goals as goal

pub returns-in-SetReceiverInBindMode : goal.returns-in-SetReceiverInBindMode
returns-in-SetReceiverInBindMode c = rw c.in-SetReceiverInBindMode.is c.write_alone.ensures

pub returns-in-CancelBindMode : goal.returns-in-CancelBindMode
returns-in-CancelBindMode c = rw c.in-CancelBindMode.is c.write_alone-in-CancelBindMode.ensures

pub returns-in-SetBindId : goal.returns-in-SetBindId
returns-in-SetBindId c = rw c.in-SetBindId.is c.write_alone-in-SetBindId.ensures

pub returns-in-ModelSelection : goal.returns-in-ModelSelection
returns-in-ModelSelection c = let h : c.in-ModelSelection.model < 256 = search rules in
    rw c.in-ModelSelection.is
    (with_byte crossfire_rows 0x05 c.in-ModelSelection.model
    c.args.body.now _
    c.write_with_byte.result refl h c.write_with_byte.ensures)

pub returns-in-CurrentModelSelection : goal.returns-in-CurrentModelSelection
returns-in-CurrentModelSelection c = rw c.in-CurrentModelSelection.is c.write_alone-in-CurrentModelSelection.ensures

pub returns-in-ReplyCurrentModelSelection : goal.returns-in-ReplyCurrentModelSelection
returns-in-ReplyCurrentModelSelection c = let h : c.in-ReplyCurrentModelSelection.model < 256 = search rules in
    rw c.in-ReplyCurrentModelSelection.is
    (with_byte crossfire_rows 0x07 c.in-ReplyCurrentModelSelection.model
    c.args.body.now _
    c.write_with_byte-in-ReplyCurrentModelSelection.result refl h c.write_with_byte-in-ReplyCurrentModelSelection.ensures)

pub returns-in-EnableRxTelemetry : goal.returns-in-EnableRxTelemetry
returns-in-EnableRxTelemetry c = rw c.in-EnableRxTelemetry.is c.write_alone-in-EnableRxTelemetry.ensures

pub returns-in-DisableRxTelemetry : goal.returns-in-DisableRxTelemetry
returns-in-DisableRxTelemetry c = rw c.in-DisableRxTelemetry.is c.write_alone-in-DisableRxTelemetry.ensures

pub returns-in-FactoryReset : goal.returns-in-FactoryReset
returns-in-FactoryReset c = rw c.in-FactoryReset.is c.write_alone-in-FactoryReset.ensures

pub returns-in-ResetToFactoryFirmware : goal.returns-in-ResetToFactoryFirmware
returns-in-ResetToFactoryFirmware c = rw c.in-ResetToFactoryFirmware.is c.write_alone-in-ResetToFactoryFirmware.ensures

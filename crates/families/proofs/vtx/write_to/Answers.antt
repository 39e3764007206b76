-- Writing a VTX command is writing its row, arm by arm. Assumes nothing.
use Prim.Native.Nat.{◌<◌}
use mathlib.Core.Path.{refl}
use Rattle.families.specs.Sheets.{vtx_rows}
use Rattle.families.proofs.Ok.{with_byte_first}
use borrow.Author.Rules.{rules}
use Rattle.families.proofs.vtx.write_to.Goals as goal

pub returns-in-SetFrequency : goal.returns-in-SetFrequency
returns-in-SetFrequency c =
    rw c.in-SetFrequency.is c.write_frequency.ensures

pub returns-in-EnablePitModeOnPowerUp : goal.returns-in-EnablePitModeOnPowerUp
returns-in-EnablePitModeOnPowerUp c =
    rw c.in-EnablePitModeOnPowerUp.is c.write_pit.ensures

pub returns-in-PowerUpFromPitMode : goal.returns-in-PowerUpFromPitMode
returns-in-PowerUpFromPitMode c = rw c.in-PowerUpFromPitMode.is c.write_alone.ensures

pub returns-in-SetDynamicPower : goal.returns-in-SetDynamicPower
returns-in-SetDynamicPower c =
    let h : c.in-SetDynamicPower.power < 256 = search rules in
    rw c.in-SetDynamicPower.is (with_byte_first vtx_rows 0x06 c.in-SetDynamicPower.power c.args.body.now _
    c.write_with_byte.result refl h c.write_with_byte.ensures)

pub returns-in-SetPower : goal.returns-in-SetPower
returns-in-SetPower c =
    let h : c.in-SetPower.power < 256 = search rules in
    rw c.in-SetPower.is (with_byte_first vtx_rows 0x08 c.in-SetPower.power c.args.body.now _
    c.write_with_byte-in-SetPower.result refl h c.write_with_byte-in-SetPower.ensures)

-- Writing a LED command is writing its row, arm by arm. Assumes nothing.
use Rattle.families.proofs.led.write_to.Goals as goal

pub returns-in-SetDefault : goal.returns-in-SetDefault
returns-in-SetDefault c = rw c.in-SetDefault.is c.write_alone.ensures

pub returns-in-OverrideColor : goal.returns-in-OverrideColor
returns-in-OverrideColor c =
    rw c.in-OverrideColor.is c.write_color.ensures

pub returns-in-OverridePulse : goal.returns-in-OverridePulse
returns-in-OverridePulse c =
    rw c.in-OverridePulse.is c.write_fade.ensures

pub returns-in-OverrideBlink : goal.returns-in-OverrideBlink
returns-in-OverrideBlink c =
    rw c.in-OverrideBlink.is c.write_fade-in-OverrideBlink.ensures

pub returns-in-OverrideShift : goal.returns-in-OverrideShift
returns-in-OverrideShift c =
    rw c.in-OverrideShift.is c.write_shift.ensures

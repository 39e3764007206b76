-- The pit tests are the sheet's ranges. Assumes nothing.
use Rattle.families.proofs.Pit.{switch_over, control_over, both_in}
use Rattle.families.proofs.vtx.in_bits.Goals as goal

pub returns-then-switch-gt15 : goal.returns-then-switch-gt15
returns-then-switch-gt15 c = λ mode. switch_over c.args.switch c.args.control mode c.if-switch-gt15.true

pub returns-then-control-gt3 : goal.returns-then-control-gt3
returns-then-control-gt3 c = λ mode. control_over c.args.switch c.args.control mode
    c.if-switch-gt15.false c.if-control-gt3.true

pub returns : goal.returns
returns c = λ mode. both_in c.args.switch c.args.control mode
    c.if-switch-gt15.false c.if-control-gt3.false

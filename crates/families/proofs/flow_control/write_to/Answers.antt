-- Each case writes the body of its row. Assumes nothing.
use Prim.Native.Nat.{◌<◌}
use mathlib.Core.Path.{refl}
use Rattle.families.specs.Sheets.{flow_rows}
use Rattle.families.proofs.Ok.{with_byte}
use borrow.Author.Rules.{rules}
use Rattle.families.proofs.flow_control.write_to.Goals as goal

pub returns-in-Subscribe : goal.returns-in-Subscribe
returns-in-Subscribe c = rw c.in-Subscribe.is c.write_subscribe.ensures

pub returns-in-Unsubscribe : goal.returns-in-Unsubscribe
returns-in-Unsubscribe c = let h : c.in-Unsubscribe.frame_type < 256 = search rules in
    rw c.in-Unsubscribe.is
    (with_byte flow_rows 0x02 c.in-Unsubscribe.frame_type
    c.args.body.now _
    c.write_with_byte.result refl h c.write_with_byte.ensures)

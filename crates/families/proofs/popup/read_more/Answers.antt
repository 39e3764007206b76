-- Additional data is told as it is read, of the kind that the next byte shows. Assumes nothing.
use Rattle.families.proofs.PlaceLaws.{more_empty}
use Rattle.families.proofs.popup.read_more.Goals as goal

pub returns-then-s-at-eq0 : goal.returns-then-s-at-eq0
returns-then-s-at-eq0 c =
    rw c.no_more-then-s-at-eq0.ensures (more_empty c.args.s.now c.args.at c.if-s-at.false c.if-s-at-eq0.true)

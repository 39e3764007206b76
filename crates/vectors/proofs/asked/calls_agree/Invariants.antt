-- Nothing has to hold from turn to turn; the calls that are left fall. Assumes nothing.
use Rattle.std.proofs.Common.{length}
use Rattle.vectors.proofs.asked.calls_agree.Given as goal

abbrev pub invariant-loop-left : goal.invariant-loop-left
invariant-loop-left l = Unit {0}

abbrev pub decreases-loop-left : goal.decreases-loop-left
decreases-loop-left l = length l.left

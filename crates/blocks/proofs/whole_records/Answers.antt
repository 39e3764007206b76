-- `whole_records` meets its contract. The loop's invariant: the answer is that of the records from `at` on. The measure is what is left of
-- the used bytes. Assumes nothing.
use mathlib.Core.Path.{sym, ◌∙◌}
use native.Mathlib.Omega.{arith}
use Rattle.blocks.proofs.Records.{ends, whole_turn, whole-stops, whole-done}
use Rattle.blocks.proofs.whole_records.Goals as goal

-- a record ends behind the place where it stands
pub loop-at-smaller : goal.loop-at-smaller
loop-at-smaller c =
    let behind = ends c.args.block.now c.args.end c.loop-at.at c.in-Some.next c.in-Some.ensures in
    omega arith

pub loop-at-preserved : goal.loop-at-preserved
loop-at-preserved c =
    let args = c.args in
    c.loop-at.invariant ∙ whole_turn args.block.now args.end c.loop-at.at c.in-Some.next (omega arith) (omega arith) c.in-Some.ensures

pub returns-in_default : goal.returns-in_default
returns-in_default c =
    let args = c.args in
    sym (c.loop-at.invariant ∙ whole-stops args.block.now args.end c.loop-at.at (omega arith) (omega arith) c.in_default.ensures)

pub returns : goal.returns
returns c =
    let args = c.args in
    sym (c.loop-at.invariant ∙ whole-done args.block.now args.end c.loop-at.at (omega arith) (omega arith))

-- One step, below degree 8 and at it. Assumes nothing.
use Rattle.crc.proofs.Laws.{command}
use Rattle.crc.proofs.Loops.{step_small, step_large}
use borrow.Author.Rules.{rules}
use Rattle.crc.proofs.shift.Goals as goal

pub returns-then-r-lt128 : goal.returns-then-r-lt128
returns-then-r-lt128 c = step_small _ _ (search rules)

pub returns-else-r-lt128 : goal.returns-else-r-lt128
returns-else-r-lt128 c = step_large command _ (search rules) (search rules)

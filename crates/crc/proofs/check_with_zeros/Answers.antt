-- At most seven turns do for any number of bytes 00. Assumes nothing.
use mathlib.Core.Path.{sym, ◌∙◌}
use borrow.Author.Rules.{rules}
use Rattle.crc.proofs.Laws.{command}
use Rattle.crc.proofs.Zeros.{sevens, check-zeros}
use Rattle.crc.proofs.check_with_zeros.Goals as goal

pub returns-then-n-gt7 : goal.returns-then-n-gt7
returns-then-n-gt7 c = c.turns.ensures ∙ sevens _ _ (search rules) (search rules) ∙ sym (check-zeros command _ _ (search rules))

pub returns-else-n-gt7 : goal.returns-else-n-gt7
returns-else-n-gt7 c = c.turns-else-n-gt7.ensures ∙ sym (check-zeros command _ _ (search rules))

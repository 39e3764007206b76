-- What is left of the bytes, from r, has the check of all of them. Assumes nothing.
use mathlib.Core.Path.{◌∙◌}
use borrow.Author.Rules.{rules}
use Rattle.crc.proofs.Worked.{worked_is_check}
use Rattle.crc.proofs.Loops.{turn, done}
use Rattle.crc.proofs.Laws.{command, bytes_of_lem}
use Rattle.crc.proofs.check.Goals as goal

pub loop-byte-preserved : goal.loop-byte-preserved
loop-byte-preserved c = turn _ _ _ _ _ _ c.loop-byte.invariant c.eight_steps-r.ensures (search rules)

pub returns : goal.returns
returns c =
    let bs = c.args.bytes.now in
    done _ _ _ c.loop-byte.byte-index _ c.loop-byte.invariant (search rules)
    ∙ worked_is_check command _ _ (search rules) (bytes_of_lem bs c.type_inv.bytes)

-- `reading::read_ack` meets its contract. Assumes nothing.
use Rattle.codec.proofs.Outcomes.{err_is}
use Rattle.families.specs.Ack.{acked}
use Rattle.families.proofs.Answered.{ack_some}
use Rattle.commands.proofs.Answers.{none_kept, ack_kept}
use Rattle.commands.proofs.reading.read_ack.Goals as goal

pub returns-in_err-read : goal.returns-in_err-read
returns-in_err-read g c = rw (err_is _ _ c.from_residual.ensures) (none_kept acked _ _ _ (ack_some _) c.in_err-read.ensures)

pub returns : goal.returns
returns g c = ack_kept g.K.Kept.kept _ _ _ c.in_ok-read.ensures c.beside.ensures

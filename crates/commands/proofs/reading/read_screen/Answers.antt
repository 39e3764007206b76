-- `reading::read_screen` meets its contract. Assumes nothing.
use Rattle.codec.proofs.Outcomes.{err_is}
use Rattle.families.specs.Screen.{screen_read}
use Rattle.families.proofs.Answered.{screen_some}
use Rattle.commands.proofs.Answers.{none_kept, screen_kept}
use Rattle.commands.proofs.reading.read_screen.Goals as goal

pub returns-in_err-read : goal.returns-in_err-read
returns-in_err-read g c = rw (err_is _ _ c.from_residual.ensures) (none_kept screen_read _ _ _ (screen_some _) c.in_err-read.ensures)

pub returns : goal.returns
returns g c = screen_kept g.K.Kept.kept _ _ _ c.in_ok-read.ensures c.beside.ensures

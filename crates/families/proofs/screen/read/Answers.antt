-- `screen::read` meets its contract. Assumes nothing.
use Rattle.families.proofs.PopupBehind.{start_taken}
use Rattle.families.proofs.ScreenLaws.{is_by}
use Rattle.families.proofs.screen.read.Goals as goal

pub returns-in-1 : goal.returns-in-1
returns-in-1 c =
    is_by _ _ c.read_start.result (start_taken _ _ (rw (c.new-input.ensures, c.in-1.is) at c.in_ok-byte.ensures.0)) c.read_start.ensures

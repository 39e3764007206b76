-- The popup constructor: what it refuses. Assumes nothing.
use Rattle.std.proofs.lemmas.Result.{err_from_is_err_and}
use Rattle.families.proofs.PutFields.{not_put}
use Rattle.families.proofs.screen.ScreenPopup.new.Goals as goal

pub returns-in_err-judge : goal.returns-in_err-judge
returns-in_err-judge c =
    let p = err_from_is_err_and c.from_residual.result c.from_residual.ensures.1 in
    rw (p.1, p.2) (not_put c.args.fields _ c.in_err-judge.ensures)

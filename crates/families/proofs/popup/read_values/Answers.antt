-- Possible values are told as they are read, if bytes remain. Assumes nothing.
use Rattle.std.proofs.lemmas.Result.{err_from_is_err_and}
use Rattle.families.proofs.PlaceLaws.{values-got, values-not}
use Rattle.families.proofs.popup.read_values.Goals as goal

pub returns-in_err-text : goal.returns-in_err-text
returns-in_err-text c =
    let p = err_from_is_err_and c.from_residual.result c.from_residual.ensures.1 in
    rw (p.1, p.2) (values-not c.args.s.now c.args.at _ _ c.if-s-at.false c.in_err-text.ensures.0, tt)

pub returns : goal.returns
returns c = values-got c.args.s.now c.args.at c.in_ok-text.text c.in_ok-text.ensures

-- One parse of a popup: head, additional data and possible values in turn. Assumes nothing.
use Rattle.std.proofs.lemmas.Result.{err_from_is_err_and}
use Rattle.families.proofs.PlaceLaws.{places-got, places_values_not, places_more_not}
use Rattle.families.proofs.popup.parse.Goals as goal

pub returns-in_err-more : goal.returns-in_err-more
returns-in_err-more c =
    let p = err_from_is_err_and c.from_residual-in_err-more.result c.from_residual-in_err-more.ensures.1 in
    rw (p.1, p.2) (places_more_not c.args.s.now 0 c.in_ok-head.head _ _ c.in_ok-head.ensures c.in_err-more.ensures.0, tt)

pub returns-in_err-values : goal.returns-in_err-values
returns-in_err-values c =
    let p = err_from_is_err_and c.from_residual-in_err-values.result c.from_residual-in_err-values.ensures.1 in
    rw (p.1, p.2)
    (places_values_not c.args.s.now 0 c.in_ok-head.head c.in_ok-more.more _ _ c.in_ok-head.ensures c.in_ok-more.ensures c.in_err-values.ensures.0, tt)

pub returns : goal.returns
returns c =
    places-got c.args.s.now 0 c.in_ok-head.head c.in_ok-more.more c.in_ok-values.values c.in_ok-head.ensures c.in_ok-more.ensures
    c.in_ok-values.ensures

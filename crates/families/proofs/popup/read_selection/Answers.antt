-- `popup::read_selection` meets its contract. Assumes nothing.
use Rattle.std.proofs.lemmas.Result.{err_from_is_err_and}
use Rattle.families.proofs.PopupTaken.{selection-at, selection-not, part_is}
use Rattle.families.proofs.popup.read_selection.Goals as goal

pub returns-in_err-selected : goal.returns-in_err-selected
returns-in_err-selected c =
    let s = c.args.s.now in
    let p = err_from_is_err_and c.from_residual.result c.from_residual.ensures.1 in
    rw (p.1, p.2) (selection-not s c.args.at _ c.requires.0 c.requires.1 (rw (part_is s c.args.at) at c.in_err-selected.ensures), tt)

pub returns : goal.returns
returns c =
    let s = c.args.s.now in
    selection-at s c.args.at c.in_ok-selected.selected c.requires.0 c.requires.1 (rw (part_is s c.args.at) at c.in_ok-selected.ensures)

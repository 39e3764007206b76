-- `popup::read_head` meets its contract: the head's items taken in a row stand at the places that follow from its texts' lengths. Assumes nothing.
use mathlib.Core.Path.{sym}
use mathlib.Core.List.{[], ◌∷◌}
use Rattle.codec.specs.Sheet.{byte, flag}
use Rattle.families.specs.Sheets.{text_item}
use Rattle.std.proofs.lemmas.Result.{err_from_is_err_and}
use Rattle.codec.proofs.InRow.{item_not}
use Rattle.families.proofs.PopupTaken.{head_taken, after_got}
use Rattle.families.proofs.popup.read_head.Goals as goal

pub returns-in_err-close : goal.returns-in_err-close
returns-in_err-close c =
    let p = err_from_is_err_and c.from_residual-in_err-close.result c.from_residual-in_err-close.ensures.1 in
    rw (p.1, p.2) (
      rw c.new-input.ensures at
          (after_got text_item (text_item ∷ byte ∷ flag ∷ []) _ _ _ _ c.in_ok-header.ensures.0 (after_got text_item (byte ∷ flag ∷ []) _ _ _ _ c.in_ok-info.ensures.0 (after_got byte (flag ∷ []) _ _ _ _ c.in_ok-timeout.ensures.0 (sym (item_not flag [] _ _ _ c.in_err-close.ensures.0))))),
      tt,
    )

pub returns : goal.returns
returns c = rw c.new-input.ensures at
    (head_taken _ _ _ _ _ _ _ _ _ c.in_ok-header.ensures c.in_ok-info.ensures c.in_ok-timeout.ensures c.in_ok-close.ensures)

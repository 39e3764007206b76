-- `popup::take_selection` meets its contract: the selection's items taken in a row are the items read. Assumes nothing.
use mathlib.Core.Path.{sym}
use mathlib.Core.List.{[], ◌∷◌}
use Rattle.codec.specs.Sheet.{byte}
use Rattle.families.specs.Sheets.{text_item}
use Rattle.std.proofs.lemmas.Result.{err_from_is_err_and}
use Rattle.codec.proofs.InRow.{item_not}
use Rattle.families.proofs.PopupTaken.{selection_taken, after_got}
use Rattle.families.proofs.popup.take_selection.Goals as goal

pub returns-in_err-min_value : goal.returns-in_err-min_value
returns-in_err-min_value c =
    let p = err_from_is_err_and c.from_residual-in_err-min_value.result c.from_residual-in_err-min_value.ensures.1 in
    rw (p.1, p.2) (
      rw c.new-input.ensures at
          (after_got text_item (byte ∷ byte ∷ byte ∷ byte ∷ text_item ∷ []) _ _ _ _ c.in_ok-label.ensures.0 (after_got byte (byte ∷ byte ∷ byte ∷ text_item ∷ []) _ _ _ _ c.in_ok-value.ensures.0 (sym (item_not byte (byte ∷ byte ∷ text_item ∷ []) _ _ _ c.in_err-min_value.ensures.0.0)))),
      tt,
    )

pub returns-in_err-max_value : goal.returns-in_err-max_value
returns-in_err-max_value c =
    let p = err_from_is_err_and c.from_residual-in_err-max_value.result c.from_residual-in_err-max_value.ensures.1 in
    rw (p.1, p.2) (
      rw c.new-input.ensures at
          (after_got text_item (byte ∷ byte ∷ byte ∷ byte ∷ text_item ∷ []) _ _ _ _ c.in_ok-label.ensures.0 (after_got byte (byte ∷ byte ∷ byte ∷ text_item ∷ []) _ _ _ _ c.in_ok-value.ensures.0 (after_got byte (byte ∷ byte ∷ text_item ∷ []) _ _ _ _ c.in_ok-min_value.ensures.0 (sym (item_not byte (byte ∷ text_item ∷ []) _ _ _ c.in_err-max_value.ensures.0.0))))),
      tt,
    )

pub returns-in_err-default_value : goal.returns-in_err-default_value
returns-in_err-default_value c =
    let p = err_from_is_err_and c.from_residual-in_err-default_value.result c.from_residual-in_err-default_value.ensures.1 in
    rw (p.1, p.2) (
      rw c.new-input.ensures at
          (after_got text_item (byte ∷ byte ∷ byte ∷ byte ∷ text_item ∷ []) _ _ _ _ c.in_ok-label.ensures.0 (after_got byte (byte ∷ byte ∷ byte ∷ text_item ∷ []) _ _ _ _ c.in_ok-value.ensures.0 (after_got byte (byte ∷ byte ∷ text_item ∷ []) _ _ _ _ c.in_ok-min_value.ensures.0 (after_got byte (byte ∷ text_item ∷ []) _ _ _ _ c.in_ok-max_value.ensures.0 (sym (item_not byte (text_item ∷ []) _ _ _ c.in_err-default_value.ensures.0.0)))))),
      tt,
    )

pub returns-in_err-unit : goal.returns-in_err-unit
returns-in_err-unit c =
    let p = err_from_is_err_and c.from_residual-in_err-unit.result c.from_residual-in_err-unit.ensures.1 in
    rw (p.1, p.2) (
      rw c.new-input.ensures at
          (after_got text_item (byte ∷ byte ∷ byte ∷ byte ∷ text_item ∷ []) _ _ _ _ c.in_ok-label.ensures.0 (after_got byte (byte ∷ byte ∷ byte ∷ text_item ∷ []) _ _ _ _ c.in_ok-value.ensures.0 (after_got byte (byte ∷ byte ∷ text_item ∷ []) _ _ _ _ c.in_ok-min_value.ensures.0 (after_got byte (byte ∷ text_item ∷ []) _ _ _ _ c.in_ok-max_value.ensures.0 (after_got byte (text_item ∷ []) _ _ _ _ c.in_ok-default_value.ensures.0 (sym (item_not text_item [] _ _ _ c.in_err-unit.ensures.0.0))))))),
      tt,
    )

pub returns : goal.returns
returns c = rw c.new-input.ensures at
    (selection_taken _ _ _ _ _ _ _ _ _ _ _ _ _ c.in_ok-label.ensures c.in_ok-value.ensures c.in_ok-min_value.ensures
    c.in_ok-max_value.ensures c.in_ok-default_value.ensures c.in_ok-unit.ensures)

-- `from` meets its contract: another length, a flag out of range, or each part at its place. Assumes nothing.
use mathlib.Core.Path.{sym, ◌∙◌}
use Rattle.codec.proofs.Outcomes.{err_is}
use Rattle.question_images.proofs.Reading.{other_size, started_above, open_above, popup_refused, each_part}
use Rattle.question_images.proofs.from.Goals as goal

pub returns-then-image-ne-QUESTION_SIZE : goal.returns-then-image-ne-QUESTION_SIZE
returns-then-image-ne-QUESTION_SIZE c = other_size c.args.image.now c.if-image-ne-QUESTION_SIZE.true

pub returns-in_err-started : goal.returns-in_err-started
returns-in_err-started c =
    rw (err_is _ _ c.from_residual.ensures)
    (started_above c.args.image.now c.if-image-ne-QUESTION_SIZE.false _ (sym c.flag.ensures ∙ c.in_err-started.was))

pub returns-in_err-open : goal.returns-in_err-open
returns-in_err-open c =
    rw (err_is _ _ c.from_residual-in_err-open.ensures)
    (open_above c.args.image.now c.if-image-ne-QUESTION_SIZE.false _ (sym c.flag.ensures ∙ c.in_ok-started.was) _
    (sym c.flag-2.ensures ∙ c.in_err-open.was))

pub returns-in_err-popup : goal.returns-in_err-popup
returns-in_err-popup c =
    absurd (popup_refused c.args.image.now c.if-image-ne-QUESTION_SIZE.false _ (sym c.flag.ensures ∙ c.in_ok-started.was) _ c.in_err-popup.ensures)

pub returns : goal.returns
returns c =
    each_part c.args.image.now c.if-image-ne-QUESTION_SIZE.false _ (sym c.flag.ensures ∙ c.in_ok-started.was) c.in_ok-popup.popup _ _ _
    (sym c.flag-2.ensures ∙ c.in_ok-open.was) c.at.ensures c.at-2.ensures c.in_ok-popup.ensures

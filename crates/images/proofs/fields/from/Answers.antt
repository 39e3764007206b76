-- The fields of an image: another length, a flag or kind out of range, or the fields. Assumes nothing.
use mathlib.Core.Path.{◌≡◌, refl, ap, sym, ◌∙◌}
use lib.ListN.{length}
use Rattle.codec.proofs.Outcomes.{err_is}
use Rattle.images.specs.Fields.{fields_from}
use Rattle.images.proofs.NumberLaws.{read-not}
use Rattle.images.proofs.FieldsLaws.{from-short, close-not, kind-not, present-not, each-got, not_told, told_got}
use Rattle.images.proofs.fields.from.Goals as goal

pub returns-in_default : goal.returns-in_default
returns-in_default c = not_told (fields_from c.args.image.now) _ (from-short c.args.image.now c.in_default.ensures.cases) refl

pub returns-in_err-close_button_option : goal.returns-in_err-close_button_option
returns-in_err-close_button_option c =
    let whole = c.in-Some.ensures.cases in
    let image = c.in-Some.image.now in
    let l : length image ≡ 268 = rw whole.same whole.long in
    let e = sym c.flag.ensures ∙ c.in_err-close_button_option.was in
    rw (err_is _ _ c.from_residual.ensures)
    (not_told (fields_from c.args.image.now) _ (ap fields_from (sym whole.same) ∙ close-not image l _ e) (read-not _ _ _ e).1)

pub returns-in_err-additional_data : goal.returns-in_err-additional_data
returns-in_err-additional_data c =
    let whole = c.in-Some.ensures.cases in
    let image = c.in-Some.image.now in
    let l : length image ≡ 268 = rw whole.same whole.long in
    let e = sym c.kind.ensures ∙ c.in_err-additional_data.was in
    rw (err_is _ _ c.from_residual-in_err-additional_data.ensures)
    (not_told (fields_from c.args.image.now) _
    (ap fields_from (sym whole.same) ∙ kind-not image l _ (sym c.flag.ensures ∙ c.in_ok-close_button_option.was) _ e)
    (read-not _ _ _ e).1)

pub returns-in_err-has_possible_values : goal.returns-in_err-has_possible_values
returns-in_err-has_possible_values c =
    let whole = c.in-Some.ensures.cases in
    let image = c.in-Some.image.now in
    let l : length image ≡ 268 = rw whole.same whole.long in
    let e = sym c.flag-2.ensures ∙ c.in_err-has_possible_values.was in
    rw (err_is _ _ c.from_residual-in_err-has_possible_values.ensures)
    (not_told (fields_from c.args.image.now) _
    (ap fields_from (sym whole.same)
    ∙ present-not image l _ (sym c.flag.ensures ∙ c.in_ok-close_button_option.was) _ (sym c.kind.ensures ∙ c.in_ok-additional_data.was) _ e)
    (read-not _ _ _ e).1)

pub returns : goal.returns
returns c =
    let whole = c.in-Some.ensures.cases in
    let image = c.in-Some.image.now in
    let l : length image ≡ 268 = rw whole.same whole.long in
    told_got (fields_from c.args.image.now) _
    (ap fields_from (sym whole.same)
    ∙ each-got image l _ (sym c.flag.ensures ∙ c.in_ok-close_button_option.was) _ (sym c.kind.ensures ∙ c.in_ok-additional_data.was) _ _ _ _ _ _
    (sym c.flag-2.ensures ∙ c.in_ok-has_possible_values.was) c.text_at.ensures c.text_at-2.ensures c.text_at-3.ensures c.text_at-4.ensures
    c.text_at-5.ensures)

-- A popup's fields: a refusal, or their image. Assumes nothing.
use mathlib.Core.Path.{ap}
use native.Mathlib.Omega.{arith}
use Rattle.families.specs.Fields.{inspect}
use Rattle.families.specs.Sizes.{Sized}
use Rattle.images.specs.Fields.{fields_image}
use Rattle.images.proofs.FieldsPut.{fields-size}
use Rattle.crsf.proofs.Handed.{refuses, hands}
use Rattle.crsf.proofs.Refusals.{inspect-some}
use borrow.Author.Rules.{rules}
use Rattle.crsf.proofs.made.take_apart.Goals as goal

pub returns-in-Ok : goal.returns-in-Ok
returns-in-Ok c =
    let held = c.in-Ok.held in
    let fit : Sized held = (search rules, (search rules, (search rules, (search rules, search rules)))) in
    hands fields_image (λ f. f) c.args.fields.now (inspect c.args.popup) held (fields_image held) _ c.in-Ok.ensures (λ v e. ap fields_image e)
    (omega (arith, fields-size held fit, c.requires)) c.put.ensures

pub returns-in-Err : goal.returns-in-Err
returns-in-Err c = refuses fields_image (λ f. f) _ (inspect c.args.popup) (inspect-some c.args.popup) _ _ c.in-Err.ensures c.refused.ensures

-- A popup made of fields: a refusal, or its image. Assumes nothing.
use mathlib.Core.Path.{◌≡◌, ap}
use native.Mathlib.Omega.{arith}
use lib.ListN.{length}
use Rattle.families.specs.Fields.{construct}
use Rattle.images.specs.Popup.{popup_image}
use Rattle.images.proofs.PopupLaws.{popup-size}
use Rattle.crsf.proofs.Handed.{refuses, hands}
use Rattle.crsf.proofs.Refusals.{construct-some}
use borrow.Author.Rules.{rules}
use Rattle.crsf.proofs.made.make.Goals as goal

pub returns-in-Ok : goal.returns-in-Ok
returns-in-Ok c =
    let made = c.in-Ok.made in
    let long : length made.bytes ≡ 55 = search rules in
    hands popup_image (λ q. q) c.args.popup.now (construct c.args.fields) made (popup_image made) _ c.in-Ok.ensures (λ v e. ap popup_image e)
    (omega (arith, popup-size made long, c.requires)) c.put.ensures

pub returns-in-Err : goal.returns-in-Err
returns-in-Err c = refuses popup_image (λ q. q) _ (construct c.args.fields) (construct-some c.args.fields) _ _ c.in-Err.ensures c.refused.ensures

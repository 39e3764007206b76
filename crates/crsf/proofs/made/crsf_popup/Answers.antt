-- Fields in, a popup out: too short a slice, no image, or what the constructor answers. Assumes nothing.
use Rattle.families.specs.Fields.{construct}
use Rattle.images.specs.Popup.{popup_image}
use Rattle.images.specs.Fields.{fields_from}
use Rattle.crsf.proofs.Handed.{short, stops, goes_on}
use Rattle.crsf.proofs.Refusals.{fields-some}
use Rattle.crsf.proofs.made.crsf_popup.Goals as goal

pub returns-then-popup-lt-POPUP_SIZE : goal.returns-then-popup-lt-POPUP_SIZE
returns-then-popup-lt-POPUP_SIZE c = short popup_image 56 _ _ _ c.if-popup-lt-POPUP_SIZE.true c.refused.ensures

pub returns-in-Ok : goal.returns-in-Ok
returns-in-Ok c = goes_on popup_image 56 c.args.popup.now (fields_from c.args.fields.now) construct c.if-popup-lt-POPUP_SIZE.false _ _ _ c.in-Ok.ensures c.make.ensures

pub returns-in-Err : goal.returns-in-Err
returns-in-Err c =
    stops popup_image 56 c.args.popup.now (fields_from c.args.fields.now) construct c.if-popup-lt-POPUP_SIZE.false (fields-some c.args.fields.now) _ _ c.in-Err.ensures c.refused-in-Err.ensures

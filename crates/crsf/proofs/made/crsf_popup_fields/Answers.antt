-- A popup in, its fields out: too short a slice, no image, or what inspection answers. Assumes nothing.
use Rattle.families.specs.Fields.{inspect}
use Rattle.images.specs.Popup.{popup_from}
use Rattle.images.specs.Fields.{fields_image}
use Rattle.crsf.proofs.Handed.{short, stops, goes_on}
use Rattle.crsf.proofs.Refusals.{popup-some}
use Rattle.crsf.proofs.made.crsf_popup_fields.Goals as goal

pub returns-then-fields-lt-FIELDS_SIZE : goal.returns-then-fields-lt-FIELDS_SIZE
returns-then-fields-lt-FIELDS_SIZE c = short fields_image 268 _ _ _ c.if-fields-lt-FIELDS_SIZE.true c.refused.ensures

pub returns-in-Ok : goal.returns-in-Ok
returns-in-Ok c = goes_on fields_image 268 c.args.fields.now (popup_from c.args.popup.now) inspect c.if-fields-lt-FIELDS_SIZE.false _ _ _ c.in-Ok.ensures c.take_apart.ensures

pub returns-in-Err : goal.returns-in-Err
returns-in-Err c =
    stops fields_image 268 c.args.fields.now (popup_from c.args.popup.now) inspect c.if-fields-lt-FIELDS_SIZE.false (popup-some c.args.popup.now) _ _ c.in-Err.ensures c.refused-in-Err.ensures

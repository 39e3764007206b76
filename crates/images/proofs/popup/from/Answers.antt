-- The popup of an image: another length, or its length byte and its bytes. Assumes nothing.
use Rattle.images.proofs.PopupLaws.{popup_none, popup-got}
use Rattle.images.proofs.popup.from.Goals as goal

pub returns-in_default : goal.returns-in_default
returns-in_default c = popup_none c.args.image.now c.in_default.ensures.cases

pub returns : goal.returns
returns c = popup-got c.args.image.now c.in-Some.image.now _ c.in-Some.ensures.cases.same (rw c.in-Some.ensures.cases.same c.in-Some.ensures.cases.long) c.copy_from_slice.ensures.after

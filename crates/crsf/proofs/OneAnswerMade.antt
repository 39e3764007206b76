-- Any two answers that the contract of an exported function of texts, ACKs, popups or popup fields allows coincide, and so does the
-- image handed out. `Post` is the contract as the check reads it from the source, and no copy of it. Assumes nothing.
use mathlib.Core.Path.{◌≡◌}
use Rattle.images.proofs.AnyTwo.{AnyTwo, told-twice}
use Rattle.crsf.proofs.made.crsf_text.Reads as text
use Rattle.crsf.proofs.made.crsf_text.Kinds as text-kinds
use Rattle.crsf.proofs.made.crsf_ack.Reads as ack
use Rattle.crsf.proofs.made.crsf_ack.Kinds as ack-kinds
use Rattle.crsf.proofs.made.crsf_popup.Reads as popup
use Rattle.crsf.proofs.made.crsf_popup.Kinds as popup-kinds
use Rattle.crsf.proofs.made.crsf_popup_fields.Reads as fields
use Rattle.crsf.proofs.made.crsf_popup_fields.Kinds as fields-kinds

pub text_one : AnyTwo 2 text-kinds.ps text-kinds.r text.Post (λ κs x y s t. (x ≡ y) × (s.1.0.now ≡ t.1.0.now))
text_one κs a x y s t p q = told-twice p q

pub ack_one : AnyTwo 2 ack-kinds.ps ack-kinds.r ack.Post (λ κs x y s t. (x ≡ y) × (s.1.1.1.1.0.now ≡ t.1.1.1.1.0.now))
ack_one κs a x y s t p q = told-twice p q

pub popup_one : AnyTwo 2 popup-kinds.ps popup-kinds.r popup.Post (λ κs x y s t. (x ≡ y) × (s.1.0.now ≡ t.1.0.now))
popup_one κs a x y s t p q = told-twice p q

pub fields_one : AnyTwo 2 fields-kinds.ps fields-kinds.r fields.Post (λ κs x y s t. (x ≡ y) × (s.1.0.now ≡ t.1.0.now))
fields_one κs a x y s t p q = told-twice p q

-- Any two answers that a public function's contract allows coincide, and so does the lent slice. `Post` is the contract as the check
-- reads it from the source, and no copy of it. Assumes nothing.
use mathlib.Core.Path.{◌≡◌, sym, ◌∙◌}
use Rattle.images.proofs.AnyTwo.{AnyTwo}
use Rattle.codec.proofs.Outcomes.{gives_one}
use Rattle.images.specs.Popup.{popup_from}
use Rattle.images.specs.Fields.{fields_from}
use Rattle.images.specs.Record.{record_from}
use Rattle.images.proofs.word.refused.Reads as refused
use Rattle.images.proofs.word.refused.Kinds as refused-kinds
use Rattle.images.proofs.word.written.Reads as written
use Rattle.images.proofs.word.written.Kinds as written-kinds
use Rattle.images.proofs.number.at.Reads as number_at
use Rattle.images.proofs.number.at.Kinds as number-at-kinds
use Rattle.images.proofs.number.flag.Reads as flag
use Rattle.images.proofs.number.flag.Kinds as flag-kinds
use Rattle.images.proofs.stored.put.Reads as stored
use Rattle.images.proofs.stored.put.Kinds as stored-kinds
use Rattle.images.proofs.ack.put.Reads as ack
use Rattle.images.proofs.ack.put.Kinds as ack-kinds
use Rattle.images.proofs.popup.from.Reads as from-popup
use Rattle.images.proofs.popup.from.Kinds as from-popup-kinds
use Rattle.images.proofs.fields.put.Reads as fields
use Rattle.images.proofs.fields.put.Kinds as fields-kinds
use Rattle.images.proofs.fields.from.Reads as from_Fields
use Rattle.images.proofs.fields.from.Kinds as from-fields-kinds
use Rattle.images.proofs.record.put.Reads as put_record
use Rattle.images.proofs.record.put.Kinds as put-record-kinds
use Rattle.images.proofs.record.from.Reads as from-record
use Rattle.images.proofs.record.from.Kinds as from-record-kinds

pub refused_one : AnyTwo 0 refused-kinds.ps refused-kinds.r refused.Post (λ κs x y s t. x ≡ y)
refused_one κs a x y s t p q = p ∙ sym q

pub written_one : AnyTwo 0 written-kinds.ps written-kinds.r written.Post (λ κs x y s t. x ≡ y)
written_one κs a x y s t p q = p ∙ sym q

pub number_at_one : AnyTwo 1 number-at-kinds.ps number-at-kinds.r number_at.Post (λ κs x y s t. x ≡ y)
number_at_one κs a x y s t p q = p ∙ sym q

pub flag_one : AnyTwo 0 flag-kinds.ps flag-kinds.r flag.Post (λ κs x y s t. x ≡ y)
flag_one κs a x y s t p q = p ∙ sym q

pub stored_one : AnyTwo 2 stored-kinds.ps stored-kinds.r stored.Post (λ κs x y s t. s.1.1.0.now ≡ t.1.1.0.now)
stored_one κs a x y s t p q = p ∙ sym q

pub ack_one : AnyTwo 1 ack-kinds.ps ack-kinds.r ack.Post (λ κs x y s t. s.1.0.now ≡ t.1.0.now)
ack_one κs a x y s t p q = p ∙ sym q

pub from_popup_one : AnyTwo 1 from-popup-kinds.ps from-popup-kinds.r from-popup.Post (λ κs x y s t. x ≡ y)
from_popup_one κs a x y s t p q = gives_one (λ q. q) (popup_from a.0.now) x y p q

pub fields_one : AnyTwo 1 fields-kinds.ps fields-kinds.r fields.Post (λ κs x y s t. s.1.0.now ≡ t.1.0.now)
fields_one κs a x y s t p q = p ∙ sym q

pub from_fields_one : AnyTwo 1 from-fields-kinds.ps from-fields-kinds.r from_Fields.Post (λ κs x y s t. x ≡ y)
from_fields_one κs a x y s t p q = gives_one (λ f. f) (fields_from a.0.now) x y p q

pub put_record_one : AnyTwo 1 put-record-kinds.ps put-record-kinds.r put_record.Post (λ κs x y s t. s.1.0.now ≡ t.1.0.now)
put_record_one κs a x y s t p q = p ∙ sym q

pub from_record_one : AnyTwo 1 from-record-kinds.ps from-record-kinds.r from-record.Post (λ κs x y s t. x ≡ y)
from_record_one κs a x y s t p q = gives_one (λ c. c) (record_from a.0.now) x y p q

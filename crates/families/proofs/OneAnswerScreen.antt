-- Any two answers that a contract of Screen allows coincide. `Post` is the contract as the check reads it from the source, and no
-- copy of it. Assumes nothing.
use Rattle.std.specs.Prelude.{Result}
use mathlib.Core.Path.{◌≡◌, sym, ◌∙◌}
use lib.ListN.{length, take}
use contract.Lifetimes.{Lfts}
use borrow.Fn.Kinds.{Dens, res_t, ended_of}
use denote.Triple.Clauses.{AtExit}
use Rattle.codec.specs.Sheet.{Answer}
use Rattle.codec.specs.declared.refusal.Refusal.{Refusal}
use Rattle.codec.specs.Writing.{stop_room}
use Rattle.codec.proofs.Outcomes.{gives_one}
use Rattle.codec.proofs.Writes.{writes_one}
use Rattle.families.specs.Fields.{construct, PopupIs, inspect, FieldsIs}
use Rattle.families.specs.Screen.{read_screen, screen_read, screen_body}
use Rattle.families.specs.declared.screen.ScreenPopup.{ScreenPopup}
use Rattle.families.specs.declared.screen.ScreenPopupFields.{ScreenPopupFields}
use Rattle.families.proofs.screen.read.Reads as read
use Rattle.families.proofs.screen.read.Kinds as read-kinds
use Rattle.families.proofs.screen.write_to.Reads as write
use Rattle.families.proofs.screen.write_to.Kinds as write-kinds
use Rattle.families.proofs.screen.ScreenPopup.new.Reads as new
use Rattle.families.proofs.screen.ScreenPopup.new.Kinds as new-kinds
use Rattle.families.proofs.screen.made.Reads as made
use Rattle.families.proofs.screen.made.Kinds as made-kinds
use Rattle.families.proofs.screen.ScreenPopup.fields.Reads as fields
use Rattle.families.proofs.screen.ScreenPopup.fields.Kinds as fields-kinds
use Rattle.families.proofs.screen.ScreenPopupFields.blank.Reads as blank
use Rattle.families.proofs.screen.ScreenPopupFields.blank.Kinds as blank-kinds

pub fields_answer_one : (a : Answer ScreenPopupFields) (x y : Result ScreenPopupFields Refusal) → FieldsIs a x → FieldsIs a y → x ≡ y
fields_answer_one a x y p q = gives_one (λ (f : ScreenPopupFields). f) a x y p q

pub popup_answer_one : (a : Answer ScreenPopup) (x y : Result ScreenPopup Refusal) → PopupIs a x → PopupIs a y → x ≡ y
popup_answer_one a x y p q = gives_one (λ (f : ScreenPopup). f) a x y p q

pub read_one : (κs : Lfts 1) (a : Dens κs read-kinds.ps) (x y : (res_t read-kinds.r κs).Denot) (s t : AtExit (ended_of 1 read-kinds.ps read-kinds.r) κs)
    → read.Post κs a x s → read.Post κs a y t → x ≡ y
read_one κs a x y s t p q = gives_one screen_read (read_screen a.0.now) x y p q

pub write_to_one : (κs : Lfts 2) (a : Dens κs write-kinds.ps) (x y : (res_t write-kinds.r κs).Denot) (s t : AtExit (ended_of 2 write-kinds.ps write-kinds.r) κs)
    → write.Post κs a x s → write.Post κs a y t → (x ≡ y) × (s.1.1.1.0.now ≡ t.1.1.1.0.now)
write_to_one κs a x y s t p q =
    let w = screen_body a.0 (take a.1.1.0 a.1.0.now) in
    let body = a.1.1.1.0.now in
    writes_one (stop_room (length body) (length w)) w x y body s.1.1.1.0.now t.1.1.1.0.now p q

pub made_one : (κs : Lfts 1) (a : Dens κs made-kinds.ps) (x y : (res_t made-kinds.r κs).Denot) (s t : AtExit (ended_of 1 made-kinds.ps made-kinds.r) κs)
    → made.Post κs a x s → made.Post κs a y t → x ≡ y
made_one κs a x y s t p q = p ∙ sym q

pub fields_one : (κs : Lfts 0) (a : Dens κs fields-kinds.ps) (x y : (res_t fields-kinds.r κs).Denot) (s t : AtExit (ended_of 0 fields-kinds.ps fields-kinds.r) κs)
    → fields.Post κs a x s → fields.Post κs a y t → x ≡ y
fields_one κs a x y s t p q = fields_answer_one (inspect a.0) x y p q

pub new_one : (κs : Lfts 0) (a : Dens κs new-kinds.ps) (x y : (res_t new-kinds.r κs).Denot) (s t : AtExit (ended_of 0 new-kinds.ps new-kinds.r) κs)
    → new.Post κs a x s → new.Post κs a y t → x ≡ y
new_one κs a x y s t p q = popup_answer_one (construct a.0) x y p q

pub blank_fields_one : (κs : Lfts 0) (a : Dens κs blank-kinds.ps) (x y : (res_t blank-kinds.r κs).Denot)
    (s t : AtExit (ended_of 0 blank-kinds.ps blank-kinds.r) κs)
    → blank.Post κs a x s → blank.Post κs a y t → x ≡ y
blank_fields_one κs a x y s t p q = p ∙ sym q

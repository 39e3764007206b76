-- The refusals of constructors, of inspection and of images handed in have a number other than 0, and place 0. Assumes nothing.
use Prim.Native.Nat.{ℕ, zero, suc}
use mathlib.Core.List.{List}
use native.Mathlib.Omega.{arith}
use lib.ListN.{length, take, drop, get_or}
use lib.Dec.{leb, eqb}
use Rattle.codec.specs.Same.{same}
use Rattle.codec.specs.Sheet.{Answer, got, refused}
use Rattle.codec.specs.Writing.{nonzero}
use Rattle.families.specs.Text.{new_text, zeros}
use Rattle.families.specs.Ack.{new_ack, action_ok, ack_says}
use Rattle.families.specs.Popup.{Popup, read_popup, write_popup}
use Rattle.families.specs.Fields.{made_texts, popup_says, popup_of, stop_popup, unless, construct, fields_of, whole, inspect}
use Rattle.families.specs.declared.ack.CommandAck.{CommandAck}
use Rattle.families.specs.declared.screen.ScreenPopup.{ScreenPopup}
use Rattle.families.specs.declared.screen.ScreenPopupFields.{ScreenPopupFields}
use Rattle.images.specs.Popup.{popup_from}
use Rattle.images.specs.Fields.{known_at, fields_at, fields_from}
use Rattle.images.specs.Record.{record_image, record_at, record_from}
use Rattle.question_images.specs.Image.{question_at, question_from}
use Rattle.codec.proofs.Refused.{Some, some-got, some-refused, some-pick}

pub text-some : (v : List ℕ) → Some (new_text v)
text-some v =
    some-pick (nonzero v) _ _
    (some-pick (leb (length v) 51) _ _ (some-got v) (some-refused 1 (omega arith)))
    (some-refused 2 (omega arith))

pub ack_some : (a : CommandAck) (t : List ℕ) → Some (new_ack a t)
ack_some a t =
    some-pick (leb (length t) 52) _ _
    (some-pick (action_ok (ack_says a t)) _ _
    (some-pick (nonzero t) _ _ (some-got (ack_says a t)) (some-refused 2 (omega arith)))
    (some-refused 2 (omega arith)))
    (some-refused 1 (omega arith))

unless-some : (n : ℕ) (q : Popup) → Some (unless n q)
unless-some zero q = some-got (popup_of (write_popup q))
unless-some (suc n) q = some-refused (suc n) (omega arith)

pub construct-some : (f : ScreenPopupFields) → Some (construct f)
construct-some f = some-pick (made_texts f) _ _ (unless-some (stop_popup (popup_says f)) (popup_says f)) (some-refused 5 (omega arith))

whole-some : (n : ℕ) (a : Answer Popup) → Some (whole n a)
whole-some n (got q) = some-pick (eqb (length (write_popup q)) n) _ _ (some-got (fields_of q)) (some-refused 5 (omega arith))
whole-some n (refused k p) = some-refused 5 (omega arith)

pub inspect-some : (q : ScreenPopup) → Some (inspect q)
inspect-some q =
    some-pick (leb q.len 55) _ _
    (some-pick (zeros (drop q.len q.bytes)) _ _ (whole-some q.len (read_popup (take q.len q.bytes) 0)) (some-refused 5 (omega arith)))
    (some-refused 5 (omega arith))

pub popup-some : (s : List ℕ) → Some (popup_from s)
popup-some s = some-pick (eqb (length s) 56) _ _ (some-got (record { len = get_or s 0 0; bytes = drop 1 s })) (some-refused 5 (omega arith))

pub fields-some : (s : List ℕ) → Some (fields_from s)
fields-some s =
    some-pick (eqb (length s) 268) _ _
    (some-pick (known_at s) _ _ (some-got (fields_at s)) (some-refused 5 (omega arith)))
    (some-refused 5 (omega arith))

pub record_some : (s : List ℕ) → Some (record_from s)
record_some s =
    some-pick (eqb (length s) 70) _ _
    (some-pick (same (record_image (record_at s)) s) _ _ (some-got (record_at s)) (some-refused 5 (omega arith)))
    (some-refused 5 (omega arith))

pub question-some : (s : List ℕ) → Some (question_from s)
question-some s =
    some-pick (eqb (length s) 66) _ _
    (some-pick (leb (get_or s 0 0) 1) _ _
    (some-pick (leb (get_or s 1 0) 1) _ _ (some-got (question_at s)) (some-refused 5 (omega arith)))
    (some-refused 5 (omega arith)))
    (some-refused 5 (omega arith))

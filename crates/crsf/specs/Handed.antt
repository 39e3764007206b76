-- An image handed out: the answer's word, and the slice that is left. Assumes nothing.
use Rattle.std.specs.Prelude.{ℕ, ◌≡◌, List, length, ltb}
use Rattle.std.proofs.lemmas.List.Edits.{sets}
use Rattle.codec.specs.Pick.{pick}
use Rattle.codec.specs.Sheet.{Answer, got, refused, and_then}
use Rattle.families.specs.Text.{new_text}
use Rattle.families.specs.Ack.{new_ack}
use Rattle.families.specs.Fields.{construct, inspect}
use Rattle.families.specs.declared.ack.CommandAck.{CommandAck}
use Rattle.commands.specs.Reading.{read_command}
use Rattle.images.specs.Text.{image_of_text}
use Rattle.images.specs.Ack.{image_of_ack}
use Rattle.images.specs.Popup.{popup_image, popup_from}
use Rattle.images.specs.Fields.{fields_image, fields_from}
use Rattle.images.specs.Record.{record_image}
use Rattle.images.specs.Word.{word}

-- an image handed out needs its size: a shorter slice is 3, before all else (docs/BEHAVIOUR.md, "The C boundary")
abbrev pub handed_out : {A : Type 0} → ℕ → ℕ → Answer A → Answer A
handed_out size room a = pick (ltb room size) (refused 3 0) a

-- a longer slice keeps its bytes behind the image; with each number "lent memory keeps its bytes"
abbrev pub image_left : {A : Type 0} → (A → List ℕ) → Answer A → List ℕ → List ℕ
image_left image (got a) s = sets s 0 (image a)
image_left image (refused n p) s = s

abbrev pub image_word : {A : Type 0} → Answer A → ℕ
image_word (got a) = word 0 0 0
image_word (refused n p) = word n 0 p

-- the image of what is got goes out; r is the answer's word
abbrev pub HandsOut : {A : Type 0} → (A → List ℕ) → Answer A → ℕ → List ℕ → List ℕ → Type 0
HandsOut image a r s s' = (r ≡ image_word a) × (s' ≡ image_left image a s)

-- the same into any slice s: of fewer bytes than the image's size it is 3
abbrev pub ImageOut : {A : Type 0} → ℕ → (A → List ℕ) → Answer A → ℕ → List ℕ → List ℕ → Type 0
ImageOut size image a r s s' = HandsOut image (handed_out size (length s) a) r s s'

-- WHAT GOES OUT, r and s' of the slice s: the record that a payload is read into
abbrev pub ReadsOut : List ℕ → ℕ → List ℕ → List ℕ → Type 0
ReadsOut payload r s s' = ImageOut 70 record_image (read_command payload) r s s'

-- the text of bytes
abbrev pub TextOut : List ℕ → ℕ → List ℕ → List ℕ → Type 0
TextOut bytes r s s' = ImageOut 52 image_of_text (new_text bytes) r s s'

-- the ACK with information
abbrev pub AckOut : CommandAck → List ℕ → ℕ → List ℕ → List ℕ → Type 0
AckOut a information r s s' = ImageOut 56 image_of_ack (new_ack a information) r s s'

-- the popup of an image of fields
abbrev pub PopupOut : List ℕ → ℕ → List ℕ → List ℕ → Type 0
PopupOut fields r s s' = ImageOut 56 popup_image (and_then (fields_from fields) construct) r s s'

-- the fields of an image of a popup
abbrev pub FieldsOut : List ℕ → ℕ → List ℕ → List ℕ → Type 0
FieldsOut popup r s s' = ImageOut 268 fields_image (and_then (popup_from popup) inspect) r s s'

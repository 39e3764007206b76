-- Wrong answers that the contracts of the exported functions rule out: the definition that the contract names, worked out for an input
-- where the wrong answer would be another. That no other answer is allowed there is in OneAnswer.antt, OneAnswerCommand.antt,
-- OneAnswerEdits.antt and OneAnswerMade.antt. Of `crsf_check` see the crate crc, whose definition it is.
-- Assumes nothing.
use Prim.Native.Nat.{ℕ}
use mathlib.Core.List.{List, [], ◌∷◌, ◌++◌}
use mathlib.Core.Path.{◌≡◌, refl, ap, sym, ◌∙◌}
use native.Mathlib.Omega.{arith}
use lib.ListN.{length, replicate}
use Rattle.codec.specs.Sheet.{Answer, refused}
use Rattle.codec.specs.Reading.{read_item}
use Rattle.codec.specs.Writing.{leaves}
use Rattle.codec.specs.Refusals.{number_in}
use Rattle.families.specs.Ack.{ack_with}
use Rattle.commands.specs.Reading.{read_command}
use Rattle.commands.specs.declared.DirectCommands.{DirectCommands}
use Rattle.commands.proofs.Known.{read_short}
use Rattle.edits.specs.Edit.{Edit, edit, edit_command, bytes_left, bytes_after, numbers_of, edits_in}
use Rattle.images.specs.Record.{record_from}
use Rattle.images.specs.Word.{WritesOut}
use Rattle.crsf.specs.Handed.{ReadsOut, TextOut, AckOut, PopupOut, FieldsOut}
use Rattle.crsf.specs.Edit.{EditsOut, ListsOut}

-- a slice of n bytes
abbrev room : ℕ → List ℕ
room n = replicate n 7

-- two bytes, which are no payload: reading answers 1
abbrev short : List ℕ
short = 1 ∷ 2 ∷ []

short_read : read_command short ≡ refused 1 0
short_read = read_short short (omega arith)

-- ---- crsf_read (and must-fail/record_in_popup_room)
-- a refusal changes no byte: the blank record goes with it, but not its image
pub read_refused : ReadsOut short 1 (room 70) (room 70)
read_refused = rw short_read (refl, refl)

-- ---- crsf_write (and must-fail/count_of_place)
-- what is no record's image is 5, and not the blank command written
pub write_no_image : WritesOut (record_from []) 5 (room 6) (room 6)
write_no_image = (refl, refl)

-- ---- crsf_edit (and must-fail/field_for_number)
short-edit : (f n : ℕ) → edit_command short f n ≡ refused 1 0
short-edit f n = rw short_read

-- the reader's refusal comes before 7: no command has field 9
pub edit-refused : EditsOut (edit_command short 9 0) 1 short short
edit-refused = rw (short-edit 9 0) (refl, refl)

-- ---- crsf_edit_list
-- a list of 9 bytes is 1, and changes no answer byte
pub list_of_9 : ListsOut (replicate 9 0) 1 short short (room 2) (room 2)
list_of_9 = (refl, (refl, refl))

left-short : (es : List Edit) → bytes_after short es ≡ short
left-short [] = refl
left-short (edit f n ∷ es) = ap (λ (a : Answer DirectCommands). bytes_after (bytes_left short a) es) (short-edit f n) ∙ left-short es

numbers-short : (es : List Edit) → numbers_of short es ≡ replicate (length es) 1
numbers-short [] = refl
numbers-short (edit f n ∷ es) =
    ap (λ (a : Answer DirectCommands). number_in a ∷ numbers_of (bytes_left short a) es) (short-edit f n)
    ∙ ap (λ (l : List ℕ). 1 ∷ l) (numbers-short es)

-- it goes on behind a refused edit; the answer byte behind the two keeps its own
pub list_goes_on : ListsOut (replicate 16 0) 0 short short (room 3) (1 ∷ 1 ∷ 7 ∷ [])
list_goes_on =
    let es = edits_in (replicate 16 0) in
    (refl, (sym (left-short es), ap (λ (l : List ℕ). leaves 0 l (room 3)) (sym (numbers-short es))))

-- ---- crsf_text
-- a text of 52 bytes
pub text_52 : TextOut (replicate 52 0x41) 1 (room 52) (room 52)
text_52 = (refl, refl)

-- the room is looked at before the bytes
pub text_room_first : TextOut (0 ∷ []) 3 (room 51) (room 51)
text_room_first = (refl, refl)

-- ---- crsf_ack
-- an ACK with action 2
pub ack_2 : AckOut (ack_with 1 1 2) [] 2 (room 56) (room 56)
ack_2 = (refl, refl)

-- the room is looked at before the action
pub ack_room_first : AckOut (ack_with 1 1 2) [] 3 (room 55) (room 55)
ack_room_first = (refl, refl)

-- ---- crsf_popup
-- absent items are not looked at: nothing is present, and the label's length is 200
pub popup_absent : PopupOut (replicate 107 0 ++ 200 ∷ replicate 160 0) 0 (room 57) (4 ∷ replicate 55 0 ++ 7 ∷ [])
popup_absent = (refl, refl)

-- what is no image of fields is 5, and not the popup of blank ones
pub popup_no_image : PopupOut [] 5 (room 56) (room 56)
popup_no_image = (refl, refl)

-- ---- crsf_popup_fields
-- the blank popup is not made: 5, and no blank fields
pub fields_not_made : FieldsOut (replicate 56 0) 5 (room 268) (room 268)
unfolding read_item
fields_not_made = (refl, refl)

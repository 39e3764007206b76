-- Wrong answers that the contracts of the public functions rule out: the definition that the contract names, worked out for an input
-- where the wrong answer would be another. That no other answer is allowed there is in OneAnswerImages.antt. Of `fields::from` see
-- must-fail/flag_of_two and `Fields-back` in FieldsLaws.antt. Assumes nothing.
use mathlib.Core.Bool.{true, false}
use mathlib.Core.List.{[], ◌∷◌, ◌++◌}
use mathlib.Core.Path.{◌≡◌, refl}
use lib.ListN.{take, drop, replicate}
use Rattle.std.specs.declared.result.Result.TheVariants.{Ok, Err}
use Rattle.codec.specs.Sheet.{got, refused}
use Rattle.codec.specs.Writing.{put_at}
use Rattle.codec.specs.Refusals.{refusal_number}
use Rattle.codec.specs.Told.{told_written}
use Rattle.codec.specs.declared.refusal.Refusal.TheVariants.{BufferOverflow, RecordNotMade}
use Rattle.families.specs.Text.{padded, text_of}
use Rattle.families.specs.Ack.{ack_with}
use Rattle.families.specs.Popup.{popup}
use Rattle.families.specs.Fields.{popup_of, fields_of, blank_fields}
use Rattle.families.specs.declared.screen.ScreenAdditionalData.TheVariants.{Selection}
use Rattle.commands.specs.Command.{blank_command}
use Rattle.images.specs.Text.{text_image}
use Rattle.images.specs.Word.{word, answer_word}
use Rattle.images.specs.Number.{number_at, flag_of}
use Rattle.images.specs.Ack.{ack_image}
use Rattle.images.specs.Popup.{popup_image, popup_from}
use Rattle.images.specs.Fields.{fields_image}
use Rattle.images.specs.Values.{payload_laid, payload_at}
use Rattle.images.specs.Record.{record_image, record_from}

-- ---- word::refused (and must-fail/always_two)
-- the number stands in bits 0-7
pub word-refused : word (refusal_number BufferOverflow) 0 0 ≡ 3
word-refused = refl

-- ---- word::written (and must-fail/count_of_place, count_in_low_bits)
pub word-written : answer_word (told_written (Ok 5)) ≡ 0x500
word-written = refl

-- ---- number::at (and must-fail/number_at_front)
-- the highest byte first, from its place on
pub number_high_first : number_at (9 ∷ 1 ∷ 2 ∷ 3 ∷ 4 ∷ 9 ∷ []) 1 4 ≡ 0x01020304
number_high_first = refl

-- a byte too few: not the number of those that are there
pub number_not_there : number_at (1 ∷ 2 ∷ 3 ∷ []) 0 4 ≡ 0
number_not_there = refl

-- ---- number::flag (and must-fail/flag_of_3)
pub flag_1 : flag_of 1 ≡ Ok true
flag_1 = refl

pub flag_2 : flag_of 2 ≡ Err RecordNotMade
flag_2 = refl

-- ---- stored::put, of a text
-- no image is half put
pub text_no_room : put_at (replicate 51 7) 0 (text_image (text_of (0x41 ∷ []))) ≡ replicate 51 7
text_no_room = refl

-- the length stands first, unused places are put as zeros, the byte behind the image keeps its own
pub text-put : put_at (replicate 53 7) 0 (text_image (text_of (0x41 ∷ []))) ≡ 1 ∷ 0x41 ∷ replicate 50 0 ++ 7 ∷ []
text-put = refl

-- ---- ack::put
pub ack_no_room : put_at (replicate 55 7) 0 (ack_image (ack_with 1 2 3) 1 (padded 55 (0x41 ∷ []))) ≡ replicate 55 7
ack_no_room = refl

-- of the 55 places that an ACK has for its information, 52 are put
pub ack_put : put_at (replicate 57 7) 0 (ack_image (ack_with 1 2 3) 1 (padded 55 (0x41 ∷ []))) ≡ 1 ∷ 2 ∷ 3 ∷ 1 ∷ 0x41 ∷ replicate 51 0 ++ 7 ∷ []
ack_put = refl

-- ---- stored::put, of a popup
pub popup_no_room : put_at (replicate 55 7) 0 (popup_image (popup_of (replicate 4 0))) ≡ replicate 55 7
popup_no_room = refl

-- the length is the popup's, not its 55 places'
pub popup-put : put_at (replicate 57 7) 0 (popup_image (popup_of (0x41 ∷ 0 ∷ 0 ∷ 0 ∷ 0 ∷ []))) ≡ 5 ∷ 0x41 ∷ replicate 54 0 ++ 7 ∷ []
popup-put = refl

-- ---- popup::from
-- a popup's bytes without their length are no image
pub popup_55 : popup_from (replicate 55 0) ≡ refused 5 0
popup_55 = refl

-- a popup that is not made has an image all the same: 5 is inspection's
pub popup_any : popup_from (9 ∷ replicate 55 1) ≡ got (record { len = 9; bytes = replicate 55 1 })
popup_any = refl

-- ---- fields::put
pub fields_no_room : put_at (replicate 267 7) 0 (fields_image blank_fields) ≡ replicate 267 7
fields_no_room = refl

-- a timeout of 9, close on, a selection: in this order, behind the two texts
pub fields-put : take 3
    (drop 104 (put_at (replicate 268 7) 0
    (fields_image (fields_of (popup Selection false ([] ∷ [] ∷ (9 ∷ []) ∷ (1 ∷ []) ∷ [])))))) ≡ 9 ∷ 1 ∷ 2 ∷ []
fields-put = refl

-- ---- record::put (and must-fail/saturation_and_value)
pub record_no_room : put_at (replicate 69 7) 0 (record_image blank_command) ≡ replicate 69 7
unfolding payload_laid
record_no_room = refl

-- ---- record::from
-- an unknown id
pub record_unknown : record_from (1 ∷ 2 ∷ 0x02 ∷ replicate 67 0) ≡ refused 5 0
unfolding payload_laid payload_at
record_unknown = refl

-- disarm, with a byte behind its values that is not zero
pub record_more : record_from (1 ∷ 2 ∷ 0x01 ∷ 0x01 ∷ 9 ∷ replicate 65 0) ≡ refused 5 0
unfolding payload_laid payload_at
record_more = refl

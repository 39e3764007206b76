-- Wrong answers that the contracts of the public functions rule out: the definition that the contract names, worked out for an input
-- where the wrong answer would be another. That no other answer is allowed there is in OneAnswer.antt. Assumes nothing.
use mathlib.Core.Bool.{true}
use mathlib.Core.List.{[], ◌∷◌, ◌++◌}
use mathlib.Core.Path.{◌≡◌, refl}
use lib.ListN.{drop, replicate}
use Rattle.codec.specs.Sheet.{got, refused}
use Rattle.codec.specs.Writing.{put_at}
use Rattle.families.specs.Fields.{popup_of}
use Rattle.images.specs.Popup.{popup_image}
use Rattle.questions.specs.Kept.{new_question}
use Rattle.questions.specs.declared.Question.{Question}
use Rattle.question_images.specs.Image.{question_image, question_from}

-- an open question; its popup has a byte 0x41 and is not made, which is not judged here
abbrev asked : Question
asked = record { started = true; «open» = true; sent = 0x01020304; last = 0x05060708; popup = popup_of (0x41 ∷ []) }

-- ---- from
-- a new one is zeros throughout
pub from-zeros : question_from (replicate 66 0) ≡ got new_question
from-zeros = refl

-- a byte too few or too many
pub from_65 : question_from (replicate 65 0) ≡ refused 5 0
from_65 = refl

pub from_67 : question_from (replicate 67 0) ≡ refused 5 0
from_67 = refl

-- a flag of 2 is not one of 1
pub from_started_2 : question_from (2 ∷ replicate 65 0) ≡ refused 5 0
from_started_2 = refl

pub from_open_2 : question_from (1 ∷ 2 ∷ replicate 64 0) ≡ refused 5 0
from_open_2 = refl

-- the highest byte first, sent before last; the popup's length at 10
pub from_parts : question_from (1 ∷ 1 ∷ 1 ∷ 2 ∷ 3 ∷ 4 ∷ 5 ∷ 6 ∷ 7 ∷ 8 ∷ 1 ∷ 0x41 ∷ replicate 54 0) ≡ got asked
from_parts = refl

-- ---- put
-- no image is half put
pub question_no_room : put_at (replicate 65 7) 0 (question_image asked) ≡ replicate 65 7
question_no_room = refl

-- one that just has room is put
pub question-put : put_at (replicate 66 7) 0 (question_image asked)
    ≡ 1 ∷ 1 ∷ 1 ∷ 2 ∷ 3 ∷ 4 ∷ 5 ∷ 6 ∷ 7 ∷ 8 ∷ 1 ∷ 0x41 ∷ replicate 54 0
question-put = refl

-- the popup's image stands at 10; the byte behind the question keeps its own
pub question-popup : drop 10 (put_at (replicate 67 7) 0 (question_image asked)) ≡ popup_image (popup_of (0x41 ∷ [])) ++ 7 ∷ []
question-popup = refl

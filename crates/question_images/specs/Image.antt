-- The C boundary's image of a question (include/crsf.h). Assumes nothing.
use Rattle.std.specs.Prelude.{Result, ℕ, List, ◌∷◌, ◌++◌, length, drop, get_or, leb, eqb}
use Rattle.codec.specs.Pick.{pick}
use Rattle.codec.specs.Digits.{bytes_of}
use Rattle.codec.specs.Sheet.{Answer, got, refused}
use Rattle.codec.specs.Refusals.{Gives}
use Rattle.codec.specs.Told.{bit}
use Rattle.images.specs.Number.{number_at}
use Rattle.images.specs.Popup.{popup_image}
use Rattle.questions.specs.declared.Question.{Question}
use Rattle.codec.specs.declared.refusal.Refusal.{Refusal}

-- 66 bytes: started (1, 0 or 1); open (1, 0 or 1); second when the popup was sent (4); last accepted second (4); popup image (56)
abbrev pub question_image : Question → List ℕ
question_image q = bit q.started ∷ bit q.«open» ∷ (bytes_of 4 q.sent ++ (bytes_of 4 q.last ++ popup_image q.popup))

-- AN IMAGE HANDED IN: each part at its place
abbrev pub question_at : List ℕ → Question
question_at s = record {
  started = eqb (get_or s 0 0) 1;
  «open» = eqb (get_or s 1 0) 1;
  sent = number_at s 2 4;
  last = number_at s 6 4;
  popup = record { len = get_or s 10 0; bytes = drop 11 s };
}

-- another length is 5, and so is a flag out of range
abbrev pub question_from : List ℕ → Answer Question
question_from s =
    pick (eqb (length s) 66)
    (pick (leb (get_or s 0 0) 1) (pick (leb (get_or s 1 0) 1) (got (question_at s)) (refused 5 0)) (refused 5 0))
    (refused 5 0)

abbrev pub QuestionIs : Answer Question → Result Question Refusal → Type 0
QuestionIs a r = Gives (λ q. q) a r

-- Any two answers that a public function's contract allows coincide, and so does the lent slice. `Post` is the contract as the check
-- reads it from the source, and no copy of it. Assumes nothing.
use mathlib.Core.Path.{◌≡◌, sym, ◌∙◌}
use Rattle.codec.proofs.Outcomes.{gives_one}
use Rattle.images.proofs.AnyTwo.{AnyTwo}
use Rattle.question_images.specs.Image.{question_from}
use Rattle.question_images.proofs.from.Reads as from-question
use Rattle.question_images.proofs.from.Kinds as from-question-kinds
use Rattle.question_images.proofs.put.Reads as put-question
use Rattle.question_images.proofs.put.Kinds as put-question-kinds

pub from_question_one : AnyTwo 1 from-question-kinds.ps from-question-kinds.r from-question.Post (λ κs x y s t. x ≡ y)
from_question_one κs a x y s t p q = gives_one (λ q. q) (question_from a.0.now) x y p q

pub put_question_one : AnyTwo 1 put-question-kinds.ps put-question-kinds.r put-question.Post (λ κs x y s t. s.1.0.now ≡ t.1.0.now)
put_question_one κs a x y s t p q = p ∙ sym q

-- Any two answers that the contract of a call on a question allows coincide, and so do the bytes that are left of the question. `Post` is
-- the contract as the check reads it from the source, and no copy of it. Assumes nothing.
use Prim.Native.Nat.{ℕ}
use mathlib.Core.List.{List}
use mathlib.Core.Path.{◌≡◌, sym, ◌∙◌}
use Rattle.codec.specs.Sheet.{Answer}
use Rattle.images.proofs.AnyTwo.{AnyTwo}
use Rattle.crsf.specs.Question.{Called, HandsBack}
use Rattle.crsf.proofs.question.crsf_question_ask.Reads as ask
use Rattle.crsf.proofs.question.crsf_question_ask.Kinds as ask-kinds
use Rattle.crsf.proofs.question.crsf_question_return.Reads as return
use Rattle.crsf.proofs.question.crsf_question_return.Kinds as return-kinds
use Rattle.crsf.proofs.question.crsf_question_command.Reads as command
use Rattle.crsf.proofs.question.crsf_question_command.Kinds as command-kinds

back_one : (a : Answer Called) (x y : ℕ) (s t u : List ℕ) → HandsBack a x s t → HandsBack a y s u → (x ≡ y) × (t ≡ u)
back_one a x y s t u p q = (p.word ∙ sym q.word, p.left ∙ sym q.left)

pub question_ask_one : AnyTwo 2 ask-kinds.ps ask-kinds.r ask.Post (λ κs x y s t. (x ≡ y) × (s.0.now ≡ t.0.now))
question_ask_one κs a x y s t p q = back_one _ x y a.0.now s.0.now t.0.now p q

pub question_return_one : AnyTwo 1 return-kinds.ps return-kinds.r return.Post (λ κs x y s t. (x ≡ y) × (s.0.now ≡ t.0.now))
question_return_one κs a x y s t p q = back_one _ x y a.0.now s.0.now t.0.now p q

pub question_command_one : AnyTwo 2 command-kinds.ps command-kinds.r command.Post (λ κs x y s t. (x ≡ y) × (s.0.now ≡ t.0.now))
question_command_one κs a x y s t p q = back_one _ x y a.0.now s.0.now t.0.now p q

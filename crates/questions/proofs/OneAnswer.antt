-- Any two answers that a public function's contract allows coincide, and so do the questions that it leaves. `Post` is the contract as the check reads it from the source, and no
-- copy of it. Assumes nothing.
use Rattle.std.specs.Prelude.{Result, Ok, Err}
use Prim.Native.Nat.{ℕ}
use mathlib.Core.Path.{◌≡◌, refl, ap, sym, ◌∙◌}
use contract.Lifetimes.{Lfts}
use borrow.Fn.Kinds.{Dens, res_t, ended_of}
use denote.Triple.Clauses.{AtExit}
use lib.Dec.{eqb}
use Rattle.codec.specs.Pick.{pick}
use Rattle.codec.specs.Sheet.{Answer, got, refused}
use Rattle.questions.specs.Table.{Call, asks, returns, Told, opened, processed, cancelled, expired}
use Rattle.questions.specs.Kept.{reason_number, told_reply, StepIs, call_of}
use Rattle.questions.specs.declared.Question.{Question}
use Rattle.questions.specs.declared.Reason.{Reason}
use Rattle.questions.specs.declared.Reason.TheVariants.{RecordNotMade, InvalidPayload, Clock, QuestionOpen, NoQuestion, Value}
use Rattle.questions.specs.declared.Reply.{Reply}
use Rattle.questions.specs.declared.Reply.TheVariants.{Opened, Processed, Cancelled, Expired}
use Rattle.questions.proofs.U8FromReason.from.Reads as number
use Rattle.questions.proofs.U8FromReason.from.Kinds as number-kinds
use Rattle.questions.proofs.Question.new.Reads as new
use Rattle.questions.proofs.Question.new.Kinds as new-kinds
use Rattle.questions.proofs.Question.ask.Reads as ask
use Rattle.questions.proofs.Question.ask.Kinds as ask-kinds
use Rattle.questions.proofs.Question.returned.Reads as returned
use Rattle.questions.proofs.Question.returned.Kinds as returned-kinds
use Rattle.questions.proofs.Question.command.Reads as command
use Rattle.questions.proofs.Question.command.Kinds as command-kinds

-- ---- what is told fixes the reply
abbrev reason_of : ℕ → Reason
reason_of n =
    pick (eqb n 5) RecordNotMade
    (pick (eqb n 2) InvalidPayload (pick (eqb n 27) Clock (pick (eqb n 28) QuestionOpen (pick (eqb n 29) NoQuestion Value))))

reason_back : (why : Reason) → reason_of (reason_number why) ≡ why
reason_back RecordNotMade = refl
reason_back InvalidPayload = refl
reason_back Clock = refl
reason_back QuestionOpen = refl
reason_back NoQuestion = refl
reason_back Value = refl

abbrev pub reply_told : Answer Told → Result Reply Reason
reply_told (got opened) = Ok Opened
reply_told (got processed) = Ok Processed
reply_told (got cancelled) = Ok Cancelled
reply_told (got expired) = Ok Expired
reply_told (refused n p) = Err (reason_of n)

pub reply-told : (x : Result Reply Reason) → reply_told (told_reply x) ≡ x
reply-told (Ok Opened) = refl
reply-told (Ok Processed) = refl
reply-told (Ok Cancelled) = refl
reply-told (Ok Expired) = refl
reply-told (Err why) = ap Err (reason_back why)

-- a call fixes the reply and the question that is left
pub step_one : (q : Question) (c : Call) (x y : Result Reply Reason) (p r : Question) → StepIs q c x p → StepIs q c y r → (x ≡ y) × (p ≡ r)
step_one q c x y p r g h = (
  sym (reply-told x) ∙ ap reply_told (g.reply ∙ sym h.reply) ∙ reply-told y,
  g.question ∙ sym h.question,
)

-- ---- the public functions
pub number_one : (κs : Lfts 0) (a : Dens κs number-kinds.ps) (x y : (res_t number-kinds.r κs).Denot)
    (s t : AtExit (ended_of 0 number-kinds.ps number-kinds.r) κs)
    → number.Post κs a x s → number.Post κs a y t → x ≡ y
number_one κs a x y s t p q = p ∙ sym q

pub new_one : (κs : Lfts 0) (a : Dens κs new-kinds.ps) (x y : (res_t new-kinds.r κs).Denot)
    (s t : AtExit (ended_of 0 new-kinds.ps new-kinds.r) κs)
    → new.Post κs a x s → new.Post κs a y t → x ≡ y
new_one κs a x y s t p q = p ∙ sym q

pub ask_one : (κs : Lfts 1) (a : Dens κs ask-kinds.ps) (x y : (res_t ask-kinds.r κs).Denot)
    (s t : AtExit (ended_of 1 ask-kinds.ps ask-kinds.r) κs)
    → ask.Post κs a x s → ask.Post κs a y t → (x ≡ y) × (s.0.now ≡ t.0.now)
ask_one κs a x y s t p q = step_one a.0.now (asks a.1.0 a.1.1.0) x y _ _ p q

pub returned_one : (κs : Lfts 1) (a : Dens κs returned-kinds.ps) (x y : (res_t returned-kinds.r κs).Denot)
    (s t : AtExit (ended_of 1 returned-kinds.ps returned-kinds.r) κs)
    → returned.Post κs a x s → returned.Post κs a y t → (x ≡ y) × (s.0.now ≡ t.0.now)
returned_one κs a x y s t p q = step_one a.0.now (returns a.1.0 a.1.1.0 a.1.1.1.0) x y _ _ p q

pub command_one : (κs : Lfts 1) (a : Dens κs command-kinds.ps) (x y : (res_t command-kinds.r κs).Denot)
    (s t : AtExit (ended_of 1 command-kinds.ps command-kinds.r) κs)
    → command.Post κs a x s → command.Post κs a y t → (x ≡ y) × (s.0.now ≡ t.0.now)
command_one κs a x y s t p q = step_one a.0.now (call_of a.1.0 a.1.1.0) x y _ _ p q

-- A call on a question: what is refused leaves all as it was; what is told leaves the image of the question that is kept now. Assumes
-- nothing.
use Rattle.std.specs.Prelude.{Result, Ok, Err}
use Prim.Native.Nat.{ℕ, ◌≤◌}
use mathlib.Core.Bool.{Bool, true, false}
use mathlib.Core.List.{List}
use mathlib.Core.Path.{◌≡◌, refl, ap, sym, ◌∙◌}
use native.Mathlib.Omega.{arith}
use lib.ListN.{length, get_or}
use lib.Seq.{sets}
use lib.Dec.{leb, eqb}
use borrow.Author.Tests.{eqb-true}
use Rattle.codec.specs.Pick.{pick}
use Rattle.codec.specs.Sheet.{Answer, got, refused, and_then}
use Rattle.codec.specs.Refusals.{refusal_number, Gives}
use Rattle.codec.specs.declared.refusal.Refusal.{Refusal}
use Rattle.codec.proofs.Refused.{Some}
use Rattle.images.specs.Word.{word}
use Rattle.questions.specs.Table.{Call, Told}
use Rattle.questions.specs.Kept.{reason_number, told_reply, reply_to, kept_after, StepIs}
use Rattle.questions.specs.declared.Question.{Question}
use Rattle.questions.specs.declared.Reason.{Reason}
use Rattle.questions.specs.declared.Reason.TheVariants.{RecordNotMade, InvalidPayload, Clock, QuestionOpen, NoQuestion, Value}
use Rattle.questions.specs.declared.Reply.{Reply}
use Rattle.question_images.specs.Image.{question_image, question_at, question_from, QuestionIs}
use Rattle.crsf.specs.Question.{called, called_on, call_on, closing, HandsBack, reply_called}
use Rattle.codec.proofs.Outcomes.{gives_ok}
use Rattle.crsf.proofs.Handed.{turned_away}
use Rattle.crsf.proofs.Refusals.{question-some}

-- ---- what a reply hands back
-- told: how it closed, and the question that is kept now
pub told : (r : Result Reply Reason) (q : Question) (s s' : List ℕ) (t : Told) (n : ℕ) → told_reply r ≡ got t → n ≡ word 0 (closing t) 0
    → s' ≡ sets s 0 (question_image q) → HandsBack (reply_called r q) n s s'
told r q s s' t n h e f = record { word = rw h e; left = rw h f }

reason_word : (why : Reason) → reason_number why ≡ word (reason_number why) 0 0
reason_word RecordNotMade = refl
reason_word InvalidPayload = refl
reason_word Clock = refl
reason_word QuestionOpen = refl
reason_word NoQuestion = refl
reason_word Value = refl

pub not-told : (r : Result Reply Reason) (q : Question) (s : List ℕ) (why : Reason) (n : ℕ) → r ≡ Err why → n ≡ reason_number why
    → HandsBack (reply_called r q) n s s
not-told r q s why n h e = rw h (record { word = e ∙ reason_word why; left = refl })

-- it is what the call comes to
reply-called : (q : Question) (c : Call) (r : Result Reply Reason) (k : Question) → StepIs q c r k → reply_called r k ≡ called_on q c
reply-called q c r k h =
    ap (λ (a : Answer Told). and_then a (λ t. got (called t k))) h.reply
    ∙ ap (λ (j : Question). and_then (reply_to q c) (λ t. got (called t j))) h.question
    ∙ by (reply_to q c)
  where
    by : (a : Answer Told) → and_then a (λ t. got (called t (kept_after q c a))) ≡ and_then a (λ t. got (called t (kept_after q c (got t))))
    by (got t) = refl
    by (refused n p) = refl

-- ---- what calls, of a popup or a record
pub calls : {A : Type 0} (a : Answer A) (call : A → Call) (v : A) → Gives (λ b. b) a (Ok v) → and_then a (λ x. got (call x)) ≡ got (call v)
calls a call v e = let k = gives_ok (λ b. b) a v e in ap (λ y. and_then y (λ x. got (call x))) (k.1.0 ∙ ap got (sym k.1.1))

pub calls-not : {A : Type 0} (a : Answer A) (call : A → Call) (why : Refusal) → Some a → Gives (λ b. b) a (Err why)
    → and_then a (λ x. got (call x)) ≡ refused (refusal_number why) 0
calls-not a call why g e = rw (turned_away (λ b. b) a why g e)

-- ---- the image of a question handed in
-- it has its bytes
question-long : (s : List ℕ) (q : Question) → question_from s ≡ got q → length s ≡ 66
question-long s q = by (eqb (length s) 66) refl
  where
    by : (b : Bool) → eqb (length s) 66 ≡ b
        → pick b (pick (leb (get_or s 0 0) 1) (pick (leb (get_or s 1 0) 1) (got (question_at s)) (refused 5 0)) (refused 5 0)) (refused 5 0)
        ≡ got q → length s ≡ 66
    by true e h = eqb-true (length s) 66 e
    by false e h = let z : ◌≡◌ {A = ℕ} 0 1 = cc in absurd (omega arith)

pub no-question : (s : List ℕ) (a : Answer Call) (why : Refusal) (n : ℕ) → QuestionIs (question_from s) (Err why) → n ≡ word (refusal_number why) 0 0
    → HandsBack (call_on s a) n s s
no-question s a why n e f = rw (turned_away (λ q. q) (question_from s) why (question-some s) e) (record { word = f; left = refl })

module _ (s : List ℕ) (q : Question) (from : QuestionIs (question_from s) (Ok q)) where
  question_is : question_from s ≡ got q
  question_is = let k = gives_ok (λ x. x) (question_from s) q from in k.1.0 ∙ ap got (sym k.1.1)

  pub question-room : 66 ≤ length s
  question-room = omega (arith, question-long s q question_is)

  pub not-called : (a : Answer Call) (why : Refusal) (n : ℕ) → a ≡ refused (refusal_number why) 0 → n ≡ word (refusal_number why) 0 0
      → HandsBack (call_on s a) n s s
  not-called a why n h e = rw (question_is, h) (record { word = e; left = refl })

  pub is_called : (a : Answer Call) (c : Call) (r : Result Reply Reason) (k : Question) (n : ℕ) (s' : List ℕ) → a ≡ got c → StepIs q c r k
      → HandsBack (reply_called r k) n s s' → HandsBack (call_on s a) n s s'
  is_called a c r k n s' h steps out = rw (question_is, h) (rw (reply-called q c r k steps) at out)

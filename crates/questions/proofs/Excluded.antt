-- Document 01, "How tight the contracts are", of the questions: programs that the contracts exclude. Each is asked to meet its contract at
-- one input, and nowhere else. `Post` is the contract as the check reads it from the source, and no copy of it. Assumes nothing.
use Rattle.std.specs.Prelude.{Result, Ok, Err}
use Prim.Native.Nat.{ℕ, ◌+◌, ◌%◌}
use mathlib.Core.Bool.{Bool, true}
use mathlib.Core.Path.{◌≡◌, refl, ap, sym, ◌∙◌}
use native.Mathlib.Omega.{arith}
use lib.Dec.{ltb}
use contract.Lifetimes.{Lfts}
use borrow.Fn.Kinds.{Dens, ended_of}
use denote.Triple.Clauses.{AtExit}
use Rattle.codec.specs.Sheet.{got, refused}
use Rattle.codec.specs.Reading.{read_item}
use Rattle.families.specs.declared.screen.ScreenPopup.{ScreenPopup}
use Rattle.questions.specs.Table.{Call, asks, returns, opened, processed, fields_in}
use Rattle.questions.specs.Kept.{new_question, reply_to, opens, StepIs}
use Rattle.questions.specs.declared.Question.{Question}
use Rattle.questions.specs.declared.Reason.{Reason}
use Rattle.questions.specs.declared.Reason.TheVariants.{NoQuestion}
use Rattle.questions.specs.declared.Reply.TheVariants.{Opened, Expired}
use Rattle.questions.specs.declared.Reply.{Reply}
use Rattle.questions.proofs.Examples.{plain, choice}
use Rattle.questions.proofs.OneAnswer.{reply_told, reply-told}
use Rattle.questions.proofs.Question.ask.Reads as ask
use Rattle.questions.proofs.Question.ask.Kinds as ask-kinds
use Rattle.questions.proofs.Question.returned.Reads as returned
use Rattle.questions.proofs.Question.returned.Kinds as returned-kinds

-- ---- late by a sum of u32, which wraps around
abbrev pub wrapped_late : Question → ℕ → Bool
wrapped_late q second = ltb ((q.sent + (fields_in q.popup).max_timeout_interval) % 4294967296) second

-- asked at the largest second, with 10 seconds; and what is answered in that second
abbrev pub at_largest : Question
at_largest = opens 4294967295 choice

largest_late : wrapped_late at_largest 4294967295 ≡ true
unfolding read_item
largest_late = refl

largest_in_time : reply_to at_largest (returns 4294967295 5 1) ≡ got processed
unfolding read_item
largest_in_time = refl

largest_open : reply_to at_largest (asks 4294967295 plain) ≡ refused 28 0
unfolding read_item
largest_open = refl

none_there : reply_to new_question (returns 0 0 1) ≡ refused 29 0
none_there = refl

first-opens : reply_to new_question (asks 0 plain) ≡ got opened
unfolding read_item
first-opens = refl

module _ (κs : Lfts 1) where
  -- the contract of `ask` allows, for this question, second and popup, this answer; and that of `returned`, for a value and a response
  abbrev pub Asks : Question → ℕ → ScreenPopup → Result Reply Reason → Type 0
  Asks q second popup x =
      (a : Dens κs ask-kinds.ps) × ((t : AtExit (ended_of 1 ask-kinds.ps ask-kinds.r) κs)
      × ((a.0.now ≡ q) × ((a.1.0 ≡ second) × ((a.1.1.0 ≡ popup) × ask.Post κs a x t))))

  abbrev pub Returns : Question → ℕ → ℕ → ℕ → Result Reply Reason → Type 0
  Returns q second value response x =
      (a : Dens κs returned-kinds.ps) × ((t : AtExit (ended_of 1 returned-kinds.ps returned-kinds.r) κs)
      × ((a.0.now ≡ q) × ((a.1.0 ≡ second) × ((a.1.1.0 ≡ value) × ((a.1.1.1.0 ≡ response) × returned.Post κs a x t)))))

  -- it is the reply that is told
  replies_as : (q : Question) (c : Call) (x : Result Reply Reason) (p : Question) → StepIs q c x p → x ≡ reply_told (reply_to q c)
  replies_as q c x p h = sym (reply-told x) ∙ ap reply_told h.reply

  asks_as : (q : Question) (second : ℕ) (popup : ScreenPopup) (x : Result Reply Reason) → Asks q second popup x
      → x ≡ reply_told (reply_to q (asks second popup))
  asks_as q second popup x (a, (t, (e, (f, (g, m))))) =
      replies_as a.0.now (asks a.1.0 a.1.1.0) x t.0.now m
      ∙ ap (λ (p : Question). reply_told (reply_to p (asks a.1.0 a.1.1.0))) e
      ∙ ap (λ (n : ℕ). reply_told (reply_to q (asks n a.1.1.0))) f
      ∙ ap (λ (p : ScreenPopup). reply_told (reply_to q (asks second p))) g

  returns_as : (q : Question) (second value response : ℕ) (x : Result Reply Reason) → Returns q second value response x
      → x ≡ reply_told (reply_to q (returns second value response))
  returns_as q second value response x (a, (t, (e, (f, (g, (h, m)))))) =
      replies_as a.0.now (returns a.1.0 a.1.1.0 a.1.1.1.0) x t.0.now m
      ∙ ap (λ (p : Question). reply_told (reply_to p (returns a.1.0 a.1.1.0 a.1.1.1.0))) e
      ∙ ap (λ (n : ℕ). reply_told (reply_to q (returns n a.1.1.0 a.1.1.1.0))) f
      ∙ ap (λ (n : ℕ). reply_told (reply_to q (returns second n a.1.1.1.0))) g
      ∙ ap (λ (n : ℕ). reply_told (reply_to q (returns second value n))) h

  -- ---- every return accepted
  pub all-accepted : (x : Result Reply Reason) → ((why : Reason) → x ≡ Err why → ⊥) → Returns new_question 0 0 1 x → ⊥
  all-accepted x never h = never NoQuestion (returns_as new_question 0 0 1 x h ∙ ap reply_told none_there)

  -- ---- no question ever opened
  pub none_opened : (x : Result Reply Reason) → (x ≡ Ok Opened → ⊥) → Asks new_question 0 plain x → ⊥
  none_opened x never h = never (asks_as new_question 0 plain x h ∙ ap reply_told first-opens)

  -- ---- late by a sum that wraps around: a value returned in the same second is late, a new popup does not wait
  pub return_wrapped : (x : Result Reply Reason) → (wrapped_late at_largest 4294967295 ≡ true → x ≡ Ok Expired)
      → Returns at_largest 4294967295 5 1 x → ⊥
  return_wrapped x late h =
      let e = sym (late largest_late) ∙ returns_as at_largest 4294967295 5 1 x h ∙ ap reply_told largest_in_time in
      let z : ◌≡◌ {A = ℕ} 0 1 = cc in omega arith

  pub ask_wrapped : (x : Result Reply Reason) → (wrapped_late at_largest 4294967295 ≡ true → x ≡ Ok Opened)
      → Asks at_largest 4294967295 plain x → ⊥
  ask_wrapped x late h =
      let e = sym (late largest_late) ∙ asks_as at_largest 4294967295 plain x h ∙ ap reply_told largest_open in
      let z : ◌≡◌ {A = ℕ} 0 1 = cc in omega arith

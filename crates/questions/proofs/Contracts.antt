-- The theorem of any calls, of whatever meets the contracts of `ask`, `returned` and `command`, called in turn. `Post` is the contract as
-- the check reads it from the source, and no copy of it. Assumes nothing.
use Rattle.std.specs.Prelude.{Result}
use mathlib.Core.Bool.{true}
use mathlib.Core.List.{List, [], ◌∷◌}
use mathlib.Core.Path.{◌≡◌, refl, ap, ap₂, subst, ◌∙◌}
use contract.Lifetimes.{Lfts}
use borrow.Fn.Kinds.{Dens, ended_of}
use denote.Triple.Clauses.{AtExit}
use Rattle.codec.specs.Sheet.{Answer}
use Rattle.questions.specs.Table.{State, new_state, Call, asks, returns, Told, answers, state_after}
use Rattle.questions.specs.Kept.{told_reply, state_of, in_limits, StepIs, call_of}
use Rattle.questions.specs.Calls.{replies, kept_last}
use Rattle.questions.specs.declared.Question.{Question}
use Rattle.questions.specs.declared.Reason.{Reason}
use Rattle.questions.specs.declared.Reply.{Reply}
use Rattle.questions.proofs.AnyCalls.{any_calls_from}
use Rattle.questions.proofs.Keeps.{new-within}
use Rattle.questions.proofs.Question.new.Reads as new
use Rattle.questions.proofs.Question.new.Kinds as new-kinds
use Rattle.questions.proofs.Question.ask.Reads as ask
use Rattle.questions.proofs.Question.ask.Kinds as ask-kinds
use Rattle.questions.proofs.Question.returned.Reads as returned
use Rattle.questions.proofs.Question.returned.Kinds as returned-kinds
use Rattle.questions.proofs.Question.command.Reads as command
use Rattle.questions.proofs.Question.command.Kinds as command-kinds

-- a call of one of them, each with lifetimes of its own: what it was handed, what it answered and what it left, all that is known of it
-- being its contract
pub data Made : Type 0 where
  asking : (κs : Lfts 1) (a : Dens κs ask-kinds.ps) (r : Result Reply Reason) (t : AtExit (ended_of 1 ask-kinds.ps ask-kinds.r) κs)
      → ask.Post κs a r t → Made
  returning : (κs : Lfts 1) (a : Dens κs returned-kinds.ps) (r : Result Reply Reason)
      (t : AtExit (ended_of 1 returned-kinds.ps returned-kinds.r) κs) → returned.Post κs a r t → Made
  commanding : (κs : Lfts 1) (a : Dens κs command-kinds.ps) (r : Result Reply Reason)
      (t : AtExit (ended_of 1 command-kinds.ps command-kinds.r) κs) → command.Post κs a r t → Made

-- the question that it was handed, the table's call, and the answer
abbrev pub given : Made → Question
given (asking κs a r t m) = a.0.now
given (returning κs a r t m) = a.0.now
given (commanding κs a r t m) = a.0.now

abbrev pub call : Made → Call
call (asking κs a r t m) = asks a.1.0 a.1.1.0
call (returning κs a r t m) = returns a.1.0 a.1.1.0 a.1.1.1.0
call (commanding κs a r t m) = call_of a.1.0 a.1.1.0

abbrev pub reply : Made → Result Reply Reason
reply (asking κs a r t m) = r
reply (returning κs a r t m) = r
reply (commanding κs a r t m) = r

-- and the question that it left
abbrev pub left : Made → Question
left (asking κs a r t m) = t.0.now
left (returning κs a r t m) = t.0.now
left (commanding κs a r t m) = t.0.now

step_is : (k : Made) → StepIs (given k) (call k) (reply k) (left k)
step_is (asking κs a r t m) = m
step_is (returning κs a r t m) = m
step_is (commanding κs a r t m) = m

-- each is handed the question that the one before it left, the first this one
abbrev pub InTurn : Question → List Made → Type 0
InTurn q [] = Unit {0}
InTurn q (k ∷ ks) = (given k ≡ q) × InTurn (left k) ks

-- the calls, what is told, and the question that is left
abbrev pub calls : List Made → List Call
calls [] = []
calls (k ∷ ks) = call k ∷ calls ks

abbrev pub told_by : List Made → List (Answer Told)
told_by [] = []
told_by (k ∷ ks) = told_reply (reply k) ∷ told_by ks

abbrev pub left_by : Question → List Made → Question
left_by q [] = q
left_by q (k ∷ ks) = left_by (left k) ks

as_kept : (ks : List Made) (q : Question) → InTurn q ks → (told_by ks ≡ replies q (calls ks)) × (left_by q ks ≡ kept_last q (calls ks))
as_kept [] q h = (refl, refl)
as_kept (k ∷ ks) q (e, h) =
    let i = subst (λ (p : Question). StepIs p (call k) (reply k) (left k)) e (step_is k) in
    let rest = as_kept ks (left k) h in (
      ap₂ (λ (x : Answer Told) (xs : List (Answer Told)). x ∷ xs) i.reply
          (rest.0 ∙ ap (λ (p : Question). replies p (calls ks)) i.question),
      rest.1 ∙ ap (λ (p : Question). kept_last p (calls ks)) i.question,
    )

-- ---- THE theorem: from any question within its limits they tell the table's answers, and leave the table's state
pub calls-told : (q : Question) → in_limits q ≡ true → (ks : List Made) → InTurn q ks
    → (told_by ks ≡ answers (state_of q) (calls ks)) × (state_of (left_by q ks) ≡ state_after (state_of q) (calls ks))
calls-told q within ks h =
    let k = as_kept ks q h in
    let t = any_calls_from (calls ks) q within in
    (k.0 ∙ t.0, ap state_of k.1 ∙ t.1.0)

-- from what meets the contract of `new`
pub all_told : (ηs : Lfts 0) (a : Dens ηs new-kinds.ps) (q : Question) (t : AtExit (ended_of 0 new-kinds.ps new-kinds.r) ηs)
    → new.Post ηs a q t
    → (ks : List Made) → InTurn q ks
    → (told_by ks ≡ answers new_state (calls ks)) × (state_of (left_by q ks) ≡ state_after new_state (calls ks))
all_told ηs a q t p ks h =
    let k = calls-told q (ap in_limits p ∙ new-within) ks h in
    let e : state_of q ≡ new_state = ap state_of p in (
      k.0 ∙ ap (λ (s : State). answers s (calls ks)) e,
      k.1 ∙ ap (λ (s : State). state_after s (calls ks)) e,
    )

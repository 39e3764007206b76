-- What is kept tells the table's state: a call on it is answered by the table, and what is kept then tells the table's next state.
-- Assumes nothing.
use Prim.Native.Nat.{ℕ}
use mathlib.Core.Bool.{Bool, true, false}
use mathlib.Core.Path.{◌≡◌, refl, ap, ◌∙◌}
use native.Mathlib.Omega.{arith}
use borrow.Author.Tests.{le-leb}
use Rattle.codec.specs.Pick.{pick}
use Rattle.codec.specs.Sheet.{Answer, got, refused}
use Rattle.families.specs.Fields.{inspect, is_got}
use Rattle.families.specs.declared.screen.ScreenPopup.{ScreenPopup}
use Rattle.families.specs.declared.screen.ScreenPopupFields.{ScreenPopupFields}
use Rattle.questions.specs.Table.{new_state, Call, asks, returns, neither, Told, answer, fields_in, after, next}
use Rattle.questions.specs.Kept.{state_of, new_question, in_limits, reply_to, opens, kept_after}
use Rattle.questions.specs.Calls.{kept_next}
use Rattle.questions.specs.declared.Question.{Question}
use Rattle.questions.proofs.Accepted.{asks-accepted}

-- ---- a new one
pub new-state : state_of new_question ≡ new_state
new-state = refl

pub new-within : in_limits new_question ≡ true
new-within = refl

-- ---- one beyond its limits: 5, and it stays as it was
module _ (q : Question) (c : Call) (beyond : in_limits q ≡ false) where
  pub reply-beyond : reply_to q c ≡ refused 5 0
  reply-beyond = ap (λ (b : Bool). pick b (answer (state_of q) c) (refused 5 0)) beyond

  pub kept-beyond : kept_next q c ≡ q
  kept-beyond = ap (kept_after q c) reply-beyond

-- ---- one within its limits
-- whatever is answered, what is kept then tells the state after it
kept-tells : (q : Question) (c : Call) (a : Answer Told) → state_of (kept_after q c a) ≡ after (state_of q) c a
kept-tells q c (refused n p) = refl
kept-tells q (asks second popup) (got t) = refl
kept-tells q (returns second value response) (got t) = refl
kept-tells q neither (got t) = refl

opens-within : (second : ℕ) (popup : ScreenPopup) → inspect popup ≡ got (fields_in popup) → in_limits (opens second popup) ≡ true
opens-within second popup made =
    ap (λ (b : Bool). pick b (is_got (inspect popup)) false) (le-leb second second (omega arith))
    ∙ ap (λ (a : Answer ScreenPopupFields). is_got a) made

kept-within : (q : Question) (c : Call) (a : Answer Told) → in_limits q ≡ true → answer (state_of q) c ≡ a → in_limits (kept_after q c a) ≡ true
kept-within q c (refused n p) h e = h
kept-within q (asks second popup) (got t) h e = opens-within second popup (asks-accepted (state_of q) second popup t e).0
kept-within q (returns second value response) (got t) h e = refl
kept-within q neither (got t) h e = h

module _ (q : Question) (c : Call) (within : in_limits q ≡ true) where
  pub reply-within : reply_to q c ≡ answer (state_of q) c
  reply-within = ap (λ (b : Bool). pick b (answer (state_of q) c) (refused 5 0)) within

  pub state-within : state_of (kept_next q c) ≡ next (state_of q) c
  state-within = ap (λ (a : Answer Told). state_of (kept_after q c a)) reply-within ∙ kept-tells q c (answer (state_of q) c)

  pub stays_within : in_limits (kept_next q c) ≡ true
  stays_within =
      ap (λ (a : Answer Told). in_limits (kept_after q c a)) reply-within ∙ kept-within q c (answer (state_of q) c) within refl

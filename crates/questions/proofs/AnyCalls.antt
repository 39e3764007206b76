-- Document 02, Wish 13: "Over any calls the answers are those of this simple table of open and closed." Assumes nothing.
use mathlib.Core.Bool.{true}
use mathlib.Core.List.{List, [], ◌∷◌}
use mathlib.Core.Path.{◌≡◌, refl, ap, ap₂, ◌∙◌}
use Rattle.codec.specs.Sheet.{Answer}
use Rattle.questions.specs.Table.{State, new_state, Call, Told, answers, state_after}
use Rattle.questions.specs.Kept.{state_of, new_question, in_limits}
use Rattle.questions.specs.Calls.{kept_next, replies, kept_last}
use Rattle.questions.specs.declared.Question.{Question}
use Rattle.questions.proofs.Keeps.{new-within, reply-within, state-within, stays_within}

-- from any question within its limits
pub any_calls_from : (cs : List Call) (q : Question) → in_limits q ≡ true
    → (replies q cs ≡ answers (state_of q) cs)
    × ((state_of (kept_last q cs) ≡ state_after (state_of q) cs) × (in_limits (kept_last q cs) ≡ true))
any_calls_from [] q within = (refl, (refl, within))
any_calls_from (c ∷ cs) q within =
    let e = state-within q c within in
    let rest = any_calls_from cs (kept_next q c) (stays_within q c within) in (
      ap₂ (λ (a : Answer Told) (xs : List (Answer Told)). a ∷ xs) (reply-within q c within)
          (rest.0 ∙ ap (λ (s : State). answers s cs) e),
      (rest.1.0 ∙ ap (λ (s : State). state_after s cs) e, rest.1.1),
    )

-- ---- THE theorem
pub any_calls : (cs : List Call)
    → (replies new_question cs ≡ answers new_state cs)
    × ((state_of (kept_last new_question cs) ≡ state_after new_state cs) × (in_limits (kept_last new_question cs) ≡ true))
any_calls cs = any_calls_from cs new_question new-within

-- A refused call can be left out: no other answer changes, nor does the state. Assumes nothing.
use Prim.Native.Nat.{ℕ}
use mathlib.Core.List.{List, [], ◌∷◌, ◌++◌}
use mathlib.Core.Path.{◌≡◌, refl, ap, ap₂, sym, ◌∙◌}
use Rattle.codec.specs.Sheet.{Answer, refused}
use Rattle.questions.specs.Table.{State, Call, Told, answer, next, answers, state_after}
use Rattle.questions.proofs.Accepted.{refused_stays}

-- ---- calls behind calls
pub answers-behind : (cs ds : List Call) (s : State) → answers s (cs ++ ds) ≡ answers s cs ++ answers (state_after s cs) ds
answers-behind [] ds s = refl
answers-behind (c ∷ cs) ds s = ap (λ (xs : List (Answer Told)). answer s c ∷ xs) (answers-behind cs ds (next s c))

pub state-behind : (cs ds : List Call) (s : State) → state_after s (cs ++ ds) ≡ state_after (state_after s cs) ds
state-behind [] ds s = refl
state-behind (c ∷ cs) ds s = state-behind cs ds (next s c)

-- ---- THE law: the answers behind the refused call are the same with it and without it
pub left_out : (s : State) (cs : List Call) (c : Call) (ds : List Call) (n p : ℕ) → answer (state_after s cs) c ≡ refused n p
    → (xs : List (Answer Told)) × ((answers s (cs ++ c ∷ ds) ≡ answers s cs ++ refused n p ∷ xs)
    × ((answers s (cs ++ ds) ≡ answers s cs ++ xs) × (state_after s (cs ++ c ∷ ds) ≡ state_after s (cs ++ ds))))
left_out s cs c ds n p e =
    let t = state_after s cs in
    let stays = refused_stays t c n p e in (
      answers t ds,
      (
        answers-behind cs (c ∷ ds) s
            ∙ ap₂ (λ (a : Answer Told) (u : State). answers s cs ++ a ∷ answers u ds) e stays,
        (
          answers-behind cs ds s,
          state-behind cs (c ∷ ds) s ∙ ap (λ (u : State). state_after u ds) stays ∙ sym (state-behind cs ds s),
        ),
      ),
    )

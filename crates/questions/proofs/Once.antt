-- Every question that is opened is closed at most once. Assumes nothing.
use Prim.Native.Nat.{ℕ, ◌+◌, ◌≤◌}
use mathlib.Core.Bool.{Bool, true, false}
use mathlib.Core.List.{List, [], ◌∷◌}
use mathlib.Core.Path.{◌≡◌, refl, ap, ◌∙◌}
use native.Mathlib.Omega.{arith}
use Rattle.codec.specs.Pick.{pick}
use Rattle.codec.specs.Sheet.{Answer, got, refused}
use Rattle.codec.specs.Told.{bit}
use Rattle.questions.specs.Table.{closed, accepted, State, new_state, Call, asks, returns, neither, Told, answer, after, answers}
use Rattle.questions.specs.Once.{closing, is_open, closes_once, openings, closings}
use Rattle.questions.proofs.Accepted.{refused-got, asks-accepted, returns-accepted}

-- ---- a call, then any
module _ (s : State) (cs : List Call) (rest : (t : State) → closes_once (is_open t.asked) (answers t cs) ≡ true) where
  once_then : (c : Call) (a : Answer Told) → answer s c ≡ a → closes_once (is_open s.asked) (a ∷ answers (after s c a) cs) ≡ true
  once_then c (refused n p) e = rest s
  once_then (asks second popup) (got t) e =
      ap (λ (u : Told). closes_once (is_open s.asked) (got u ∷ answers (after s (asks second popup) (got t)) cs))
      (asks-accepted s second popup t e).1
      ∙ rest (after s (asks second popup) (got t))
  once_then (returns second value response) (got t) e =
      let h = returns-accepted s second value response t e in
      rw (h.0, h.1) (rest (record { clock = accepted second; asked = closed }))
  once_then neither (got t) e = refused-got 2 0 t e

pub once_from : (cs : List Call) (s : State) → closes_once (is_open s.asked) (answers s cs) ≡ true
once_from [] s = refl
once_from (c ∷ cs) s = once_then s cs (λ t. once_from cs t) c (answer s c) refl

-- ---- THE law: of any calls, a closing comes only while a question is open, and after it none until the next opens
pub once : (cs : List Call) → closes_once false (answers new_state cs) ≡ true
once cs = once_from cs new_state

-- ---- by count
module _ (xs : List (Answer Told)) (rest : (b : Bool) → closes_once b xs ≡ true → closings xs ≤ openings xs + bit b) where
  counted_then : (k b : Bool) → pick k (pick b (closes_once false xs) false) (closes_once true xs) ≡ true
      → pick k (closings xs + 1) (closings xs) ≤ pick k (openings xs) (openings xs + 1) + bit b
  counted_then true true h = let l = rest false h in omega arith
  counted_then true false h = let z : ◌≡◌ {A = ℕ} 0 1 = cc in absurd (omega arith)
  counted_then false b h = let l = rest true h in omega arith

counted : (xs : List (Answer Told)) (b : Bool) → closes_once b xs ≡ true → closings xs ≤ openings xs + bit b
counted [] b h = omega arith
counted (refused n p ∷ xs) b h = counted xs b h
counted (got t ∷ xs) b h = counted_then xs (λ d g. counted xs d g) (closing t) b h

-- of any calls, at most as many close a question as open one
pub closings-openings : (cs : List Call) → closings (answers new_state cs) ≤ openings (answers new_state cs)
closings-openings cs = let l = counted (answers new_state cs) false (once cs) in omega arith

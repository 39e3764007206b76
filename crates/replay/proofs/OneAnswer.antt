-- Any two answers that a public function's contract allows coincide. `Post` is the contract as the check reads it from the source, and no
-- copy of it. Assumes nothing.
use mathlib.Core.Path.{◌≡◌, sym, ◌∙◌}
use contract.Lifetimes.{Lfts}
use borrow.Fn.Kinds.{Dens, res_t, ended_of}
use denote.Triple.Clauses.{AtExit}
use Rattle.codec.proofs.Outcomes.{gives_one}
use Rattle.replay.specs.Step.{step_of}
use Rattle.replay.proofs.Replay.new.Reads as new
use Rattle.replay.proofs.Replay.new.Kinds as new-kinds
use Rattle.replay.proofs.Replay.next.Reads as next
use Rattle.replay.proofs.Replay.next.Kinds as next-kinds

pub new_one : (κs : Lfts 0) (a : Dens κs new-kinds.ps) (x y : (res_t new-kinds.r κs).Denot) (s t : AtExit (ended_of 0 new-kinds.ps new-kinds.r) κs)
    → new.Post κs a x s → new.Post κs a y t → x ≡ y
new_one κs a x y s t p q = p ∙ sym q

pub next_one : (κs : Lfts 1) (a : Dens κs next-kinds.ps) (x y : (res_t next-kinds.r κs).Denot)
    (s t : AtExit (ended_of 1 next-kinds.ps next-kinds.r) κs)
    → next.Post κs a x s → next.Post κs a y t → x ≡ y
next_one κs a x y s t p q = gives_one _ (step_of a.0 a.1.0 a.1.1.0.now).says x y p q

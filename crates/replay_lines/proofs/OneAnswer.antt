-- Any two answers that a public function's contract allows coincide, and so do the bytes that it leaves in a lent slice. `Post` is
-- the contract as the check reads it from the source, and no copy of it. Assumes nothing.
use mathlib.Core.Path.{◌≡◌, sym, ◌∙◌}
use contract.Lifetimes.{Lfts}
use borrow.Fn.Kinds.{Dens, res_t, ended_of}
use denote.Triple.Clauses.{AtExit}
use Rattle.codec.proofs.Outcomes.{gives_one}
use Rattle.codec.proofs.Writes.{written_fixed}
use Rattle.replay_lines.proofs.list_block.Reads as list-block
use Rattle.replay_lines.proofs.list_block.Kinds as list-block-kinds
use Rattle.replay_lines.proofs.put_end.Reads as put-end
use Rattle.replay_lines.proofs.put_end.Kinds as put-end-kinds

pub list_block_one : (κs : Lfts 2) (a : Dens κs list-block-kinds.ps) (x y : (res_t list-block-kinds.r κs).Denot)
    (s t : AtExit (ended_of 2 list-block-kinds.ps list-block-kinds.r) κs)
    → list-block.Post κs a x s → list-block.Post κs a y t → (x ≡ y) × (s.1.1.1.0.now ≡ t.1.1.1.0.now)
list_block_one κs a x y s t p q = (gives_one _ _ x y p.gives q.gives, p.leaves ∙ sym q.leaves)

pub put_end_one : (κs : Lfts 1) (a : Dens κs put-end-kinds.ps) (x y : (res_t put-end-kinds.r κs).Denot)
    (s t : AtExit (ended_of 1 put-end-kinds.ps put-end-kinds.r) κs)
    → put-end.Post κs a x s → put-end.Post κs a y t → (x ≡ y) × (s.1.0.now ≡ t.1.0.now)
put_end_one κs a x y s t p q = (written_fixed x y _ p.0 q.0, p.1 ∙ sym q.1)

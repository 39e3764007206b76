-- Any two answers that a public function's contract allows coincide, and so do the bytes that it leaves. `Post` is the contract as the
-- check reads it from the source, and no copy of it. Assumes nothing.
use mathlib.Core.Path.{◌≡◌, sym, ◌∙◌}
use contract.Lifetimes.{Lfts}
use borrow.Fn.Kinds.{Dens, res_t, ended_of}
use denote.Triple.Clauses.{AtExit}
use Rattle.edits.proofs.edit.Reads as edit
use Rattle.edits.proofs.edit.Kinds as edit-kinds
use Rattle.edits.proofs.edit_list.Reads as edit-list
use Rattle.edits.proofs.edit_list.Kinds as edit-list-kinds

pub edit_one : (κs : Lfts 1) (a : Dens κs edit-kinds.ps) (x y : (res_t edit-kinds.r κs).Denot)
    (s t : AtExit (ended_of 1 edit-kinds.ps edit-kinds.r) κs)
    → edit.Post κs a x s → edit.Post κs a y t → (x ≡ y) × (s.0.now ≡ t.0.now)
edit_one κs a x y s t p q = (p.0 ∙ sym q.0, p.1 ∙ sym q.1)

pub edit_list_one : (κs : Lfts 3) (a : Dens κs edit-list-kinds.ps) (x y : (res_t edit-list-kinds.r κs).Denot)
    (s t : AtExit (ended_of 3 edit-list-kinds.ps edit-list-kinds.r) κs)
    → edit-list.Post κs a x s → edit-list.Post κs a y t → (x ≡ y) × ((s.0.now ≡ t.0.now) × (s.1.1.0.now ≡ t.1.1.0.now))
edit_list_one κs a x y s t p q = (p.0 ∙ sym q.0, (p.1.0 ∙ sym q.1.0, p.1.1 ∙ sym q.1.1))

-- Any two answers that the contract of an exported function of edits allows coincide, and so do the bytes that it leaves. `Post` is the
-- contract as the check reads it from the source, and no copy of it. Assumes nothing.
use mathlib.Core.Path.{◌≡◌, sym, ◌∙◌}
use Rattle.images.proofs.AnyTwo.{AnyTwo, told-twice}
use Rattle.crsf.proofs.edit.crsf_edit.Reads as edit
use Rattle.crsf.proofs.edit.crsf_edit.Kinds as edit-kinds
use Rattle.crsf.proofs.edit.crsf_edit_list.Reads as edit-list
use Rattle.crsf.proofs.edit.crsf_edit_list.Kinds as edit-list-kinds

pub edit_one : AnyTwo 1 edit-kinds.ps edit-kinds.r edit.Post (λ κs x y s t. (x ≡ y) × (s.0.now ≡ t.0.now))
edit_one κs a x y s t p q = told-twice p q

pub edit_list_one : AnyTwo 3 edit-list-kinds.ps edit-list-kinds.r edit-list.Post
    (λ κs x y s t. (x ≡ y) × ((s.0.now ≡ t.0.now) × (s.1.1.0.now ≡ t.1.1.0.now)))
edit_list_one κs a x y s t p q = (p.0 ∙ sym q.0, (p.1.0 ∙ sym q.1.0, p.1.1 ∙ sym q.1.1))

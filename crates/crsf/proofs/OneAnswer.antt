-- Any two answers that an exported function's contract allows coincide. `Post` is the contract as the check reads it from the
-- source, and no copy of it. Assumes nothing.
use mathlib.Core.Path.{◌≡◌, sym, ◌∙◌}
use Rattle.images.proofs.AnyTwo.{AnyTwo}
use Rattle.crsf.proofs.crsf_check.Reads as check
use Rattle.crsf.proofs.crsf_check.Kinds as check-kinds

pub check_one : AnyTwo 1 check-kinds.ps check-kinds.r check.Post (λ κs x y s t. x ≡ y)
check_one κs a x y s t p q = p ∙ sym q

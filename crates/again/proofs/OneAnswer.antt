-- Any two answers that the contract allows coincide, and so do the bytes left in the lent slice. `Post` is the contract as the check
-- reads it from the source, and no copy of it. Assumes nothing.
use mathlib.Core.Path.{◌≡◌}
use Rattle.images.proofs.AnyTwo.{AnyTwo, told-twice}
use Rattle.again.proofs.command_again.Reads as again
use Rattle.again.proofs.command_again.Kinds as again-kinds

pub again_one : AnyTwo 2 again-kinds.ps again-kinds.r again.Post (λ κs x y s t. (x ≡ y) × (s.1.0.now ≡ t.1.0.now))
again_one κs a x y s t p q = told-twice p q

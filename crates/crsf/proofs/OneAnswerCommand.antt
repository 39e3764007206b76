-- Any two answers that the contract of an exported function of whole commands allows coincide, and so do the bytes handed out. `Post` is
-- the contract as the check reads it from the source, and no copy of it. Assumes nothing.
use mathlib.Core.Path.{◌≡◌}
use Rattle.images.proofs.AnyTwo.{AnyTwo, told-twice}
use Rattle.crsf.proofs.command.crsf_read.Reads as read
use Rattle.crsf.proofs.command.crsf_read.Kinds as read-kinds
use Rattle.crsf.proofs.command.crsf_write.Reads as write
use Rattle.crsf.proofs.command.crsf_write.Kinds as write-kinds

pub read_one : AnyTwo 2 read-kinds.ps read-kinds.r read.Post (λ κs x y s t. (x ≡ y) × (s.1.0.now ≡ t.1.0.now))
read_one κs a x y s t p q = told-twice p q

pub write_one : AnyTwo 2 write-kinds.ps write-kinds.r write.Post (λ κs x y s t. (x ≡ y) × (s.1.0.now ≡ t.1.0.now))
write_one κs a x y s t p q = told-twice p q

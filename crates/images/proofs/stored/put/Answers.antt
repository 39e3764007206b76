-- Stored bytes' image at the front, or no room for it. Assumes nothing.
use Prim.Native.Nat.{suc}
use mathlib.Core.Path.{refl}
use native.Mathlib.Omega.{arith}
use lib.ListN.{length}
use Rattle.images.specs.Text.{stored}
use Rattle.images.proofs.TextLaws.{front_put, front_not}
use Rattle.images.proofs.stored.put.Goals as goal

pub returns-then-out-bytes : goal.returns-then-out-bytes
returns-then-out-bytes c =
    let bytes = c.args.bytes.now in
    front_not c.args.out.now (stored c.args.len bytes) (suc (length bytes)) refl (omega (arith, c.if-out-bytes.true))

pub returns : goal.returns
returns c =
    let bytes = c.args.bytes.now in
    front_put c.args.out.now _ (stored c.args.len bytes) (suc (length bytes)) refl
    (omega (arith, c.if-out-bytes.false)) c.put_at.ensures

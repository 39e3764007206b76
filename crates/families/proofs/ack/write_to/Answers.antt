-- The information cut at the length that was given. Assumes nothing.
use mathlib.Core.Path.{sym}
use native.Mathlib.Omega.{arith}
use lib.Seq.{take_all, length-take-le}
use Rattle.families.proofs.ack.write_to.Goals as goal

pub slice_bounds-write_all-end : goal.slice_bounds-write_all-end
slice_bounds-write_all-end c = sym (length-take-le _ _ (omega arith))

pub returns-then-len-bytes : goal.returns-then-len-bytes
returns-then-len-bytes c = c.write_all.ensures

pub returns-else-len-bytes : goal.returns-else-len-bytes
returns-else-len-bytes c =
    rw (take_all c.args.len c.args.bytes.now c.if-len-bytes.false) c.write_all-else-len-bytes.ensures

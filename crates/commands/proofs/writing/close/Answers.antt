-- `writing::close` meets its contract. Assumes nothing.
use Prim.Native.Nat.{◌+◌, ◌<◌}
use mathlib.Core.Path.{sym}
use native.Mathlib.Omega.{arith}
use lib.ListN.{set, length, length-set}
use lib.Seq.{length-take-le}
use Rattle.commands.proofs.writing.close.Goals as goal

pub bounds-buffer-1 : goal.bounds-buffer-1
bounds-buffer-1 c = let h : 1 < length (set c.args.buffer.now 0 c.args.dst) =
    rw length-set (omega (arith, c.requires)) in h

pub bounds-buffer-2 : goal.bounds-buffer-2
bounds-buffer-2 c = let h : 2 < length (set (set c.args.buffer.now 0 c.args.dst) 1
    c.args.src) = simp length-set (omega (arith, c.requires)) in h

pub slice_bounds-payload_check-end-2 : goal.slice_bounds-payload_check-end-2
slice_bounds-payload_check-end-2 c =
    sym (length-take-le (c.args.n + 4)
    (set (set (set c.args.buffer.now 0 c.args.dst) 1
    c.args.src) 2 c.args.id) (simp length-set c.requires))

pub bounds-buffer-n : goal.bounds-buffer-n
bounds-buffer-n c = let h : c.args.n + 3 < length
    (set (set (set c.args.buffer.now 0 c.args.dst) 1
    c.args.src) 2 c.args.id) = simp length-set
    (omega (arith, c.requires)) in h

pub returns : goal.returns
returns c = rw c.payload_check-check.ensures

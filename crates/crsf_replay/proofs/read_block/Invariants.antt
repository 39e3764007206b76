-- `read_block` meets its contract: what was read so far stands in the block. Assumes nothing.
use Prim.Native.Nat.{◌-◌, ◌≤◌}
use mathlib.Core.Path.{◌≡◌}
use lib.ListN.{length}
use Rattle.crsf_replay.proofs.read_block.Given as goal

abbrev pub invariant-loop-len : goal.invariant-loop-len
invariant-loop-len l = (l.len ≤ length l.block) × (length l.block ≡ length l.initial.block)

abbrev pub decreases-loop-len : goal.decreases-loop-len
decreases-loop-len l = length l.initial.block - l.len

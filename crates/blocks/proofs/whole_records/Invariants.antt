-- `whole_records` meets its contract. The loop's invariant: the answer is that of the records from `at` on. The measure is what is left of
-- the used bytes. Assumes nothing.
use Prim.Native.Nat.{◌-◌}
use mathlib.Core.Path.{◌≡◌}
use Rattle.blocks.specs.Steps.{whole_from, whole_records}
use Rattle.blocks.proofs.whole_records.Given as goal

abbrev pub invariant-loop-at : goal.invariant-loop-at
invariant-loop-at l = whole_records l.block l.end ≡ whole_from l.block l.end l.at

abbrev pub decreases-loop-at : goal.decreases-loop-at
decreases-loop-at l = l.end - l.at

-- `try_steps` meets its contract: each step goes on in the block, up to the last or the one that refuses. Assumes nothing.
use Prim.Native.Nat.{◌-◌}
use mathlib.Core.List.{List}
use Rattle.replay.specs.declared.Event.{Event}
use Rattle.replay_lines.proofs.Stepping.{Going}
use Rattle.replay_lines.proofs.try_steps.Given as goal

abbrev pub invariant-loop-step : goal.invariant-loop-step
invariant-loop-step l = (so_far : List Event) × Going l.initial.at l.position l.block l.at so_far

abbrev pub decreases-loop-step : goal.decreases-loop-step
decreases-loop-step l = 512 - l.at.place

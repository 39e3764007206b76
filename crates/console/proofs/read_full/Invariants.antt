use Rattle.std.proofs.Common.{length, ◌-◌, ◌≤◌}
use Rattle.console.proofs.read_full.Given as goal

-- what is there already is within the room
abbrev pub invariant-loop-done : goal.invariant-loop-done
invariant-loop-done l = l.done ≤ length l.input

-- each turn fills some of what is left
abbrev pub decreases-loop-done : goal.decreases-loop-done
decreases-loop-done l = length l.initial.input - l.done

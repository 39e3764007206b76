-- `list_steps` meets its contract: the loop keeps `Listing`, and each of its ends is a law of it. Assumes nothing.
use Prim.Native.Nat.{◌-◌}
use Rattle.replay_lines.proofs.Listing.{Listing}
use Rattle.replay_lines.proofs.list_steps.Given as goal

abbrev pub invariant-loop-lines : goal.invariant-loop-lines
invariant-loop-lines l = Listing l.initial.lines.state l.position l.block l.initial.text l.lines.state l.lines.len l.text

abbrev pub decreases-loop-lines : goal.decreases-loop-lines
decreases-loop-lines l = 512 - l.lines.state.place

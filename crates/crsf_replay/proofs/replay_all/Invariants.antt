-- `replay_all` meets its contract: the state is that after the blocks read. Assumes nothing.
use mathlib.Core.Path.{◌≡◌}
use lib.ListN.{length}
use Rattle.replay_lines.specs.Replays.{After}
use Rattle.crsf_replay.proofs.replay_all.Given as goal

abbrev pub invariant-loop-position : goal.invariant-loop-position
invariant-loop-position l =
    After l.position l.state × ((length l.text ≡ length l.initial.text) × (length l.block ≡ length l.initial.block))

-- `replay_all` meets its contract: the state is that after the blocks read. Assumes nothing.
use lib.ListN.{take}
use Rattle.replay_lines.proofs.Replays.{after_more}
use borrow.Author.Rules.{rules}
use Rattle.crsf_replay.proofs.replay_all.Goals as goal

pub close-requires-then-len-lt-BLOCK_SIZE : goal.close-requires-then-len-lt-BLOCK_SIZE
close-requires-then-len-lt-BLOCK_SIZE c =
    (search rules, after_more c.loop-position.invariant.0 (take c.in_ok-len.len c.read_block.new.block) _ c.replay_block.ensures)

pub loop-position-preserved : goal.loop-position-preserved
loop-position-preserved c =
    (after_more c.loop-position.invariant.0 (take c.in_ok-len.len c.read_block.new.block) _ c.replay_block.ensures, search rules)

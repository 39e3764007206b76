-- `replay_block` meets its contract: what is handed to be written is the text of the block's events. Assumes nothing.
use Rattle.replay_lines.proofs.Replays.{block-state, block-handed, block_not_refused}
use Rattle.crsf_replay.proofs.replay_block.Goals as goal

pub write_block-requires : goal.write_block-requires
write_block-requires c =
    let given = c.args in (
      c.requires.1,
      (block-handed c.requires.1 given.block.now given.text.now _ c.requires.0 c.in-Ok.lines c.in-Ok.ensures).bytes,
    )

pub returns-in-Ok : goal.returns-in-Ok
returns-in-Ok c =
    let given = c.args in
    block-state c.requires.1 given.block.now given.text.now _ c.requires.0 c.in-Ok.lines c.in-Ok.ensures

-- no block is refused
pub returns-in-Err : goal.returns-in-Err
returns-in-Err c =
    let given = c.args in
    absurd (block_not_refused c.requires.1 given.block.now given.text.now _ c.requires.0 c.in-Err.field-0 c.in-Err.ensures)

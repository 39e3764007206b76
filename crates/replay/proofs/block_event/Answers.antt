-- `block_event` meets its contract. Assumes nothing.
use Rattle.replay.proofs.block_event.Goals as goal

pub returns : goal.returns
returns c = rw c.blank.ensures

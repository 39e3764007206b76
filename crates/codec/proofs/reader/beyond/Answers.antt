-- `reader::beyond` meets its contract. Assumes nothing.
use Rattle.codec.proofs.Writes.{beyond-short, beyond_is}
use Rattle.codec.proofs.reader.beyond.Goals as goal

pub returns-then-len-n : goal.returns-then-len-n
returns-then-len-n c = beyond-short _ _ _ c.if-len-n.true

pub returns-else-len-n : goal.returns-else-len-n
returns-else-len-n c = beyond_is _ _ _ c.if-len-n.false

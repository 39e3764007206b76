-- `writer::room_for` meets its contract. Assumes nothing.
use borrow.Author.Tests.{lt-ltb, le-ltb}
use Rattle.codec.proofs.writer.room_for.Goals as goal

pub returns-then-room-n : goal.returns-then-room-n
returns-then-room-n c = rw (lt-ltb _ _ c.if-room-n.true)

pub returns-else-room-n : goal.returns-else-room-n
returns-else-room-n c = rw (le-ltb _ _ c.if-room-n.false)

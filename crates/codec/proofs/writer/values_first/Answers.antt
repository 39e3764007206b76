-- `writer::values_first` meets its contract. Assumes nothing.
use Rattle.codec.proofs.writer.values_first.Goals as goal

pub returns-then-ok : goal.returns-then-ok
returns-then-ok c = rw c.if-ok.true c.room_for.ensures

pub returns-else-ok : goal.returns-else-ok
returns-else-ok c = rw c.if-ok.false

-- `writer::put_number` meets its contract. Assumes nothing.
use mathlib.Core.Path.{sym}
use Rattle.codec.proofs.Writes.{test_true, test_false, put_number_not, put_number_is}
use Rattle.codec.proofs.writer.put_number.Goals as goal

pub returns-then-beyond : goal.returns-then-beyond
returns-then-beyond c = sym (put_number_not c.args.buffer.now _ _ _ _
    c.bytes_of-count.ensures.0 (test_true _ _ _ c.beyond.ensures c.if-beyond.true))

pub returns : goal.returns
returns c = put_number_is c.args.buffer.now c.args.at _ c.args.value _ c.bytes_of-count.ensures
    (test_false _ _ _ c.beyond.ensures c.if-beyond.false)
    (rw c.to_be_bytes-digits.ensures at c.copy_from_slice.ensures.after)

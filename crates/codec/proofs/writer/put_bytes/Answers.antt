-- `writer::put_bytes` meets its contract. Assumes nothing.
use mathlib.Core.Path.{refl, sym}
use Rattle.codec.proofs.Writes.{test_true, test_false, put-not, put_part}
use Rattle.codec.proofs.writer.put_bytes.Goals as goal

pub returns-then-beyond : goal.returns-then-beyond
returns-then-beyond c = sym (put-not c.args.buffer.now _
    c.args.bytes.now
    (test_true _ _ _ c.beyond.ensures c.if-beyond.true))

pub returns : goal.returns
returns c = rw c.copy_from_slice.ensures.after (put_part c.args.buffer.now c.args.at c.args.bytes.now refl
    (test_false _ _ _ c.beyond.ensures c.if-beyond.false))

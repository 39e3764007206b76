-- `reader::read_number` meets its contract. Assumes nothing.
use mathlib.Core.Path.{sym}
use borrow.Author.Tests.{lt-ltb, le-ltb}
use Rattle.codec.proofs.Items.{number_missing, number-there}
use Rattle.codec.proofs.Writes.{test_false}
use Rattle.codec.proofs.reader.read_number.Goals as goal

pub returns-then-beyond : goal.returns-then-beyond
returns-then-beyond c = (
  sym (number_missing _ _ _ c.args.bytes.now _ _ _
      c.bytes_of-count.ensures c.beyond.ensures c.if-beyond.true),
  tt,
)

pub number_at-n-requires : goal.number_at-n-requires
number_at-n-requires c = (test_false _ _ _ c.beyond.ensures c.if-beyond.false, c.bytes_of-count.ensures.1.1)

pub returns-then-n-low : goal.returns-then-n-low
returns-then-n-low c = (
  rw (
    number-there _ _ _ c.args.bytes.now _ _ _ _ c.bytes_of-count.ensures.0
        c.beyond.ensures c.if-beyond.false c.number_at-n.ensures,
    lt-ltb _ _ c.if-n-low.true,
  ),
  tt,
)

pub returns-then-high-n : goal.returns-then-high-n
returns-then-high-n c = (
  rw (
    number-there _ _ _ c.args.bytes.now _ _ _ _ c.bytes_of-count.ensures.0
        c.beyond.ensures c.if-beyond.false c.number_at-n.ensures,
    le-ltb _ _ c.if-n-low.false,
    lt-ltb _ _ c.if-high-n.true,
  ),
  tt,
)

pub returns : goal.returns
returns c = (
  rw (
    number-there _ _ _ c.args.bytes.now _ _ _ _ c.bytes_of-count.ensures.0
        c.beyond.ensures c.if-beyond.false c.number_at-n.ensures,
    le-ltb _ _ c.if-n-low.false,
    le-ltb _ _ c.if-high-n.false,
  ),
  c.if-high-n.false,
)

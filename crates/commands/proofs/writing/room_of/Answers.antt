-- `writing::room_of` meets its contract. Assumes nothing.
use native.Mathlib.Omega.{arith}
use borrow.Author.Tests.{lt-leb, le-leb}
use Rattle.commands.proofs.writing.room_of.Goals as goal

pub returns-then-n-gt-MAX_PAYLOAD_SIZE : goal.returns-then-n-gt-MAX_PAYLOAD_SIZE
returns-then-n-gt-MAX_PAYLOAD_SIZE c = (rw (lt-leb c.args.n 60 c.if-n-gt-MAX_PAYLOAD_SIZE.true), (omega arith, omega arith))

pub returns : goal.returns
returns c = (rw (le-leb c.args.n 60 c.if-n-gt-MAX_PAYLOAD_SIZE.false), (omega (arith, c.requires), omega arith))

-- What stands before the first colour needs room; then it is judged, and needs its own. Assumes nothing.
use borrow.Author.Tests.{lt-ltb, le-ltb}
use Rattle.families.proofs.led.judge_first.Goals as goal

pub returns-then-room-before : goal.returns-then-room-before
returns-then-room-before c = rw (lt-ltb c.args.room c.args.before c.if-room-before.true)

pub returns : goal.returns
returns c = rw (
  le-ltb c.args.room c.args.before
      c.if-room-before.false,
  ← c.valid.ensures,
) c.values_first.ensures

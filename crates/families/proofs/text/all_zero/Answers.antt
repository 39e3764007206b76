-- What was seen so far is zero exactly where all of it is. Assumes nothing.
use mathlib.Core.Path.{◌∙◌}
use Rattle.families.proofs.Stored.{zeros-on}
use Rattle.families.proofs.text.all_zero.Goals as goal

pub loop-byte-preserved : goal.loop-byte-preserved
loop-byte-preserved c = c.loop-byte.invariant ∙ zeros-on c.args.s.now
    c.loop-byte.byte-index c.loop-byte.seen c.loop-byte-test.true

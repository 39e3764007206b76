-- `vtx::in_band` meets its contract. Assumes nothing.
-- The frequency test is the sheet's range. Assumes nothing.
use native.Mathlib.Omega.{arith}
use borrow.Author.Tests.{lt-ltb, le-ltb}
use Rattle.families.proofs.vtx.in_band.Goals as goal

pub returns-then-f-lt-LOWEST_FREQUENCY : goal.returns-then-f-lt-LOWEST_FREQUENCY
returns-then-f-lt-LOWEST_FREQUENCY c = rw (lt-ltb c.args.f 5000 (omega (arith, c.if-f-lt-LOWEST_FREQUENCY.true)))

pub returns-then-f-gt-HIGHEST_FREQUENCY : goal.returns-then-f-gt-HIGHEST_FREQUENCY
returns-then-f-gt-HIGHEST_FREQUENCY c = rw (
  le-ltb c.args.f 5000 (omega (arith, c.if-f-lt-LOWEST_FREQUENCY.false)),
  lt-ltb 6000 c.args.f (omega (arith, c.if-f-gt-HIGHEST_FREQUENCY.true)),
)

pub returns : goal.returns
returns c = rw (
  le-ltb c.args.f 5000 (omega (arith, c.if-f-lt-LOWEST_FREQUENCY.false)),
  le-ltb 6000 c.args.f (omega (arith, c.if-f-gt-HIGHEST_FREQUENCY.false)),
)

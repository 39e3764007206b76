-- `led::valid` meets its contract. Assumes nothing.
-- The colour tests are the sheet's ranges. Assumes nothing.
use native.Mathlib.Omega.{arith}
use Rattle.codec.proofs.Items.{ltb-zero}
use borrow.Author.Tests.{lt-ltb, le-ltb}
use Rattle.families.proofs.led.valid.Goals as goal

pub returns-then-color-gt-HIGHEST_HUE : goal.returns-then-color-gt-HIGHEST_HUE
returns-then-color-gt-HIGHEST_HUE c = simp (ltb-zero, lt-ltb 359 c.args.color.hue (omega (arith, c.if-color-gt-HIGHEST_HUE.true)))

pub returns-then-color-gt-HIGHEST_SATURATION : goal.returns-then-color-gt-HIGHEST_SATURATION
returns-then-color-gt-HIGHEST_SATURATION c = simp (
  ltb-zero,
  le-ltb 359 c.args.color.hue
      (omega (arith, c.if-color-gt-HIGHEST_HUE.false)),
  lt-ltb 100 c.args.color.saturation
      (omega (arith, c.if-color-gt-HIGHEST_SATURATION.true)),
)

pub returns-then-color-gt-HIGHEST_VALUE : goal.returns-then-color-gt-HIGHEST_VALUE
returns-then-color-gt-HIGHEST_VALUE c =
    simp (
      ltb-zero,
      le-ltb 359 c.args.color.hue (omega (arith, c.if-color-gt-HIGHEST_HUE.false)),
      le-ltb 100 c.args.color.saturation (omega (arith, c.if-color-gt-HIGHEST_SATURATION.false)),
      lt-ltb 100 c.args.color.value (omega (arith, c.if-color-gt-HIGHEST_VALUE.true)),
    )

pub returns : goal.returns
returns c =
    simp (
      ltb-zero,
      le-ltb 359 c.args.color.hue (omega (arith, c.if-color-gt-HIGHEST_HUE.false)),
      le-ltb 100 c.args.color.saturation (omega (arith, c.if-color-gt-HIGHEST_SATURATION.false)),
      le-ltb 100 c.args.color.value (omega (arith, c.if-color-gt-HIGHEST_VALUE.false)),
    )

-- After so many turns s is what as many steps make of r. Assumes nothing.
use mathlib.Core.Path.{refl, ap, ◌∙◌}
use native.Mathlib.Numerals.{add-one}
use Rattle.crc.specs.Check.{command_polynomial}
use Rattle.crc.specs.Steps.{step, steps}
use Rattle.crc.proofs.eight_steps.Goals as goal

pub loop-init : goal.loop-init
unfolding steps
loop-init c = refl

pub loop-preserved : goal.loop-preserved
unfolding steps
loop-preserved c = rw add-one (c.shift-s.ensures ∙ ap (step command_polynomial) c.loop.invariant)

-- After so many turns s is what as many times eight steps make of r. Assumes nothing.
use mathlib.Core.Path.{refl, ap, ◌∙◌}
use Rattle.crc.specs.Check.{command_polynomial}
use Rattle.crc.specs.Steps.{steps}
use Rattle.crc.proofs.Zeros.{eight_more}
use Rattle.crc.proofs.turns.Goals as goal

pub loop-init : goal.loop-init
unfolding steps
loop-init c = refl

pub loop-preserved : goal.loop-preserved
loop-preserved c =
    c.eight_steps-s.ensures ∙ ap (steps command_polynomial 8) c.loop.invariant ∙ eight_more command_polynomial _ _

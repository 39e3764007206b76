-- After so many turns s is what as many steps make of r. Assumes nothing.
use mathlib.Core.Path.{◌≡◌}
use Rattle.crc.specs.Check.{command_polynomial}
use Rattle.crc.specs.Steps.{steps}
use Rattle.crc.proofs.eight_steps.Given as goal

abbrev pub invariant-loop : goal.invariant-loop
invariant-loop l = l.s ≡ steps command_polynomial l.counter l.r

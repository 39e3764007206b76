-- After so many turns s is what as many times eight steps make of r. Assumes nothing.
use mathlib.Core.Path.{◌≡◌}
use Prim.Native.Nat.{◌*◌}
use Rattle.crc.specs.Check.{command_polynomial}
use Rattle.crc.specs.Steps.{steps}
use Rattle.crc.proofs.turns.Given as goal

abbrev pub invariant-loop : goal.invariant-loop
invariant-loop l = l.s ≡ steps command_polynomial (8 * l.counter) l.r

-- What is left of the bytes, from r, has the check of all of them. Assumes nothing.
use mathlib.Core.Path.{◌≡◌}
use lib.ListN.{drop}
use Rattle.crc.specs.Check.{command_polynomial}
use Rattle.crc.specs.Steps.{worked}
use Rattle.crc.proofs.check.Given as goal

abbrev pub invariant-loop-byte : goal.invariant-loop-byte
invariant-loop-byte l = worked command_polynomial l.start l.bytes ≡ worked command_polynomial l.r (drop l.byte-index l.bytes)

-- A colour's fields are those of the number of its bytes. Assumes nothing.
use native.Mathlib.Nat.{div-one}
use Rattle.families.proofs.led.unpacked.Goals as goal

pub returns : goal.returns
returns c = rw (div-one c.args.n)

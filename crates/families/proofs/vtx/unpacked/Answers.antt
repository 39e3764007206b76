-- The pit byte's fields are its number's, bit 7 ignored. Assumes nothing.
use mathlib.Core.Path.{◌∙◌}
use native.Mathlib.Nat.{div-one}
use Rattle.families.proofs.Pit.{bit-of}
use Rattle.families.proofs.vtx.unpacked.Goals as goal

pub returns : goal.returns
returns c = c.enable_pit.ensures ∙ rw (bit-of c.args.byte, div-one c.args.byte)

-- Reading a VTX body is reading its sheet; the pit byte is one item of three values. Assumes nothing.
use mathlib.Core.Path.{ap}
use Rattle.codec.specs.Sheet.{got}
use Rattle.codec.proofs.Outcomes.{err_is}
use Rattle.families.proofs.Pit.{pit-got, pit-not}
use Rattle.families.proofs.vtx.read.Goals as goal

pub returns-in_err-read_byte-in-4 : goal.returns-in_err-read_byte-in-4
returns-in_err-read_byte-in-4 c =
    rw (
      err_is _ _ c.from_residual-in_err-read_byte-in-4.ensures,
      ← c.in_ok-read_byte.ensures.0,
      c.in-4.is,
      pit-not _ _ c.in_err-read_byte-in-4.ensures.0,
    )

pub returns-in_ok-read_byte-in-4 : goal.returns-in_ok-read_byte-in-4
returns-in_ok-read_byte-in-4 c =
    rw (
      ← c.in_ok-read_byte.ensures.0,
      c.in-4.is,
      pit-got _ _ c.in_ok-read_byte-in-4.ensures.0,
    )
    (ap got c.unpacked.ensures)

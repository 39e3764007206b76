-- `led::take_color` meets its contract. Assumes nothing.
use Rattle.codec.proofs.Outcomes.{err_is}
use Rattle.families.proofs.Colour.{colour_got, colour_bad, colour_not}
use Rattle.families.proofs.led.take_color.Goals as goal

pub returns-in_err-u24 : goal.returns-in_err-u24
returns-in_err-u24 c = rw (err_is _ _ c.from_residual.ensures) (colour_not _ _ c.in_err-u24.ensures.0.0)

pub returns-then-valid : goal.returns-then-valid
returns-then-valid c = (
  colour_got _ _ _ _ c.in_ok-u24.ensures.0.0 c.unpacked-color.ensures c.valid.ensures c.if-valid.true,
  c.in_ok-u24.ensures.0.1,
)

pub returns-else-valid : goal.returns-else-valid
returns-else-valid c = colour_bad _ _ _ _ c.in_ok-u24.ensures.0.0 c.unpacked-color.ensures c.valid.ensures c.if-valid.false

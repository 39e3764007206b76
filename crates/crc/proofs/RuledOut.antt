-- Wrong answers that the contracts of the public functions rule out: the definition that the contract names, worked out for an input
-- where the wrong answer would be another. That no other answer is allowed there is in OneAnswer.antt. Of `payload_check` see
-- must-fail. Assumes nothing.
use mathlib.Core.List.{[], ◌∷◌}
use mathlib.Core.Path.{◌≡◌, refl}
use lib.ListN.{replicate}
use Rattle.crc.specs.Polynomial.{remainder}
use Rattle.crc.specs.Check.{command_polynomial, check_from}

-- ---- check (and must-fail/other_polynomial)
-- the start is used: of no bytes the check is the start
pub check_of_none : check_from command_polynomial 0x32 [] ≡ 0x32
unfolding check_from remainder
check_of_none = refl

-- of 01 the check is the polynomial without its x^8, and not the outer frame's D5
pub check_of_one : check_from command_polynomial 0 (0x01 ∷ []) ≡ 0xBA
unfolding check_from remainder
check_of_one = refl

-- ---- check_with_zeros (and must-fail/six_for_seven)
-- a byte 00 is not nothing
pub one_zero : check_from command_polynomial 0x01 (replicate 1 0) ≡ 0xBA
unfolding check_from remainder
one_zero = refl

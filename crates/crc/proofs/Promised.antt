-- Whatever meets the contract of a public function is the remainder by the command's polynomial. `Post` is the contract as the check
-- reads it from the source. Assumes nothing.
use mathlib.Core.List.{◌∷◌}
use Prim.Native.Nat.{◌*◌, ◌^◌}
use contract.Lifetimes.{Lfts}
use borrow.Fn.Kinds.{Dens, res_t, ended_of}
use denote.Triple.Clauses.{AtExit}
use Rattle.crc.specs.Polynomial.{x, Remainder}
use Rattle.crc.specs.Check.{command_polynomial, message, started_message, all_but_last}
use Rattle.crc.proofs.Laws.{command, from_is_remainder, payload_check_is_remainder}
use Rattle.crc.proofs.Zeros.{zeros-remainder}
use Rattle.crc.proofs.check.Reads as check
use Rattle.crc.proofs.check.Kinds as check-kinds
use Rattle.crc.proofs.check_with_zeros.Reads as check-with-zeros
use Rattle.crc.proofs.check_with_zeros.Kinds as check-with-zeros-kinds
use Rattle.crc.proofs.payload_check.Reads as payload-check
use Rattle.crc.proofs.payload_check.Kinds as payload-check-kinds

pub check-remainder : (κs : Lfts 1)
    (a : Dens κs check-kinds.ps)
    (r : (res_t check-kinds.r κs).Denot)
    (s : AtExit (ended_of 1 check-kinds.ps check-kinds.r) κs)
    → check.Post κs a r s
    → Remainder command_polynomial (started_message a.1.0 a.0.now) r
check-remainder κs a r s p = rw p (from_is_remainder command a.1.0 a.0.now)

-- the check times x^8 for each byte 00
pub check_with_zeros_remainder : (κs : Lfts 0)
    (a : Dens κs check-with-zeros-kinds.ps)
    (r : (res_t check-with-zeros-kinds.r κs).Denot)
    (s : AtExit (ended_of 0 check-with-zeros-kinds.ps check-with-zeros-kinds.r) κs)
    → check-with-zeros.Post κs a r s
    → Remainder command_polynomial (a.0 * x ^ (8 * a.1.0)) r
check_with_zeros_remainder κs a r s p = rw p (zeros-remainder command a.1.0 a.0)

pub payload_check-remainder : (κs : Lfts 1)
    (a : Dens κs payload-check-kinds.ps)
    (r : (res_t payload-check-kinds.r κs).Denot)
    (s : AtExit (ended_of 1 payload-check-kinds.ps payload-check-kinds.r) κs)
    → payload-check.Post κs a r s
    → Remainder command_polynomial (message (a.0 ∷ all_but_last a.1.0.now) * x ^ 8) r
payload_check-remainder κs a r s p = rw p (payload_check_is_remainder a.0 a.1.0.now)

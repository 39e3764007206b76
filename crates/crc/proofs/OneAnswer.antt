-- Any two answers that a public function's contract allows coincide. `Post` is the contract as the check reads it from the
-- source, and no copy of it. Assumes nothing.
use mathlib.Core.Path.{◌≡◌, sym, ◌∙◌}
use contract.Lifetimes.{Lfts}
use borrow.Fn.Kinds.{Dens, res_t, ended_of}
use denote.Triple.Clauses.{AtExit}
use Rattle.crc.proofs.check.Reads as check
use Rattle.crc.proofs.check.Kinds as check-kinds
use Rattle.crc.proofs.check_with_zeros.Reads as check-with-zeros
use Rattle.crc.proofs.check_with_zeros.Kinds as check-with-zeros-kinds
use Rattle.crc.proofs.payload_check.Reads as payload-check
use Rattle.crc.proofs.payload_check.Kinds as payload-check-kinds

pub check_one : (κs : Lfts 1) (a : Dens κs check-kinds.ps) (x y : (res_t check-kinds.r κs).Denot) (s t : AtExit (ended_of 1 check-kinds.ps check-kinds.r) κs)
    → check.Post κs a x s → check.Post κs a y t → x ≡ y
check_one κs a x y s t p q = p ∙ sym q

pub check_with_zeros_one : (κs : Lfts 0) (a : Dens κs check-with-zeros-kinds.ps) (x y : (res_t check-with-zeros-kinds.r κs).Denot)
    (s t : AtExit (ended_of 0 check-with-zeros-kinds.ps check-with-zeros-kinds.r) κs)
    → check-with-zeros.Post κs a x s → check-with-zeros.Post κs a y t → x ≡ y
check_with_zeros_one κs a x y s t p q = p ∙ sym q

pub payload_check_one : (κs : Lfts 1) (a : Dens κs payload-check-kinds.ps) (x y : (res_t payload-check-kinds.r κs).Denot)
    (s t : AtExit (ended_of 1 payload-check-kinds.ps payload-check-kinds.r) κs)
    → payload-check.Post κs a x s → payload-check.Post κs a y t → x ≡ y
payload_check_one κs a x y s t p q = p ∙ sym q

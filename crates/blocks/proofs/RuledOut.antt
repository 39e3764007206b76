-- Wrong answers that the contracts of the public functions rule out: the definition that the contract names, worked out for an input
-- where the wrong answer would be another. That no other answer is allowed there is in OneAnswer.antt. Assumes nothing.
use Prim.Native.Nat.{ℕ, ◌+◌, ◌≤◌}
use mathlib.Core.Bool.{false}
use mathlib.Core.List.{List, [], ◌∷◌, ◌++◌}
use mathlib.Core.Path.{◌≡◌, refl, sym, ◌∙◌}
use native.Mathlib.Omega.{arith}
use lib.Dec.{lit<, lit≤}
use lib.ListN.{length, take, replicate}
use Rattle.crc.specs.Polynomial.{remainder}
use Rattle.crc.specs.Check.{command_polynomial, check_of, check_from}
use Rattle.crc.proofs.Laws.{from_zero}
use Rattle.codec.specs.Sheet.{got, refused}
use Rattle.blocks.specs.Block.{used_count, check_byte, records_of}
use Rattle.blocks.specs.Walk.{damage_number, opening, opening_of, standing, record_at}
use Rattle.blocks.specs.Laid.{closed_by, block_of, placed_from, Holds, AllHold}
use Rattle.blocks.specs.Steps.{whole_records}
use Rattle.blocks.specs.declared.Damage.TheVariants.{BlockCheck, BlockLayout}
use Rattle.blocks.proofs.Laid.{closed-length, closed-check, laid-sound}
use Rattle.blocks.proofs.Walks.{sound-opens}
use Rattle.blocks.proofs.Ways.{too_much_used, not-whole, not-filled}

-- ---- number
-- the number of another refusal: a wrong check is not 01's 2, a wrong layout not the length's 1
pub check_9 : damage_number BlockCheck ≡ 9
check_9 = refl

pub layout_10 : damage_number BlockLayout ≡ 10
layout_10 = refl

-- ---- judge
-- 512 zeros are a block, number 0, and have no record
abbrev pub zero_block : List ℕ
zero_block = replicate 512 0

zero-records : records_of zero_block ≡ got []
unfolding records_of check_of remainder
zero-records = refl

pub zeros-sound : opening_of zero_block ≡ got (opening 0 0)
zeros-sound = sound-opens zero_block [] zero-records

-- a byte too few or too many
pub short-block : opening_of (replicate 511 0) ≡ refused 1 0
unfolding records_of
short-block = refl

pub long-block : opening_of (replicate 513 0) ≡ refused 1 0
unfolding records_of
long-block = refl

-- a residue of zero is no right check: the polynomial is x times 0xDD
pub residue_zero : (check_of command_polynomial (replicate 511 0 ++ 0xDD ∷ []) ≡ 0) × (opening_of (replicate 511 0 ++ 0xDD ∷ []) ≡ refused 9 0)
unfolding records_of check_of remainder
residue_zero = (refl, refl)

-- blocks of number 0 with a right check: what a layout of so many used bytes comes to
module _ (o : List ℕ) (size : length o ≡ 511) where
  right_check : check_byte (closed_by o) ≡ check_from command_polynomial 0 (take 511 (closed_by o))
  right_check = closed-check o size ∙ sym (from_zero command_polynomial (take 511 (closed_by o)))

-- 506 used bytes
abbrev used506 : List ℕ
used506 = 0 ∷ 0 ∷ 0 ∷ 0 ∷ 0x01 ∷ 0xFA ∷ replicate 505 0

pub used_506 : opening_of (closed_by used506) ≡ refused 10 0
used_506 = sym (too_much_used (closed_by used506) (closed-length used506 refl) _ (right_check used506 refl) refl (omega arith))

-- 505 are none too many: eight records of 60 bytes and one of 16
abbrev full : List (List ℕ)
full = replicate 8 (replicate 60 0) ++ replicate 16 0 ∷ []

pub full-sound : records_of (block_of 7 full) ≡ got (placed_from 6 full)
full-sound = laid-sound 7 full (lit< tt) full-holds (lit≤ tt)
  where
    full-holds : AllHold full
    full-holds =
        let h : Holds (replicate 60 0) = (lit≤ tt, lit≤ tt) in
        (h, (h, (h, (h, (h, (h, (h, (h, ((lit≤ tt, lit≤ tt), tt)))))))))

-- a record of 3 bytes, one of 61, and one that goes one byte beyond the used bytes
abbrev laid_as : ℕ → ℕ → List ℕ
laid_as used len = 0 ∷ 0 ∷ 0 ∷ 0 ∷ 0 ∷ used ∷ len ∷ replicate 504 0

not-laid : (used len : ℕ) → used ≤ 255 → used_count (closed_by (laid_as used len)) ≡ used
    → false ≡ whole_records (closed_by (laid_as used len)) (6 + used)
    → opening_of (closed_by (laid_as used len)) ≡ refused 10 0
not-laid used len l e h =
    let o = laid_as used len in
    sym (not-whole (closed_by o) (closed-length o refl) _ (right_check o refl) refl (6 + used) (rw e (omega arith), rw e) h)

pub record_3 : opening_of (closed_by (laid_as 4 3)) ≡ refused 10 0
record_3 = not-laid 4 3 (omega arith) refl refl

pub record_61 : opening_of (closed_by (laid_as 62 61)) ≡ refused 10 0
record_61 = not-laid 62 61 (omega arith) refl refl

pub record_beyond : opening_of (closed_by (laid_as 4 4)) ≡ refused 10 0
record_beyond = not-laid 4 4 (omega arith) refl refl

-- the last byte of the filler is not zero
abbrev filled_last : List ℕ
filled_last = replicate 510 0 ++ 1 ∷ []

pub filler-last : opening_of (closed_by filled_last) ≡ refused 10 0
filler-last =
    sym (not-filled (closed_by filled_last) (closed-length filled_last refl) _ (right_check filled_last refl) refl 6 (omega arith, refl) refl refl)

-- ---- record_at
-- block 7, of two records of 4 bytes and a third behind the used bytes, whatever its check
abbrev pub two_records : ℕ → List ℕ
two_records check =
    0 ∷ 0 ∷ 0 ∷ 7 ∷ 0 ∷ 10 ∷ 4 ∷ 1 ∷ 2 ∷ 3 ∷ 4 ∷ 4 ∷ 5 ∷ 6 ∷ 7 ∷ 8 ∷ 4 ∷ 9 ∷ 9 ∷ 9 ∷ 9 ∷ (replicate 490 0 ++ check ∷ [])

-- the next record stands behind the payload, and not behind its length byte; none stands behind the last
pub first_of_two : (check : ℕ) → record_at (two_records check) 6 ≡ got (standing 7 11 11)
unfolding record_at
first_of_two check = refl

pub last_of_two : (check : ℕ) → record_at (two_records check) 11 ≡ got (standing 7 16 0)
unfolding record_at
last_of_two check = refl

-- what is not used is no record; nor is the head, though its last byte could be a length
pub behind-used : (check : ℕ) → record_at (two_records check) 16 ≡ refused 10 0
unfolding record_at
behind-used check = refl

pub head_is_none : (check : ℕ) → record_at (two_records check) 5 ≡ refused 10 0
unfolding record_at
head_is_none check = refl

-- nor is one that goes one byte beyond the used bytes
pub stands-beyond : (check : ℕ) → record_at (laid_as 4 4 ++ check ∷ []) 6 ≡ refused 10 0
unfolding record_at
stands-beyond check = refl

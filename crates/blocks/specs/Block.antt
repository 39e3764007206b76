-- Document 02, Wish 1: a block of the log, sound or the number that refuses it. Assumes nothing.
use Rattle.std.specs.Prelude.{ℕ, zero, suc, ◌+◌, List, [], ◌∷◌, length, take, drop, get_or, ltb, leb, eqb}
use Rattle.crc.specs.Check.{command_polynomial, check_of}
use Rattle.codec.specs.Pick.{pick}
use Rattle.codec.specs.Digits.{number_of}
use Rattle.codec.specs.Sheet.{Answer, got, refused, and_then}
use Rattle.families.specs.Text.{zeros}

-- "blocks of 512 bytes"
abbrev pub block_size : ℕ
block_size = 512

-- "block number (4)"
abbrev pub block_number : List ℕ → ℕ
block_number b = number_of (take 4 b)

-- "used bytes (2, at most 505)"
abbrev pub used_count : List ℕ → ℕ
used_count b = number_of (take 2 (drop 4 b))

abbrev pub most_used : ℕ
most_used = 505

-- "records": the used bytes, from place 6 on
abbrev pub first_place : ℕ
first_place = 6

abbrev pub used_bytes : List ℕ → List ℕ
used_bytes b = take (used_count b) (drop first_place b)

-- "zeros": what is left of the block but for its last byte
abbrev pub check_place : ℕ
check_place = 511

abbrev pub filler : List ℕ → List ℕ
filler b = drop (first_place + used_count b) (take check_place b)

-- "in the last byte a check of the other 511 by the command polynomial, without the 0x32 in front"
abbrev pub check_byte : List ℕ → ℕ
check_byte b = get_or b check_place 0

abbrev pub block_check : List ℕ → ℕ
block_check b = check_of command_polynomial (take check_place b)

-- a record: the place of its length byte in the block, and its payload
pub record Record : Type 0 where
  pub place : ℕ
  pub payload : List ℕ

-- "A record is a length byte, 4 to 60, and a payload; none crosses a block." The records of used bytes, of which the first stands at a
-- place; 10 where there is another length, or a payload goes beyond them. (Used bytes hold no more records than bytes: `most` bounds them.)
abbrev pub records_from : ℕ → ℕ → List ℕ → Answer (List Record)
records_from zero at s = got []
records_from (suc most) at [] = got []
records_from (suc most) at (n ∷ s) =
    pick (ltb n 4) (refused 10 0)
    (pick (ltb 60 n) (refused 10 0)
    (pick (ltb (length s) n) (refused 10 0)
    (and_then (records_from most (at + suc n) (drop n s)) (λ rs. got (record { place = at; payload = take n s } ∷ rs)))))

abbrev pub records_in : List ℕ → Answer (List Record)
records_in b = records_from (suc (used_count b)) first_place (used_bytes b)

-- THE records of a sound block. "Refusals: 1 for a block that isn't 512 bytes, then 9 block check, then 10 block layout (used count, record
-- length, nonzero filler)."
unfoldable pub records_of : List ℕ → Answer (List Record)
records_of b =
    pick (eqb (length b) block_size)
    (pick (eqb (check_byte b) (block_check b))
    (pick (leb (used_count b) most_used)
    (and_then (records_in b) (λ rs. pick (zeros (filler b)) (got rs) (refused 10 0)))
    (refused 10 0))
    (refused 9 0))
    (refused 1 0)

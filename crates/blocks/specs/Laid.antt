-- A block laid out, as the box writes it. Assumes nothing.
use Rattle.std.specs.Prelude.{ℕ, suc, ◌+◌, ◌≤◌, List, [], ◌∷◌, ◌++◌, length}
use Rattle.crc.specs.Check.{command_polynomial, check_of}
use Rattle.codec.specs.Digits.{bytes_of}
use Rattle.families.specs.Text.{padded}
use Rattle.blocks.specs.Block.{most_used, Record}

-- "A record is a length byte, 4 to 60, and a payload": one behind the other
abbrev pub laid_records : List (List ℕ) → List ℕ
laid_records [] = []
laid_records (p ∷ ps) = length p ∷ (p ++ laid_records ps)

-- "block number (4), used bytes (2, at most 505), records, zeros"
abbrev pub unclosed : ℕ → List (List ℕ) → List ℕ
unclosed n ps = bytes_of 4 n ++ (bytes_of 2 (length (laid_records ps)) ++ padded most_used (laid_records ps))

-- "and in the last byte a check of the other 511 by the command polynomial, without the 0x32 in front"
abbrev pub closed_by : List ℕ → List ℕ
closed_by o = o ++ check_of command_polynomial o ∷ []

-- THE block of this number with these payloads
abbrev pub block_of : ℕ → List (List ℕ) → List ℕ
block_of n ps = closed_by (unclosed n ps)

-- its records: the first at place 6, each behind the one before it
abbrev pub placed_from : ℕ → List (List ℕ) → List Record
placed_from at [] = []
placed_from at (p ∷ ps) = record { place = at; payload = p } ∷ placed_from (at + suc (length p)) ps

-- a payload that a record can hold
abbrev pub Holds : List ℕ → Type 0
Holds p = (4 ≤ length p) × (length p ≤ 60)

abbrev pub AllHold : List (List ℕ) → Type 0
AllHold [] = Unit {0}
AllHold (p ∷ ps) = Holds p × AllHold ps

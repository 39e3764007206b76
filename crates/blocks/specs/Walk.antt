-- The records of a block as a walk from place to place, without its check. Assumes nothing.
use Rattle.std.specs.Prelude.{Option, Some, None, Result, Ok, Err, ℕ, ◌+◌, ◌-◌, List, [], ◌∷◌, length, take, drop, get_or, ltb, leb, eqb}
use Rattle.codec.specs.Pick.{pick}
use Rattle.codec.specs.Sheet.{Answer, got, refused, and_then}
use Rattle.blocks.specs.Block.{block_size, block_number, used_count, most_used, first_place, Record, records_of}
use Rattle.blocks.specs.declared.Damage.{Damage}
use Rattle.blocks.specs.declared.Damage.TheVariants.{NotABlock, BlockCheck, BlockLayout}
use Rattle.blocks.specs.declared.Sound.{Sound}
use Rattle.blocks.specs.declared.Record.{Record as Found}

-- "1 for a block that isn't 512 bytes, then 9 block check, then 10 block layout"
abbrev pub damage_number : Damage → ℕ
damage_number NotABlock = 1
damage_number BlockCheck = 9
damage_number BlockLayout = 10

-- the place of the first of some records, 0 where there is none
abbrev pub first_of : List Record → ℕ
first_of [] = 0
first_of (r ∷ rs) = r.place

-- what a sound block opens with: its number, and the place of its first record
pub data Opening : Type 0 where
  opening : ℕ → ℕ → Opening

abbrev pub opening_of : List ℕ → Answer Opening
opening_of b = and_then (records_of b) (λ rs. got (opening (block_number b) (first_of rs)))

abbrev pub told_judged : Result Sound Damage → Answer Opening
told_judged (Ok s) = got (opening s.number s.first)
told_judged (Err d) = refused (damage_number d) 0

-- a record that stands at a place: the number of its block, the place behind its payload, that of the next record, 0 behind the last
pub data Standing : Type 0 where
  standing : ℕ → ℕ → ℕ → Standing

-- where the used bytes end
abbrev pub used_end : List ℕ → ℕ
used_end b = first_place + used_count b

-- a place within bytes that end there, or 0
abbrev pub place_before : ℕ → ℕ → ℕ
place_before end at = pick (ltb at end) at 0

-- where the payload behind a length byte ends: 10 for another length than 4 to 60, or where it goes beyond the used bytes
abbrev pub record_end : List ℕ → ℕ → ℕ → Answer ℕ
record_end b end at =
    pick (ltb (get_or b at 0) 4) (refused 10 0)
    (pick (ltb 60 (get_or b at 0)) (refused 10 0)
    (pick (ltb end (at + (get_or b at 0 + 1))) (refused 10 0) (got (at + (get_or b at 0 + 1)))))

-- THE record at a place of any bytes; 10 where there is none: they are not 512, the used count is above 505, the place is not within the
-- used bytes, or no record of 4 to 60 bytes stands there within them
unfoldable pub record_at : List ℕ → ℕ → Answer Standing
record_at b at =
    pick (eqb (length b) block_size)
    (pick (leb (used_count b) most_used)
    (pick (ltb at first_place) (refused 10 0)
    (pick (leb (used_end b) at) (refused 10 0)
    (and_then (record_end b (used_end b) at) (λ e. got (standing (block_number b) e (place_before (used_end b) e))))))
    (refused 10 0))
    (refused 10 0)

-- its payload
abbrev pub payload_in : List ℕ → ℕ → ℕ → List ℕ
payload_in b at end = take (end - (at + 1)) (drop (at + 1) b)

abbrev pub told_walked : Option Found → Answer Standing
told_walked (Some r) = got (standing r.number r.end r.next)
told_walked None = refused 10 0

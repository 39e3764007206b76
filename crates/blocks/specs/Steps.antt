-- For the contracts of private functions; nobody has to believe this file. Assumes nothing.
use Rattle.std.specs.Prelude.{Option, Some, None, ℕ, suc, ◌-◌, ◌≤◌, ◌<◌, ◌≡◌, Bool, true, false, List, take, drop}
use Rattle.codec.specs.Sheet.{Answer, got, refused}
use Rattle.blocks.specs.Block.{used_count, most_used, Record, first_place, records_from}
use Rattle.blocks.specs.Walk.{used_end, record_end}

-- bytes used in a block that end there: no more than it has room for
abbrev pub Used : List ℕ → ℕ → Type 0
Used b end = (used_count b ≤ most_used) × (end ≡ used_end b)

abbrev pub UsedTo : List ℕ → Option ℕ → Type 0
UsedTo b (Some end) = Used b end
UsedTo b None = most_used < used_count b

abbrev pub EndsAt : List ℕ → ℕ → ℕ → Option ℕ → Type 0
EndsAt b end at (Some e) = record_end b end at ≡ got e
EndsAt b end at None = record_end b end at ≡ refused 10 0

abbrev pub accepted : {A : Type 0} → Answer A → Bool
accepted (got a) = true
accepted (refused n p) = false

-- the records in the bytes from a place to an end
abbrev pub records_to : List ℕ → ℕ → ℕ → Answer (List Record)
records_to b end at = records_from (suc (end - at)) at (take (end - at) (drop at b))

-- whether there are records and nothing else
abbrev pub whole_from : List ℕ → ℕ → ℕ → Bool
whole_from b end at = accepted (records_to b end at)

abbrev pub whole_records : List ℕ → ℕ → Bool
whole_records b end = whole_from b end first_place

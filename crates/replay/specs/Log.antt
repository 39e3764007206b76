-- Document 02, Wish 1: the events of a log. "Read it block by block". Assumes nothing.
use Rattle.std.specs.Prelude.{ℕ, ◌+◌, List, [], ◌∷◌, ◌++◌, map, ltb, eqb}
use Rattle.codec.specs.Pick.{pick}
use Rattle.codec.specs.Sheet.{Answer, got, refused}
use Rattle.commands.specs.Reading.{read_command}
use Rattle.blocks.specs.Block.{block_number, Record, records_of}
use Rattle.replay.specs.Events.{record_event, damaged_event, gap_event, back_event}
use Rattle.replay.specs.declared.Event.{Event}

-- a block handed in, and its caller's position
pub data Handed : Type 0 where
  handed : ℕ → List ℕ → Handed

-- the number of the sound block before, if there is one
pub data Before : Type 0 where
  none : Before
  after : ℕ → Before

-- "A sound block whose number isn't exactly one above that of the sound block before it is reported, as a gap if higher, else as a step
-- back, but handed on; the first sound block is not reported."
abbrev pub ordered : Before → ℕ → List Event
ordered none n = []
ordered (after m) n = pick (eqb n (m + 1)) [] (pick (ltb m n) (gap_event n ∷ []) (back_event n ∷ []))

-- "hand on each command in order with block and place"
abbrev pub record_events : ℕ → List Record → List Event
record_events n rs = map (λ r. record_event n r.place (read_command r.payload)) rs

-- a block's events, by its records or the number that refuses it: "A refused block is damaged: it is named and skipped whole"
abbrev pub block_events : Before → ℕ → ℕ → Answer (List Record) → List Event
block_events l position n (got rs) = ordered l n ++ record_events n rs
block_events l position n (refused k p) = damaged_event position k ∷ []

-- "and the others come out as if it were absent": what comes behind a sound block comes after its number
abbrev pub before_next : Before → ℕ → Answer (List Record) → Before
before_next l n (got rs) = after n
before_next l n (refused k p) = l

-- THE events of blocks, after a sound block or none
abbrev pub events_of : Before → List Handed → List Event
events_of l [] = []
events_of l (handed position b ∷ hs) =
    block_events l position (block_number b) (records_of b) ++ events_of (before_next l (block_number b) (records_of b)) hs

-- of a whole log
abbrev pub log_events : List Handed → List Event
log_events hs = events_of none hs

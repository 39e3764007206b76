-- Through a log, step by step: a block is handed in again while there is more of it, then the next one. Assumes nothing.
use Rattle.std.specs.Prelude.{ℕ, zero, suc, List, [], ◌∷◌, ◌++◌, eqb}
use Rattle.codec.specs.Pick.{pick}
use Rattle.codec.specs.Sheet.{Answer, got, refused, and_then}
use Rattle.blocks.specs.Block.{block_size, block_number, records_of}
use Rattle.replay.specs.Log.{Handed, handed, Before, none, after, before_next}
use Rattle.replay.specs.Step.{new_replay, sound, step_of}
use Rattle.replay.specs.declared.Event.{Event}
use Rattle.replay.specs.declared.Kind.{Kind}
use Rattle.replay.specs.declared.Kind.TheVariants.{Nothing, Command, Refused, Damaged, Gap, Back}
use Rattle.replay.specs.declared.Replay.{Replay}

-- what an event tells: `Nothing`, of a sound block in order that has no records, is no news
abbrev pub told_as : Kind → Event → List Event
told_as Nothing e = []
told_as Command e = e ∷ []
told_as Refused e = e ∷ []
told_as Damaged e = e ∷ []
told_as Gap e = e ∷ []
told_as Back e = e ∷ []

abbrev pub told : Event → List Event
told e = told_as e.kind e

-- the events told, and the state after them
pub data Replayed : Type 0 where
  replayed : List Event → Replay → Replayed

-- a step's event, before those of the steps after it; a step that refuses is the last
abbrev pub before : Answer Event → Answer Replayed → Answer Replayed
before (got e) (got (replayed es s)) = got (replayed (told e ++ es) s)
before (got e) (refused n p) = refused n p
before (refused n p) r = refused n p

-- the steps after one: none where the state has no place
abbrev pub going_on : Replay → Answer Replayed → Answer Replayed
going_on s more = pick (eqb s.place 0) (got (replayed [] s)) more

-- the same block handed in again and again, at most so many times
abbrev pub steps : ℕ → Replay → ℕ → List ℕ → Answer Replayed
steps zero s position b = got (replayed [] s)
steps (suc most) s position b =
    before (step_of s position b).says (going_on (step_of s position b).state (steps most (step_of s position b).state position b))

-- through a block. (One step may tell of a gap or a step back, each other one has a record, and no two records have a place of the 512
-- in common.)
abbrev pub through : Replay → ℕ → List ℕ → Answer Replayed
through s position b = steps (suc block_size) s position b

abbrev pub events_in : Replayed → List Event
events_in (replayed es s) = es

abbrev pub state_in : Replayed → Replay
state_in (replayed es s) = s

-- THE way through blocks: one after the other
abbrev pub through_all : Replay → List Handed → Answer Replayed
through_all s [] = got (replayed [] s)
through_all s (handed position b ∷ hs) =
    and_then (through s position b) (λ r.
    and_then (through_all (state_in r) hs) (λ q. got (replayed (events_in r ++ events_in q) (state_in q))))

-- the state between blocks, after a sound block or none
abbrev pub between : Before → Replay
between none = new_replay
between (after n) = sound n 0

-- the sound block that blocks leave before the next one
abbrev pub last_of : Before → List Handed → Before
last_of l [] = l
last_of l (handed position b ∷ hs) = last_of (before_next l (block_number b) (records_of b)) hs

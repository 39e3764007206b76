-- One step through a log: the next event of a block, and the state that is kept between events. Assumes nothing.
use Rattle.std.specs.Prelude.{Result, ℕ, Bool, true, false, ◌≡◌, List, [], ◌∷◌, leb, eqb}
use Rattle.codec.specs.Pick.{pick}
use Rattle.codec.specs.Sheet.{Answer, got, refused}
use Rattle.codec.specs.Refusals.{Gives, value_in}
use Rattle.codec.specs.declared.refusal.Refusal.{Refusal}
use Rattle.commands.specs.Reading.{read_command}
use Rattle.blocks.specs.Block.{first_place, check_place, block_number, Record, records_of}
use Rattle.blocks.specs.Walk.{first_of, opening, opening_of, Standing, standing, record_at, payload_in}
use Rattle.replay.specs.Events.{record_event, damaged_event, nothing_event}
use Rattle.replay.specs.Log.{Before, none, after, ordered}
use Rattle.replay.specs.declared.Event.{Event}
use Rattle.replay.specs.declared.Replay.{Replay}
use Rattle.replay.specs.declared.Step.{Step}

-- a state after a sound block of this number; place 0: a new block is to come
abbrev pub sound : ℕ → ℕ → Replay
sound n at = record { started = true; number = n; place = at }

-- a new one
abbrev pub new_replay : Replay
new_replay = record { started = false; number = 0; place = 0 }

-- the sound block before
abbrev pub before_of : Replay → Before
before_of s = pick s.started (after s.number) none

-- a state's own limits: not started, the rest is 0; the place is 0 or 6 to 511
abbrev pub in_limits : Replay → Bool
in_limits s =
    pick s.started
    (pick (eqb s.place 0) true (pick (leb first_place s.place) (leb s.place check_place) false))
    (pick (eqb s.number 0) (eqb s.place 0) false)

-- the state after a step, and the event that it hands on
pub record Stepped : Type 0 where
  pub state : Replay
  pub says : Answer Event

abbrev pub step : Replay → Event → Stepped
step s e = record { state = s; says = got e }

-- 5, and the state as it was
abbrev pub beyond : Replay → Stepped
beyond s = record { state = s; says = refused 5 0 }

-- a new block that is sound: a gap or a step back comes before its records
abbrev pub entering : List Event → ℕ → List Record → Stepped
entering (e ∷ es) n rs = step (sound n (first_of rs)) e
entering [] n [] = step (sound n 0) (nothing_event n)
entering [] n (r ∷ rs) = step (sound n (first_of rs)) (record_event n r.place (read_command r.payload))

-- a new block, by its records or the number that refuses it
abbrev pub opens : Replay → ℕ → ℕ → Answer (List Record) → Stepped
opens s position n (got rs) = entering (ordered (before_of s) n) n rs
opens s position n (refused k p) = step s (damaged_event position k)

-- a block that goes on: it is not judged a second time; a state at whose place no record stands is beyond its limits
abbrev pub goes_on : Replay → List ℕ → Answer Standing → Stepped
goes_on s b (got (standing n end next)) =
    step (record { started = s.started; number = s.number; place = next })
    (record_event n s.place (read_command (payload_in b s.place end)))
goes_on s b (refused k p) = beyond s

-- THE step. "A state handed in beyond its own limits .. is 5, before all else, and comes back as it was."
abbrev pub step_of : Replay → ℕ → List ℕ → Stepped
step_of s position b =
    pick (in_limits s)
    (pick (eqb s.place 0) (opens s position (block_number b) (records_of b)) (goes_on s b (record_at b s.place)))
    (beyond s)

-- the event where there is none
abbrev pub blank_event : Event
blank_event = nothing_event 0

abbrev pub after_step : Replay → Event → Step
after_step s e = record { state = s; event = e }

-- a step GIVES its state and event, or the number that refuses it: then there is neither, and the state stays with the caller as it was
abbrev pub StepIs : Stepped → Result Step Refusal → Type 0
StepIs t r = Gives (λ e. after_step t.state e) t.says r

-- ---- for the contracts of private functions: a sound block of this number, whose first record is at this place
abbrev pub Opens : ℕ → ℕ → List ℕ → Type 0
Opens n first b = opening_of b ≡ got (opening n first)

abbrev pub records_in : List ℕ → List Record
records_in b = value_in [] (records_of b)

-- The log replayed: the answer's word, and the bytes that are left of the replay and of the event. Assumes nothing.
use Rattle.std.specs.Prelude.{ℕ, Bool, true, false, ◌≡◌, List, length, eqb}
use Rattle.codec.specs.Pick.{pick}
use Rattle.codec.specs.Sheet.{Answer, got, and_then}
use Rattle.replay.specs.Step.{Stepped, step_of}
use Rattle.replay.specs.declared.Event.{Event}
use Rattle.replay.specs.declared.Replay.{Replay}
use Rattle.replay_images.specs.State.{state_image, state_from}
use Rattle.replay_images.specs.Event.{event_image}
use Rattle.crsf.specs.Handed.{handed_out, image_left, image_word}

-- what a step hands out: the state after it, and the event
pub data HandedOn : Type 0 where
  handed_on : Replay → Event → HandedOn

abbrev pub on_of : Stepped → Answer HandedOn
on_of t = and_then t.says (λ e. got (handed_on t.state e))

-- 3 for too short an event; 5 for an image of no replay, or one beyond its limits
abbrev pub replayed : List ℕ → ℕ → List ℕ → ℕ → Answer HandedOn
replayed replay position block room = handed_out 80 room (and_then (state_from replay) (λ s. on_of (step_of s position block)))

-- there is more while the state has a place
abbrev pub more : Replay → Bool
more s = pick (eqb s.place 0) false true

-- both images
abbrev pub state_out : HandedOn → List ℕ
state_out (handed_on s e) = state_image s

abbrev pub event_out : HandedOn → List ℕ
event_out (handed_on s e) = event_image (more s) e

-- A BLOCK REPLAYED answers r and leaves s' of the replay s and e' of the event e
pub record ReplaysOut (position : ℕ) (block : List ℕ) (r : ℕ) (s s' e e' : List ℕ) : Type 0 where
  pub word : r ≡ image_word (replayed s position block (length e))
  pub state : s' ≡ image_left state_out (replayed s position block (length e)) s
  pub event : e' ≡ image_left event_out (replayed s position block (length e)) e

-- Wrong answers that the contracts of the public functions rule out: the definition that the contract names, worked out for an input
-- where the wrong answer would be another. That no other answer is allowed there is in OneAnswer.antt. Assumes nothing.
use Prim.Native.Nat.{ℕ}
use mathlib.Core.Bool.{Bool, true, false}
use mathlib.Core.List.{List, [], ◌∷◌, ◌++◌}
use mathlib.Core.Path.{◌≡◌, refl}
use lib.ListN.{take, drop, replicate}
use Rattle.codec.specs.Sheet.{got, refused}
use Rattle.codec.specs.Writing.{put_at}
use Rattle.commands.specs.Command.{blank_command}
use Rattle.images.specs.Values.{payload_laid}
use Rattle.images.specs.Record.{record_image}
use Rattle.replay.specs.Events.{record_event, gap_event, back_event}
use Rattle.replay.specs.Step.{new_replay, sound}
use Rattle.replay.specs.declared.Event.{Event}
use Rattle.replay_images.specs.State.{state_image, state_from}
use Rattle.replay_images.specs.Event.{event_image}

-- ---- state::from
-- a new one is zeros throughout
pub from-zeros : state_from (replicate 7 0) ≡ got new_replay
from-zeros = refl

-- a byte too few or too many
pub from_6 : state_from (replicate 6 0) ≡ refused 5 0
from_6 = refl

pub from_8 : state_from (replicate 8 0) ≡ refused 5 0
from_8 = refl

-- a started of 2 is not one of 1
pub from_started_2 : state_from (2 ∷ replicate 6 0) ≡ refused 5 0
from_started_2 = refl

-- the highest byte first; a place beyond a state's limits is not judged here
pub from_high_first : state_from (1 ∷ 1 ∷ 2 ∷ 3 ∷ 4 ∷ 2 ∷ 5 ∷ []) ≡ got (sound 0x01020304 0x0205)
from_high_first = refl

-- ---- state::put
-- no image is half put
pub state_no_room : put_at (replicate 6 7) 0 (state_image (sound 1 6)) ≡ replicate 6 7
state_no_room = refl

-- one that just has room is put; the byte behind it keeps its own
pub state-put : put_at (replicate 7 7) 0 (state_image (sound 0x01020304 0x0105)) ≡ 1 ∷ 1 ∷ 2 ∷ 3 ∷ 4 ∷ 1 ∷ 5 ∷ []
state-put = refl

pub state-behind : put_at (replicate 8 7) 0 (state_image new_replay) ≡ replicate 7 0 ++ 7 ∷ []
state-behind = refl

-- ---- event::put
-- the first 10 bytes of an event put into 80
abbrev head_put : Bool → Event → List ℕ
head_put more e = take 10 (put_at (replicate 80 7) 0 (event_image more e))

-- no image is half put
pub event_no_room : put_at (replicate 79 7) 0 (event_image true (gap_event 1)) ≡ replicate 79 7
unfolding payload_laid
event_no_room = refl

-- `more` is 1 or 0, whatever the event
pub event-more : head_put true (gap_event 0x01020304) ≡ 4 ∷ 1 ∷ 1 ∷ 2 ∷ 3 ∷ 4 ∷ 0 ∷ 0 ∷ 0 ∷ 0 ∷ []
unfolding payload_laid
event-more = refl

pub event-last : head_put false (back_event 0x01020304) ≡ 5 ∷ 0 ∷ 1 ∷ 2 ∷ 3 ∷ 4 ∷ 0 ∷ 0 ∷ 0 ∷ 0 ∷ []
unfolding payload_laid
event-last = refl

-- block, place, number, place in the payload, in this order
pub event-parts : head_put true (record_event 9 0x0105 (refused 1 3)) ≡ 2 ∷ 1 ∷ 0 ∷ 0 ∷ 0 ∷ 9 ∷ 1 ∷ 5 ∷ 1 ∷ 3 ∷ []
unfolding payload_laid
event-parts = refl

-- the record stands at 10; the byte behind the event keeps its own
pub event_record : drop 10 (put_at (replicate 81 7) 0 (event_image true (gap_event 1))) ≡ record_image blank_command ++ 7 ∷ []
unfolding payload_laid
event_record = refl

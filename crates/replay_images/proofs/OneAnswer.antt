-- Any two answers that a public function's contract allows coincide, and so does the lent slice. `Post` is the contract as the check
-- reads it from the source, and no copy of it. Assumes nothing.
use Rattle.std.specs.Prelude.{Result, Ok, Err}
use Rattle.codec.specs.declared.refusal.Refusal.{Refusal}
use mathlib.Core.Path.{◌≡◌, refl, ap, sym, ◌∙◌}
use Rattle.codec.specs.Sheet.{Answer, got, refused}
use Rattle.codec.proofs.Writes.{refusal_of, refusal_back}
use Rattle.images.proofs.AnyTwo.{AnyTwo}
use Rattle.replay.specs.declared.Replay.{Replay}
use Rattle.replay_images.specs.State.{told_state}
use Rattle.replay_images.proofs.state.from.Reads as from-state
use Rattle.replay_images.proofs.state.from.Kinds as from-state-kinds
use Rattle.replay_images.proofs.state.put.Reads as put-state
use Rattle.replay_images.proofs.state.put.Kinds as put-state-kinds
use Rattle.replay_images.proofs.event.put.Reads as put-event
use Rattle.replay_images.proofs.event.put.Kinds as put-event-kinds

-- what is told fixes the answer
state_told : Answer Replay → (Result Replay Refusal)
state_told (got s) = Ok s
state_told (refused n p) = Err (refusal_of n)

state-told : (x : (Result Replay Refusal)) → state_told (told_state x) ≡ x
unfolding state_told
state-told (Ok s) = refl
state-told (Err r) = ap Err (refusal_back r)

pub from_state_one : AnyTwo 1 from-state-kinds.ps from-state-kinds.r from-state.Post (λ κs x y s t. x ≡ y)
from_state_one κs a x y s t p q = sym (state-told x) ∙ ap state_told (p ∙ sym q) ∙ state-told y

pub put_state_one : AnyTwo 1 put-state-kinds.ps put-state-kinds.r put-state.Post (λ κs x y s t. s.1.0.now ≡ t.1.0.now)
put_state_one κs a x y s t p q = p ∙ sym q

pub put_event_one : AnyTwo 1 put-event-kinds.ps put-event-kinds.r put-event.Post (λ κs x y s t. s.1.1.0.now ≡ t.1.1.0.now)
put_event_one κs a x y s t p q = p ∙ sym q

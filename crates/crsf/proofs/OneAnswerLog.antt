-- Any two answers that the contract of the replay allows coincide, and so do the bytes that are left of the replay and of the event. `Post`
-- is the contract as the check reads it from the source, and no copy of it. Assumes nothing.
use mathlib.Core.Path.{◌≡◌, sym, ◌∙◌}
use Rattle.images.proofs.AnyTwo.{AnyTwo}
use Rattle.crsf.proofs.log.crsf_replay.Reads as replay
use Rattle.crsf.proofs.log.crsf_replay.Kinds as replay-kinds

pub replay_one : AnyTwo 3 replay-kinds.ps replay-kinds.r replay.Post
    (λ κs x y s t. (x ≡ y) × ((s.0.now ≡ t.0.now) × (s.1.1.1.0.now ≡ t.1.1.1.0.now)))
replay_one κs a x y s t p q = (p.word ∙ sym q.word, (p.state ∙ sym q.state, p.event ∙ sym q.event))

-- `state::put` meets its contract: part by part, each behind the one before. Assumes nothing.
use mathlib.Core.Path.{refl, ◌∙◌}
use Rattle.images.proofs.TextLaws.{front_not, flag-byte}
use Rattle.replay_images.specs.State.{state_image}
use Rattle.replay_images.proofs.Put.{state-put}
use Rattle.replay_images.proofs.state.put.Goals as goal

pub returns-then-out-lt-REPLAY_SIZE : goal.returns-then-out-lt-REPLAY_SIZE
returns-then-out-lt-REPLAY_SIZE c =
    front_not c.args.out.now (state_image c.args.state) 7 refl c.if-out-lt-REPLAY_SIZE.true

pub returns : goal.returns
returns c =
    state-put c.args.state c.args.out.now _ _ _ _ c.if-out-lt-REPLAY_SIZE.false (c.from.ensures ∙ flag-byte c.args.state.started)
    c.put_byte.ensures c.put_number.ensures c.put_number-2.ensures

-- `log::hand_out` meets its contract: both images have room. Assumes nothing.
use native.Mathlib.Omega.{arith}
use mathlib.Core.Path.{◌≡◌, ap, ◌∙◌}
use mathlib.Core.Bool.{Bool}
use lib.ListN.{length}
use Rattle.codec.specs.Writing.{put_at}
use Rattle.codec.proofs.Writes.{put-fits}
use Rattle.replay_images.specs.State.{state_image}
use Rattle.replay_images.specs.Event.{event_image}
use Rattle.replay_images.proofs.Put.{event-size}
use Rattle.crsf.specs.Log.{more}
use Rattle.crsf.proofs.Replayed.{more_is}
use borrow.Author.Rules.{rules}
use Rattle.crsf.proofs.log.hand_out.Goals as goal

pub returns : goal.returns
returns c =
    let long : length c.args.step.event.command.bytes ≡ 55 = search rules in
    let given = c.args in
    let event = given.step.event in
    let after = given.step.state in record {
      replay_after = c.put.ensures ∙ put-fits given.replay.now 0 (state_image after) (omega (arith, c.requires.0));
      event_after = c.put-2.ensures
          ∙ ap (λ (m : Bool). put_at given.event.now 0 (event_image m event)) (more_is after)
          ∙ put-fits given.event.now 0 (event_image (more after) event)
          (omega (arith, c.requires.1, event-size (more after) event (long)));
    }

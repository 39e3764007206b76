-- `event::put` meets its contract. Assumes nothing.
use mathlib.Core.Path.{◌≡◌, refl}
use lib.ListN.{length}
use Rattle.images.specs.Record.{record_image}
use Rattle.images.proofs.TextLaws.{front_not, behind-put}
use Rattle.images.proofs.RecordLaws.{record_size_lem}
use Rattle.replay_images.specs.Event.{head_image, event_image}
use Rattle.replay_images.proofs.Put.{event-size}
use borrow.Author.Rules.{rules}
use Rattle.replay_images.proofs.event.put.Goals as goal

pub returns-then-out-lt-EVENT_SIZE : goal.returns-then-out-lt-EVENT_SIZE
returns-then-out-lt-EVENT_SIZE c =
    let long : length c.args.event.command.bytes ≡ 55 = search rules in
    let event = c.args.event in
    front_not c.args.out.now (event_image c.args.more event) 80 (event-size c.args.more event (long)) c.if-out-lt-EVENT_SIZE.true

pub returns : goal.returns
returns c =
    let long : length c.args.event.command.bytes ≡ 55 = search rules in
    let event = c.args.event in
    behind-put (head_image c.args.more event) (record_image event.command) c.args.out.now _ _ 10 70 c.if-out-lt-EVENT_SIZE.false refl (record_size_lem event.command (long))
    c.put_head.ensures c.put.ensures

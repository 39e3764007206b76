-- An ACK's image out: too short a slice, a refusal, or the image. Assumes nothing.
use native.Mathlib.Omega.{arith}
use mathlib.Core.Path.{◌≡◌}
use lib.ListN.{length}
use Rattle.families.specs.Ack.{new_ack, ack_with, acked}
use Rattle.images.specs.Ack.{ack_image, image_of_ack}
use Rattle.images.proofs.AckLaws.{ack_size, ack_image_lem}
use Rattle.crsf.proofs.Handed.{short, in_room, refuses, hands}
use Rattle.crsf.proofs.Refusals.{ack_some}
use borrow.Author.Rules.{rules}
use Rattle.crsf.proofs.made.crsf_ack.Goals as goal

pub returns-then-ack-lt-ACK_SIZE : goal.returns-then-ack-lt-ACK_SIZE
returns-then-ack-lt-ACK_SIZE c = short image_of_ack 56 _ _ _ c.if-ack-lt-ACK_SIZE.true c.refused.ensures

pub returns-in-Ok : goal.returns-in-Ok
returns-in-Ok c =
    let made = c.in-Ok.made in
    let long : length made.bytes ≡ 55 = search rules in
    let k = ack_with c.args.command_id c.args.sub_command_id c.args.action in
    let a = new_ack k c.args.information.now in
    in_room image_of_ack 56 c.args.ack.now a 0 _ c.if-ack-lt-ACK_SIZE.false
    (hands image_of_ack acked _ a made (ack_image made.ack made.len made.bytes) _ c.in-Ok.ensures (λ v e. ack_image_lem v made e)
    (omega (arith, ack_size made.ack made.len made.bytes long)) c.put.ensures)

pub returns-in-Err : goal.returns-in-Err
returns-in-Err c =
    let k = ack_with c.args.command_id c.args.sub_command_id c.args.action in
    let information = c.args.information.now in
    let a = new_ack k information in
    in_room image_of_ack 56 c.args.ack.now a _ _ c.if-ack-lt-ACK_SIZE.false
    (refuses image_of_ack acked _ a (ack_some k information) _ _ c.in-Err.ensures c.refused-in-Err.ensures)

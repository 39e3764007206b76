-- An ACK's image at the front, or no room for it. Assumes nothing.
use Rattle.images.specs.Ack.{ack_image}
use Rattle.images.proofs.TextLaws.{front_not}
use Rattle.images.proofs.AckLaws.{ack_size, ack_put}
use borrow.Author.Rules.{rules}
use Rattle.images.proofs.ack.put.Goals as goal

pub returns-in_default : goal.returns-in_default
returns-in_default c =
    let answer = c.args.answer in
    front_not c.args.out.now (ack_image answer.ack answer.len answer.bytes) 56
    (ack_size answer.ack answer.len answer.bytes (search rules)) c.in_default.ensures.cases

pub returns : goal.returns
returns c =
    let answer = c.args.answer in
    let first = c.in-Some.ensures.cases in
    ack_put c.args.out.now c.in-Some.image.now _ answer.ack answer.len answer.bytes (search rules) first.enough first.same c.put_at.ensures

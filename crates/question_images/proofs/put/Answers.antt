-- `put` meets its contract: part by part, each behind the one before. Assumes nothing.
use mathlib.Core.Path.{◌≡◌, ◌∙◌}
use lib.ListN.{length}
use Rattle.images.proofs.TextLaws.{front_not, flag-byte}
use Rattle.question_images.specs.Image.{question_image}
use Rattle.question_images.proofs.Putting.{question-size, question-put}
use borrow.Author.Rules.{rules}
use Rattle.question_images.proofs.put.Goals as goal

pub returns-then-out-lt-QUESTION_SIZE : goal.returns-then-out-lt-QUESTION_SIZE
returns-then-out-lt-QUESTION_SIZE c =
    let long : length c.args.question.popup.bytes ≡ 55 = search rules in
    let question = c.args.question in
    front_not c.args.out.now (question_image question) 66 (question-size question (long)) c.if-out-lt-QUESTION_SIZE.true

pub returns : goal.returns
returns c =
    let long : length c.args.question.popup.bytes ≡ 55 = search rules in
    question-put c.args.question c.args.out.now _ _ _ _ _ _ _ c.if-out-lt-QUESTION_SIZE.false (long)
    (c.from.ensures ∙ flag-byte c.args.question.started)
    (c.from-2.ensures ∙ flag-byte c.args.question.«open») c.put_byte.ensures c.put_byte-2.ensures
    c.put_number.ensures c.put_number-2.ensures c.put.ensures

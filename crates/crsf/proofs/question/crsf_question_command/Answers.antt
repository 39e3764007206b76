-- A command was sent, or has arrived: the image of no question, of no record, or what the question answers. Assumes nothing.
use Rattle.images.specs.Record.{record_from}
use Rattle.questions.specs.Kept.{call_of}
use Rattle.crsf.specs.Question.{commanding, call_in}
use Rattle.crsf.proofs.Refusals.{record_some}
use Rattle.crsf.proofs.Questioned.{calls, calls-not, no-question, question-room, not-called, is_called}
use Rattle.crsf.proofs.question.crsf_question_command.Goals as goal

pub hand_back-requires : goal.hand_back-requires
hand_back-requires c = question-room c.args.image.now c.in-Ok.question c.in-Ok.ensures

pub returns : goal.returns
returns c =
    let given = c.args in
    is_called given.image.now c.in-Ok.question c.in-Ok.ensures _ (call_of given.second c.in-Ok-from.command) _ _ _ _
    (calls (record_from given.command.now) (call_of given.second) _ c.in-Ok-from.ensures) c.command-reply.ensures c.hand_back.ensures

pub returns-in-Err-from : goal.returns-in-Err-from
returns-in-Err-from c =
    let given = c.args in
    not-called given.image.now c.in-Ok.question c.in-Ok.ensures _ c.in-Err-from.why _
    (calls-not (record_from given.command.now) (call_of given.second) _ (record_some given.command.now) c.in-Err-from.ensures)
    c.refused-in-Err-from.ensures

pub returns-in-Err : goal.returns-in-Err
returns-in-Err c =
    let given = c.args in
    no-question given.image.now (call_in (commanding given.second given.command.now)) c.in-Err.why _ c.in-Err.ensures c.refused.ensures

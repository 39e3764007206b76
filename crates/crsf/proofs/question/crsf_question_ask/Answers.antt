-- A popup is sent: the image of no question, of no popup, or what the question answers. Assumes nothing.
use Rattle.images.specs.Popup.{popup_from}
use Rattle.questions.specs.Table.{asks}
use Rattle.crsf.specs.Question.{asking, call_in}
use Rattle.crsf.proofs.Refusals.{popup-some}
use Rattle.crsf.proofs.Questioned.{calls, calls-not, no-question, question-room, not-called, is_called}
use Rattle.crsf.proofs.question.crsf_question_ask.Goals as goal

pub hand_back-requires : goal.hand_back-requires
hand_back-requires c = question-room c.args.image.now c.in-Ok.question c.in-Ok.ensures

pub returns : goal.returns
returns c =
    let given = c.args in
    is_called given.image.now c.in-Ok.question c.in-Ok.ensures _ (asks given.second c.in-Ok-from.popup) _ _ _ _
    (calls (popup_from given.popup.now) (asks given.second) _ c.in-Ok-from.ensures) c.ask-reply.ensures c.hand_back.ensures

pub returns-in-Err-from : goal.returns-in-Err-from
returns-in-Err-from c =
    let given = c.args in
    not-called given.image.now c.in-Ok.question c.in-Ok.ensures _ c.in-Err-from.why _
    (calls-not (popup_from given.popup.now) (asks given.second) _ (popup-some given.popup.now) c.in-Err-from.ensures)
    c.refused-in-Err-from.ensures

pub returns-in-Err : goal.returns-in-Err
returns-in-Err c =
    let given = c.args in
    no-question given.image.now (call_in (asking given.second given.popup.now)) c.in-Err.why _ c.in-Err.ensures c.refused.ensures

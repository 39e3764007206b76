-- A value is returned: the image of no question, or what the question answers. Assumes nothing.
use mathlib.Core.Path.{refl}
use Rattle.questions.specs.Table.{returns as returned}
use Rattle.crsf.specs.Question.{returning, call_in}
use Rattle.crsf.proofs.Questioned.{no-question, question-room, is_called}
use Rattle.crsf.proofs.question.crsf_question_return.Goals as goal

pub hand_back-requires : goal.hand_back-requires
hand_back-requires c = question-room c.args.image.now c.in-Ok.question c.in-Ok.ensures

pub returns : goal.returns
returns c =
    let given = c.args in
    is_called given.image.now c.in-Ok.question c.in-Ok.ensures _ (returned given.second given.value given.response) _ _ _ _ refl
    c.returned-reply.ensures c.hand_back.ensures

pub returns-in-Err : goal.returns-in-Err
returns-in-Err c =
    let given = c.args in
    no-question given.image.now (call_in (returning given.second given.value given.response)) c.in-Err.why _ c.in-Err.ensures c.refused.ensures

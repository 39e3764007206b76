-- `edit` meets its contract. Assumes nothing.
use Rattle.edits.proofs.Turns.{opened_is, refused_is, edit-refused}
use Rattle.edits.proofs.edit.Goals as goal

pub answer_edit-requires : goal.answer_edit-requires
answer_edit-requires c =
    opened_is c.args.payload.now c.«open».result c.in-Ok.layout
    c.in-Ok.is c.«open».ensures

pub returns-in-Err : goal.returns-in-Err
returns-in-Err c =
    rw c.answer.ensures (edit-refused c.args.payload.now c.in-Err.r
    (refused_is c.args.payload.now c.«open».result c.in-Err.r c.in-Err.is
    c.«open».ensures) c.args.field c.args.number)

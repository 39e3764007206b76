-- `carry_out` meets its contract. Assumes nothing.
use native.Mathlib.Omega.{arith}
use Rattle.edits.proofs.Turns.{opened_is, refused_is, list_done, list_refused}
use Rattle.edits.proofs.carry_out.Goals as goal

pub apply_each-requires : goal.apply_each-requires
apply_each-requires c = (
  opened_is c.args.payload.now c.«open».result c.in-Ok.layout
      c.in-Ok.is c.«open».ensures,
  omega (arith, c.if-answers-count.false),
)

pub returns-in-Ok : goal.returns-in-Ok
returns-in-Ok c =
    list_done c.args.edits.now c.args.payload.now _ c.args.answers.now _
    c.if-edits-ne0.false (omega (arith, c.if-answers-count.false)) c.apply_each.ensures

pub returns-in-Err : goal.returns-in-Err
returns-in-Err c =
    list_refused c.args.edits.now c.args.payload.now c.args.answers.now _
    c.in-Err.r c.answer.result c.if-edits-ne0.false (omega (arith, c.if-answers-count.false))
    (refused_is c.args.payload.now c.«open».result c.in-Err.r c.in-Err.is
    c.«open».ensures) c.answer.ensures c.answer_all.ensures

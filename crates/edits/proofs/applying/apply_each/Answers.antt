-- `applying::apply_each` meets its contract. Assumes nothing.
use mathlib.Core.Path.{◌∙◌}
use native.Mathlib.Omega.{arith}
use lib.ListN.{length-set}
use Rattle.edits.proofs.Turns.{turns_next}
use Rattle.edits.proofs.applying.apply_each.Goals as goal

pub loop-done-preserved : goal.loop-done-preserved
loop-done-preserved c =
    let before = c.loop-done.invariant in
    let step = c.in-Some.ensures.steps in
    let next = turns_next c.args.edits.now c.args.payload.now c.args.answers.now c.loop-done.payload c.loop-done.answers
    c.answer_edit.new.payload _ _ _ _ c.long_at-field.result c.long_at-number.result c.answer_edit.result step.0.1.0
    (step.0.1.1 ∙ before.size) c.long_at-field.ensures c.long_at-number.ensures c.answer_edit.ensures.0 before.turns in
    record {
      payload_length = omega (arith, before.payload_length);
      answers_length = length-set _ _ _ ∙ before.answers_length;
      opened = c.answer_edit.ensures.1;
      size = step.0.0 ∙ before.size;
      turns = rw (step.1, step.2) next;
    }

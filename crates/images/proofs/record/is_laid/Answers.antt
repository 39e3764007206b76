-- Another id, or what the values say. Assumes nothing.
use native.Mathlib.Omega.{arith}
use Rattle.images.proofs.RecordLaws.{values_decide}
use Rattle.images.proofs.record.is_laid.Goals as goal

pub returns-then-image-command_id : goal.returns-then-image-command_id
returns-then-image-command_id c =
    values_decide c.args.image.now c.payload_laid-values.result c.args.payload c.command_id.result _ (omega arith)
    c.command_id.ensures c.if-image-command_id.true c.payload_laid-values.ensures c.starts_with.ensures.value

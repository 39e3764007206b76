-- A record's image at the front, or no room for it. Assumes nothing.
use mathlib.Core.Path.{◌∙◌}
use Rattle.images.specs.Record.{record_image}
use Rattle.images.proofs.TextLaws.{front_not}
use Rattle.images.proofs.RecordLaws.{record_size_lem, record_put}
use borrow.Author.Rules.{rules}
use Rattle.images.proofs.record.put.Goals as goal

pub returns-in_default : goal.returns-in_default
returns-in_default c =
    front_not c.args.out.now (record_image c.args.command) 70 (record_size_lem c.args.command (search rules)) c.in_default.ensures.cases

pub returns : goal.returns
returns c =
    let first = c.in-Some.ensures.cases in
    record_put c.args.out.now c.in-Some.image.now _ _ c.args.command c.command_id.result (search rules) first.enough first.same
    (c.copy_from_slice.ensures.after ∙ c.payload_laid-values.ensures) c.command_id.ensures c.put_at.ensures

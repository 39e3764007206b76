-- A record's image in: none, or what writing its command answers. Assumes nothing.
use Rattle.images.specs.Record.{record_from}
use Rattle.crsf.proofs.Refusals.{record_some}
use Rattle.images.proofs.WordLaws.{writes-on, writes-not}
use Rattle.crsf.proofs.command.crsf_write.Goals as goal

pub returns-in-Ok : goal.returns-in-Ok
returns-in-Ok c =
    writes-on (record_from c.args.image.now) (record_some c.args.image.now)
    c.from.result c.from.ensures _ c.to_bytes.result _ _ _
    c.in-Ok.is c.to_bytes.ensures c.written.ensures

pub returns-in-Err : goal.returns-in-Err
returns-in-Err c =
    writes-not (record_from c.args.image.now) (record_some c.args.image.now)
    c.from.result c.from.ensures c.in-Err.why _ _ c.in-Err.is
    c.refused.ensures

-- `command_again` meets its contract. Assumes nothing.
use Rattle.commands.specs.Reading.{read_command}
use Rattle.commands.proofs.Known.{read_some}
use Rattle.images.proofs.WordLaws.{writes-on, writes-not}
use Rattle.again.proofs.command_again.Goals as goal

pub returns-in-Ok : goal.returns-in-Ok
returns-in-Ok c =
    let payload = c.args.payload.now in
    writes-on (read_command payload) (read_some payload) c.from_bytes.result
    c.from_bytes.ensures _ c.to_bytes.result _ _ _ c.in-Ok.is
    c.to_bytes.ensures c.written.ensures

pub returns-in-Err : goal.returns-in-Err
returns-in-Err c =
    let payload = c.args.payload.now in
    writes-not (read_command payload) (read_some payload) c.from_bytes.result
    c.from_bytes.ensures c.in-Err.why _ _ c.in-Err.is
    c.refused.ensures

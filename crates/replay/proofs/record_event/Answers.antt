-- `record_event` meets its contract. Assumes nothing.
use Rattle.commands.specs.Reading.{read_command}
use Rattle.commands.proofs.Known.{read_some}
use Rattle.replay.proofs.Cases.{record_read, record_refused}
use Rattle.replay.proofs.record_event.Goals as goal

pub returns-in-Ok : goal.returns-in-Ok
returns-in-Ok c = record_read c.args.block c.args.place (read_command c.args.payload.now) c.in-Ok.command c.in-Ok.ensures

pub returns-in-Err : goal.returns-in-Err
returns-in-Err c =
    let payload = c.args.payload.now in
    rw c.blank.ensures
    (record_refused c.args.block c.args.place (read_command payload) c.in-Err.why _ (read_some payload) c.in-Err.ensures c.from.ensures)

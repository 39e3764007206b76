-- `opening::open` meets its contract. Assumes nothing.
use Rattle.crc.proofs.Laws.{bytes_of_lem}
use Rattle.codec.proofs.Outcomes.{err_is}
use Rattle.edits.proofs.AsWritten.{read_room, opens-judged, opens-refused}
use Rattle.edits.proofs.opening.open.Goals as goal

pub returns-in_err-read : goal.returns-in_err-read
returns-in_err-read c = rw (err_is _ _ c.from_residual.ensures) (opens-refused c.args.payload.now c.read.result _ c.read.ensures c.in_err-read.was)

pub judge-requires : goal.judge-requires
judge-requires c =
    read_room c.args.payload.now c.read.result _ _
    (bytes_of_lem c.args.payload.now c.type_inv.payload) c.read.ensures
    c.in_ok-read.was

pub returns : goal.returns
returns c =
    opens-judged c.args.payload.now c.read.result _ _ c.judge.result c.read.ensures
    c.in_ok-read.was c.judge.ensures

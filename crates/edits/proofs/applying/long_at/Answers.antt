-- `applying::long_at` meets its contract. Assumes nothing.
use Rattle.crc.proofs.Laws.{bytes_of_lem}
use Rattle.edits.proofs.Places.{long-got, long-not}
use Rattle.edits.proofs.applying.long_at.Goals as goal

pub returns-in-Ok : goal.returns-in-Ok
returns-in-Ok c =
    long-got c.args.bytes.now c.args.at _ c.read_number.result
    (bytes_of_lem c.args.bytes.now c.type_inv.bytes) c.requires
    c.in-Ok.is c.read_number.ensures.0

pub returns-in-Err : goal.returns-in-Err
returns-in-Err c =
    long-not c.args.bytes.now c.args.at c.read_number.result _
    (bytes_of_lem c.args.bytes.now c.type_inv.bytes) c.requires
    c.in-Err.is c.read_number.ensures.0

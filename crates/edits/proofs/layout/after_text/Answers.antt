-- `layout::after_text` meets its contract. Assumes nothing.
use Rattle.edits.proofs.Places.{after-got, after_none}
use Rattle.edits.proofs.layout.after_text.Goals as goal

pub returns-in-Ok : goal.returns-in-Ok
returns-in-Ok c =
    after-got c.args.payload.now c.args.at _ c.read_text.result
    c.in-Ok.is c.read_text.ensures

pub returns-in-Err : goal.returns-in-Err
returns-in-Err c = after_none c.args.payload.now
    c.args.at c.read_text.result _ c.in-Err.is
    c.read_text.ensures

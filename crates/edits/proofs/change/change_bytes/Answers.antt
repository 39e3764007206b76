-- `change::change_bytes` meets its contract. Assumes nothing.
use Rattle.edits.proofs.Patched.{check-put}
use Rattle.edits.proofs.change.change_bytes.Goals as goal

pub returns : goal.returns
returns c =
    check-put c.args.payload.now _ c.args.row.place c.args.row.width _ _ _ _ _ _ c.requires.there
    c.put_field.ensures c.check-before.ensures c.check-after.ensures
    c.check_with_zeros.ensures

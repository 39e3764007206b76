-- `change::put_field` meets its contract. Assumes nothing.
use Rattle.crc.proofs.Laws.{bytes_of_lem}
use Rattle.edits.proofs.Patched.{number-held, never_refused, field_put}
use Rattle.edits.proofs.change.put_field.Goals as goal

pub replace-requires : goal.replace-requires
replace-requires c =
    let s = c.args.payload.now in
    let y = bytes_of_lem s c.slice_known-1.given in (
      c.requires.counts,
      (
        c.requires.values,
        rw (number-held s c.args.row.place _ c.args.row.width y c.width_of-width.ensures
            c.requires.few c.requires.there _ _ c.in-Ok.is
            c.read_number.ensures.0) c.requires.fits,
      ),
    )

pub returns-in-Ok : goal.returns-in-Ok
returns-in-Ok c =
    let s = c.args.payload.now in
    let y = bytes_of_lem s c.slice_known-1.given in
    let x = number-held s c.args.row.place _ c.args.row.width y c.width_of-width.ensures
    c.requires.few c.requires.there _ _ c.in-Ok.is
    c.read_number.ensures.0 in
    field_put s _ c.args.row.place _ c.args.row.width _ _ _ _ _ c.width_of-width.ensures
    c.requires.there x c.replace.ensures c.put_number.ensures

pub returns-in-Err : goal.returns-in-Err
returns-in-Err c =
    let s = c.args.payload.now in
    let y = bytes_of_lem s c.slice_known-1.given in
    absurd (never_refused s c.args.row.place _ c.args.row.width y c.width_of-width.ensures
    c.requires.few c.requires.there _ _ c.in-Err.is
    c.read_number.ensures.0)

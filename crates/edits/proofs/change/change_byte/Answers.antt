-- `change::change_byte` meets its contract. Assumes nothing.
use native.Mathlib.Omega.{arith}
use lib.Seq.{lt-length-set}
use Rattle.edits.proofs.Patched.{byte-number, check-byte}
use Rattle.edits.proofs.change.change_byte.Goals as goal

pub overflow_cast-old : goal.overflow_cast-old
overflow_cast-old c =
    let h = (c.type_inv.payload c.args.row.place).fits in
    record { fits = omega (arith, h) }

pub replace-requires : goal.replace-requires
replace-requires c =
    let takes = rw c.requires.1 at c.requires.0 in (
      takes.counts,
      (
        takes.values,
        rw (byte-number c.args.payload.now c.args.row.place (omega (arith, takes.there))) at takes.fits,
      ),
    )

pub bounds-payload-last : goal.bounds-payload-last
bounds-payload-last c =
    lt-length-set c.args.payload.now c.args.row.place _ (omega (arith, c.requires.0.there))

pub bounds-payload-last-2 : goal.bounds-payload-last-2
bounds-payload-last-2 c =
    lt-length-set c.args.payload.now c.args.row.place _ (omega (arith, c.requires.0.there))

pub returns : goal.returns
returns c =
    let takes = rw c.requires.1 at c.requires.0 in
    rw c.requires.1 (check-byte c.args.payload.now c.args.row.place c.args.row.unit c.args.row.many
    c.args.number _ _ (c.slice_known-1.given c.args.row.place).fits takes.there
    c.replace.ensures c.check_with_zeros.ensures)

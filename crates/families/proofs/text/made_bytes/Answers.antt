-- Whether stored bytes are made, of slices of any length. Assumes nothing.
use mathlib.Core.Path.{sym, ◌∙◌}
use native.Mathlib.Omega.{arith}
use lib.Seq.{length-take-le}
use borrow.Author.Tests.{le-leb, lt-leb}
use Rattle.families.proofs.Stored.{made-short}
use Rattle.families.proofs.text.made_bytes.Goals as goal

pub returns-then-most-len : goal.returns-then-most-len
returns-then-most-len c = rw (lt-leb _ _ c.if-most-len.true)

pub returns-then-bytes-len : goal.returns-then-bytes-len
returns-then-bytes-len c = c.all_nonzero.ensures
    ∙ sym (made-short c.args.most c.args.len
    c.args.bytes.now c.if-most-len.false c.if-bytes-len.true)

pub slice_bounds-all_nonzero-end : goal.slice_bounds-all_nonzero-end
slice_bounds-all_nonzero-end c = sym (length-take-le _ _ (omega arith))

pub returns-then-all_nonzero : goal.returns-then-all_nonzero
returns-then-all_nonzero c =
    rw (le-leb _ _ c.if-most-len.false, ← c.all_nonzero-2.ensures, c.if-all_nonzero.true) c.zero_after.ensures

pub returns : goal.returns
returns c = rw (le-leb _ _ c.if-most-len.false, ← c.all_nonzero-2.ensures, c.if-all_nonzero.false)

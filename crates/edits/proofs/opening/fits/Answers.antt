-- `opening::fits` meets its contract. Assumes nothing.
use borrow.Author.Tests.{eq-eqb, ne_eqb}
use Rattle.edits.proofs.opening.fits.Goals as goal

pub returns-then-len-layout : goal.returns-then-len-layout
returns-then-len-layout c =
    rw (eq-eqb c.args.len c.args.layout.size c.if-len-layout.true)

pub returns-else-len-layout : goal.returns-else-len-layout
returns-else-len-layout c =
    rw (ne_eqb c.args.len c.args.layout.size c.if-len-layout.false)

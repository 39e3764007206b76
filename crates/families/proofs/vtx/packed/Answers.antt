-- The pit byte is the number of its fields. Assumes nothing.
use native.Mathlib.Omega.{arith}
use Rattle.families.proofs.vtx.packed.Goals as goal

pub returns-then-mode : goal.returns-then-mode
returns-then-mode c = rw c.if-mode.true (omega arith)

pub returns-else-mode : goal.returns-else-mode
returns-else-mode c = rw c.if-mode.false (omega arith)

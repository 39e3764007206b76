-- `text::all_zero` meets its contract. Assumes nothing.
use mathlib.Core.Bool.{false}
use mathlib.Core.Path.{◌≡◌}
use lib.Dec.{eqb}
use lib.ListN.{drop}
use Rattle.codec.specs.Pick.{pick}
use Rattle.families.specs.Text.{zeros}
use Rattle.families.proofs.text.all_zero.Given as goal

abbrev pub invariant-loop-byte : goal.invariant-loop-byte
invariant-loop-byte l = zeros l.s ≡ pick (eqb l.seen 0) (zeros (drop l.byte-index l.s)) false

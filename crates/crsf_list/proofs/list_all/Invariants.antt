-- `list_all` meets its contract: the state is that after the chunks read. Assumes nothing.
use mathlib.Core.Path.{◌≡◌}
use lib.ListN.{length}
use Rattle.listing.specs.Chunks.{After}
use Rattle.crsf_list.proofs.list_all.Given as goal

abbrev pub invariant-loop-chunks : goal.invariant-loop-chunks
invariant-loop-chunks l =
    After l.chunks l.state × ((length l.text ≡ length l.initial.text) × (length l.input ≡ length l.initial.input))

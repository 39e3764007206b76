-- `list_chunk` meets its contract: state and place are those behind so many parts, so that the next part is what is handed to be written.
-- Each part moves on in the chunk. Assumes nothing.
use Prim.Native.Nat.{◌-◌}
use mathlib.Core.Path.{◌≡◌}
use lib.ListN.{length}
use Rattle.listing.proofs.Parts.{SoFar}
use Rattle.crsf_list.proofs.list_chunk.Given as goal

abbrev pub invariant-loop-listed : goal.invariant-loop-listed
invariant-loop-listed l =
    SoFar (length l.initial.text) l.first l.input l.turn l.state l.at × (length l.text ≡ length l.initial.text)

abbrev pub decreases-loop-listed : goal.decreases-loop-listed
decreases-loop-listed l = length l.input - l.at

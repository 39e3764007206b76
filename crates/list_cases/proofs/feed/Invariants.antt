-- `feed` meets its contract: the text so far is within its room. Assumes nothing.
use Prim.Native.Nat.{◌≤◌}
use mathlib.Core.Path.{◌≡◌}
use lib.ListN.{length}
use Rattle.list_cases.proofs.feed.Given as goal

abbrev pub invariant-loop-chunk : goal.invariant-loop-chunk
invariant-loop-chunk l =
    (goal.iterator-loop-chunk).can_next l.chunk-iterator
    × ((goal.iterator-loop-chunk).is_finite l.chunk-iterator
    × ((l.len ≤ length l.initial.text) × (length l.text ≡ length l.initial.text)))

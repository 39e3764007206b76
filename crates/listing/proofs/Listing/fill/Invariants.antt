-- `Listing::fill` meets its contract: the loop keeps `Filling`, and each of its ends is a law of it. Assumes nothing.
use Prim.Native.Nat.{◌-◌}
use lib.ListN.{length}
use Rattle.listing.proofs.Parts.{Filling}
use Rattle.listing.proofs.Listing.fill.Given as goal

abbrev pub invariant-loop-step : goal.invariant-loop-step
invariant-loop-step l = Filling l.initial.state l.input l.at l.initial.text l.state l.place l.len l.text

abbrev pub decreases-loop-step : goal.decreases-loop-step
decreases-loop-step l = length l.initial.text - l.len

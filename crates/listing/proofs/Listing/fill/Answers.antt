-- `Listing::fill` meets its contract: the loop keeps `Filling`, and each of its ends is a law of it. Assumes nothing.
use Rattle.listing.proofs.Parts.{filling_starts, filling_used, filling_refused, filling_full, filling_turn}
use Rattle.listing.proofs.Listing.fill.Goals as goal

pub loop-step-init : goal.loop-step-init
loop-step-init c = filling_starts _ _ _ _

-- beyond its limits
pub returns-in-Err : goal.returns-in-Err
returns-in-Err c =
    let both = filling_refused c.loop-step.invariant c.in-Err.why c.in-Err.ensures in
    record { fills_from = both.0; moves = both.1 }

-- there is no line
pub returns-in_default : goal.returns-in_default
returns-in_default c =
    let both = filling_used c.loop-step.invariant c.in-Ok.step c.in-Ok.ensures c.in_default.is in
    record { fills_from = both.0; moves = both.1 }

-- there is one, without room
pub returns-then-put-eq0 : goal.returns-then-put-eq0
returns-then-put-eq0 c =
    let both = filling_full c.loop-step.invariant c.in-Ok.step c.in-Ok.ensures c.in-Some.is c.put_text-put.ensures c.if-put-eq0.true in
    record { fills_from = both.0; moves = both.1 }

-- with room
pub loop-step-preserved : goal.loop-step-preserved
loop-step-preserved c =
    filling_turn c.loop-step.invariant c.in-Ok.step c.in-Ok.ensures c.in-Some.is c.put_text-put.ensures c.if-put-eq0.false

-- `list_steps` meets its contract: the loop keeps `Listing`, and each of its ends is a law of it. Assumes nothing.
use Rattle.codec.proofs.Outcomes.{err_is}
use Rattle.replay_lines.proofs.Listing.{listing_starts, listing-within, listing-ends, listing_turn, listing_less, listing-stops}
use Rattle.replay_lines.proofs.list_steps.Goals as goal

pub loop-lines-init : goal.loop-lines-init
loop-lines-init c = listing_starts _ _ _ _

pub put_step-requires : goal.put_step-requires
put_step-requires c = listing-within c.loop-lines.invariant

pub returns-in_err-lines : goal.returns-in_err-lines
returns-in_err-lines c =
    listing-stops c.loop-lines.invariant c.requires.0 c.requires.1 _ c.in_err-lines.ensures _ (err_is _ _ c.from_residual.ensures)

pub returns-then-lines-eq0 : goal.returns-then-lines-eq0
returns-then-lines-eq0 c =
    listing-ends c.loop-lines.invariant c.requires.0 c.requires.1 _ c.in_ok-lines.ensures c.if-lines-eq0.true

pub loop-lines-smaller : goal.loop-lines-smaller
loop-lines-smaller c =
    listing_less c.loop-lines.invariant c.requires.0 c.requires.1 _ c.in_ok-lines.ensures c.if-lines-eq0.false

pub loop-lines-preserved : goal.loop-lines-preserved
loop-lines-preserved c =
    listing_turn c.loop-lines.invariant c.requires.0 c.requires.1 _ c.in_ok-lines.ensures c.if-lines-eq0.false

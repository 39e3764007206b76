-- `try_steps` meets its contract: each step goes on in the block, up to the last or the one that refuses. Assumes nothing.
use mathlib.Core.List.{[]}
use Rattle.codec.proofs.Outcomes.{err_is}
use Rattle.replay_lines.proofs.Stepping.{going_starts, tried-ends, tried_turn, tried_less, tried-stops}
use Rattle.replay_lines.proofs.try_steps.Goals as goal

pub loop-step-init : goal.loop-step-init
loop-step-init c = ([], going_starts _ _ _)

pub returns-in_err-step : goal.returns-in_err-step
returns-in_err-step c = tried-stops c.loop-step.invariant.1 _ _ (err_is _ _ c.from_residual.ensures) c.in_err-step.ensures

pub returns-then-at-eq0 : goal.returns-then-at-eq0
returns-then-at-eq0 c = tried-ends c.loop-step.invariant.1 c.in_ok-step.step c.in_ok-step.ensures c.if-at-eq0.true

pub loop-step-smaller : goal.loop-step-smaller
loop-step-smaller c = tried_less c.loop-step.invariant.1 c.in_ok-step.step c.in_ok-step.ensures c.if-at-eq0.false

pub loop-step-preserved : goal.loop-step-preserved
loop-step-preserved c = tried_turn c.loop-step.invariant.1 c.in_ok-step.step c.in_ok-step.ensures c.if-at-eq0.false

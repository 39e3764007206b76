-- `put_step` meets its contract. Assumes nothing.
use native.Mathlib.Omega.{arith}
use Rattle.codec.proofs.Outcomes.{err_is}
use Rattle.replay_lines.proofs.Listing.{put-within, none_puts, step_puts}
use Rattle.replay_lines.proofs.put_step.Goals as goal

pub overflow_add-result : goal.overflow_add-result
overflow_add-result c =
    record { fits = omega (arith, put-within c.put_text-put.ensures.put c.requires) }

pub returns-in_err-step : goal.returns-in_err-step
returns-in_err-step c =
    let given = c.args in
    none_puts given.state given.position given.block.now given.text.now given.at _ _ (err_is _ _ c.from_residual.ensures) c.in_err-step.ensures

pub returns : goal.returns
returns c = step_puts _ _ _ c.in_ok-step.step c.in_ok-step.ensures c.put_text-put.ensures

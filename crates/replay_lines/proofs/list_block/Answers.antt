-- `list_block` meets its contract: from a state between blocks no step refuses but the first; within one the steps are tried. Assumes nothing.
use native.Mathlib.Omega.{arith}
use Rattle.codec.proofs.Outcomes.{err_is}
use Rattle.replay_lines.specs.Lines.{OnceOn}
use Rattle.replay_lines.proofs.Stepping.{once_on}
use Rattle.replay_lines.proofs.Listing.{lists_short, lists_there, lists_tried, tried_on}
use Rattle.replay_lines.proofs.list_block.Goals.{then-state-ne0+in_ok-try_steps, else-state-ne0}
use Rattle.replay_lines.proofs.list_block.Goals as goal

pub returns-then-text-lt-MOST_TEXT : goal.returns-then-text-lt-MOST_TEXT
returns-then-text-lt-MOST_TEXT c =
    let given = c.args in
    lists_short given.state given.position given.block.now given.text.now c.if-text-lt-MOST_TEXT.true

pub returns-in_err-try_steps : goal.returns-in_err-try_steps
returns-in_err-try_steps c =
    let given = c.args in
    lists_there given.state given.position given.block.now given.text.now c.if-text-lt-MOST_TEXT.false
    (lists_tried given.state given.position given.block.now given.text.now _ _ (err_is _ _ c.from_residual.ensures) c.in_err-try_steps.ensures)

pub list_steps-requires : goal.list_steps-requires
list_steps-requires c =
    let given = c.args in
    let once : OnceOn given.state given.position given.block.now = elim c.if-state-ne0.branch [
      | then-state-ne0+in_ok-try_steps w ↦ tried_on given.state given.position given.block.now given.text.now w.in_ok-try_steps.ensures
      | else-state-ne0 w ↦ once_on given.state given.position given.block.now (omega (arith, w.if-state-ne0.false))
    ] in (c.if-text-lt-MOST_TEXT.false, once)

pub returns : goal.returns
returns c =
    let given = c.args in
    lists_there given.state given.position given.block.now given.text.now c.if-text-lt-MOST_TEXT.false c.list_steps.ensures

-- `record_at` meets its contract: each way out is one of the definition's. Assumes nothing.
use native.Mathlib.Omega.{arith}
use Rattle.blocks.proofs.Ways.{at_size, at-used, at_head, at-behind, at_none, at_there}
use Rattle.blocks.proofs.record_at.Goals.{then-at-lt-FIRST_RECORD-via-then-at-lt-FIRST_RECORD, then-at-lt-FIRST_RECORD-via-else-at-lt-FIRST_RECORD+then-used_end-at}
use Rattle.blocks.proofs.record_at.Goals as goal

pub returns-then-block-ne-BLOCK_SIZE : goal.returns-then-block-ne-BLOCK_SIZE
returns-then-block-ne-BLOCK_SIZE c = at_size c.args.block.now c.args.at c.if-block-ne-BLOCK_SIZE.true

pub returns-in_err-used_end : goal.returns-in_err-used_end
returns-in_err-used_end c =
    let args = c.args in
    rw c.from_residual.ensures (at-used args.block.now args.at c.if-block-ne-BLOCK_SIZE.false c.in_err-used_end.ensures)

pub returns-then-at-lt-FIRST_RECORD : goal.returns-then-at-lt-FIRST_RECORD
returns-then-at-lt-FIRST_RECORD c =
    let block = c.args.block.now in
    let at = c.args.at in
    let size = c.if-block-ne-BLOCK_SIZE.false in
    elim c.then-at-lt-FIRST_RECORD.branch [
      | then-at-lt-FIRST_RECORD-via-then-at-lt-FIRST_RECORD w ↦ at_head block at size _ c.in_ok-used_end.ensures (omega (arith, w.if-at-lt-FIRST_RECORD))
      | then-at-lt-FIRST_RECORD-via-else-at-lt-FIRST_RECORD+then-used_end-at w ↦
          at-behind block at size _ c.in_ok-used_end.ensures (omega (arith, w.if-at-lt-FIRST_RECORD)) (omega (arith, w.if-used_end-at))
    ]

pub returns-in_err-end : goal.returns-in_err-end
returns-in_err-end c =
    let args = c.args in
    rw c.from_residual-in_err-end.ensures
    (at_none args.block.now args.at c.if-block-ne-BLOCK_SIZE.false _ c.in_ok-used_end.ensures (omega arith) (omega arith) c.in_err-end.ensures)

pub returns : goal.returns
returns c =
    let args = c.args in
    at_there args.block.now args.at c.if-block-ne-BLOCK_SIZE.false _ c.in_ok-used_end.ensures (omega arith) (omega arith)
    c.block_number.result c.in_ok-end.end c.place_before.result c.block_number.ensures c.in_ok-end.ensures c.place_before.ensures

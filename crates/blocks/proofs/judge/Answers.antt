-- `judge` meets its contract: each way out is one of the definition's. Assumes nothing.
use mathlib.Core.Path.{sym, ◌∙◌}
use native.Mathlib.Omega.{arith}
use lib.Seq.{length-take-le}
use Rattle.codec.proofs.Outcomes.{err_is}
use Rattle.blocks.proofs.Ways.{used_ok, used_err, not_a_block, wrong_check, too_much_used, not-whole, not-filled, all_sound}
use Rattle.blocks.proofs.judge.Goals.{then-not-whole_records-via-then-not-whole_records, then-not-whole_records-via-else-not-whole_records+then-not-all_zero}
use Rattle.blocks.proofs.judge.Goals as goal

pub returns-then-block-ne-BLOCK_SIZE : goal.returns-then-block-ne-BLOCK_SIZE
returns-then-block-ne-BLOCK_SIZE c = not_a_block c.args.block.now c.if-block-ne-BLOCK_SIZE.true

pub returns-then-block-check : goal.returns-then-block-check
returns-then-block-check c =
    wrong_check c.args.block.now c.if-block-ne-BLOCK_SIZE.false c.check.result c.check.ensures c.if-block-check.true

pub returns-in_err-end : goal.returns-in_err-end
returns-in_err-end c =
    let block = c.args.block.now in
    let over = used_err block c.used_end.result _ _ c.used_end.ensures c.in_err-end.ensures.value in
    rw (err_is _ _ c.from_residual.ensures, over.1)
    (too_much_used block c.if-block-ne-BLOCK_SIZE.false c.check.result c.check.ensures c.if-block-check.false over.0)

pub returns-then-not-whole_records : goal.returns-then-not-whole_records
returns-then-not-whole_records c =
    let block = c.args.block.now in
    let size = c.if-block-ne-BLOCK_SIZE.false in
    let used = used_ok block c.used_end.result _ c.in_ok-end.end c.used_end.ensures c.in_ok-end.ensures.value in
    elim c.then-not-whole_records.branch [
      | then-not-whole_records-via-then-not-whole_records w ↦
          not-whole block size c.check.result c.check.ensures c.if-block-check.false _ used (sym w.if-not-whole_records.true ∙ c.whole_records.ensures)
      | then-not-whole_records-via-else-not-whole_records+then-not-all_zero w ↦
          not-filled block size c.check.result c.check.ensures c.if-block-check.false _ used
          (sym w.if-not-whole_records.false ∙ c.whole_records.ensures) (sym w.if-not-all_zero.true ∙ w.all_zero.ensures)
    ]

pub returns : goal.returns
returns c =
    let block = c.args.block.now in
    let used = used_ok block c.used_end.result _ c.in_ok-end.end c.used_end.ensures c.in_ok-end.ensures.value in
    all_sound block c.if-block-ne-BLOCK_SIZE.false c.check.result c.check.ensures c.if-block-check.false _ used
    (sym c.if-not-whole_records.false ∙ c.whole_records.ensures)
    (sym c.if-not-all_zero.false ∙ c.all_zero.ensures)
    c.block_number.result c.place_before.result c.block_number.ensures c.place_before.ensures

pub slice_bounds-check-end : goal.slice_bounds-check-end
slice_bounds-check-end c = sym (length-take-le 511 c.args.block.now (omega arith))

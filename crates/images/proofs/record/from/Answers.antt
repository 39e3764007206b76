-- The record of an image: another image, or its parts. Assumes nothing.
use mathlib.Core.Bool.{true, false}
use mathlib.Core.Path.{◌≡◌, ap, sym, ◌∙◌}
use native.Mathlib.Omega.{arith}
use Prim.Native.Nat.{◌<◌}
use lib.ListN.{length, get_or}
use Rattle.images.specs.Record.{record_from}
use Rattle.images.proofs.RecordLaws.{from-laid, not_told, record_got}
use Rattle.images.proofs.record.from.Goals as goal

pub returns-then-not-is_laid : goal.returns-then-not-is_laid
returns-then-not-is_laid c =
    let image = c.in-Some.image.now in
    let whole = c.in-Some.ensures.cases in
    let l : length image ≡ 70 = rw whole.same whole.long in
    let b : get_or image 14 0 < 256 = rw whole.same (omega (arith, c.type_inv.image 14)) in
    not_told (record_from c.args.image.now)
    (ap record_from (sym whole.same)
    ∙ from-laid image c.payload_at-payload.result false c.is_laid.result l b
    c.payload_at-payload.ensures c.is_laid.ensures c.if-not-is_laid.true)

pub returns : goal.returns
returns c =
    let image = c.in-Some.image.now in
    let l : length image ≡ 70 = omega arith in
    record_got c.args.image.now image _ c.payload_at-payload.result c.in-Some.ensures.cases.same l c.payload_at-payload.ensures
    (from-laid image c.payload_at-payload.result true c.is_laid.result l (omega arith)
    c.payload_at-payload.ensures c.is_laid.ensures c.if-not-is_laid.false)
    c.copy_from_slice.ensures.after

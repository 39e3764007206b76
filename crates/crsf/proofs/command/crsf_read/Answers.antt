-- A record's image out: too short a slice, a refusal, or the image. Assumes nothing.
use native.Mathlib.Omega.{arith}
use mathlib.Core.Path.{◌≡◌, ap}
use lib.ListN.{length}
use Rattle.commands.specs.Reading.{read_command}
use Rattle.images.specs.Record.{record_image}
use Rattle.images.proofs.RecordLaws.{record_size_lem}
use Rattle.crsf.proofs.Handed.{short, in_room, refuses, hands}
use Rattle.commands.proofs.Known.{read_some}
use borrow.Author.Rules.{rules}
use Rattle.crsf.proofs.command.crsf_read.Goals as goal

pub returns-then-image-lt-RECORD_SIZE : goal.returns-then-image-lt-RECORD_SIZE
returns-then-image-lt-RECORD_SIZE c = short record_image 70 _ _ _ c.if-image-lt-RECORD_SIZE.true c.refused.ensures

pub returns-in-Ok : goal.returns-in-Ok
returns-in-Ok c =
    let read = c.in-Ok.command in
    let long : length read.bytes ≡ 55 = search rules in
    let image = c.args.image.now in
    let a = read_command c.args.payload.now in
    in_room record_image 70 image a 0 _ c.if-image-lt-RECORD_SIZE.false
    (hands record_image (λ k. k) image a read (record_image read) _ c.in-Ok.ensures (λ v e. ap record_image e)
    (omega (arith, record_size_lem read long)) c.put.ensures)

pub returns-in-Err : goal.returns-in-Err
returns-in-Err c =
    let image = c.args.image.now in
    let a = read_command c.args.payload.now in
    in_room record_image 70 image a _ _ c.if-image-lt-RECORD_SIZE.false
    (refuses record_image (λ k. k) image a (read_some _) _ _ c.in-Err.ensures c.refused-in-Err.ensures)

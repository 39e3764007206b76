-- A text's image out: too short a slice, a refusal, or the image. Assumes nothing.
use native.Mathlib.Omega.{arith}
use mathlib.Core.Path.{◌≡◌, ap}
use lib.ListN.{length}
use Rattle.families.specs.Text.{text_of, new_text}
use Rattle.images.specs.Text.{text_image, image_of_text}
use Rattle.images.proofs.TextLaws.{text-size}
use Rattle.crsf.proofs.Handed.{short, in_room, refuses, hands}
use Rattle.crsf.proofs.Refusals.{text-some}
use borrow.Author.Rules.{rules}
use Rattle.crsf.proofs.made.crsf_text.Goals as goal

pub returns-then-text-lt-TEXT_SIZE : goal.returns-then-text-lt-TEXT_SIZE
returns-then-text-lt-TEXT_SIZE c = short image_of_text 52 _ _ _ c.if-text-lt-TEXT_SIZE.true c.refused.ensures

pub returns-in-Ok : goal.returns-in-Ok
returns-in-Ok c =
    let made = c.in-Ok.made in
    let long : length made.bytes ≡ 51 = search rules in
    let text = c.args.text.now in
    let a = new_text c.args.bytes.now in
    in_room image_of_text 52 text a 0 _ c.if-text-lt-TEXT_SIZE.false
    (hands image_of_text text_of text a made (text_image made) _ c.in-Ok.ensures (λ v e. ap text_image e) (omega (arith, text-size made long)) c.put.ensures)

pub returns-in-Err : goal.returns-in-Err
returns-in-Err c =
    let text = c.args.text.now in
    let a = new_text c.args.bytes.now in
    in_room image_of_text 52 text a _ _ c.if-text-lt-TEXT_SIZE.false
    (refuses image_of_text text_of text a (text-some c.args.bytes.now) _ _ c.in-Err.ensures c.refused-in-Err.ensures)

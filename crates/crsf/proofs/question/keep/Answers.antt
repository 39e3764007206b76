-- `question::keep` meets its contract: the image has room. Assumes nothing.
use mathlib.Core.Path.{◌≡◌, refl, ◌∙◌}
use native.Mathlib.Omega.{arith}
use lib.ListN.{length}
use Rattle.codec.proofs.Writes.{put-fits}
use Rattle.question_images.specs.Image.{question_image}
use Rattle.question_images.proofs.Putting.{question-size}
use borrow.Author.Rules.{rules}
use Rattle.crsf.proofs.question.keep.Goals as goal

pub returns : goal.returns
returns c =
    let long : length c.args.question.popup.bytes ≡ 55 = search rules in
    let question = c.args.question in record {
      value = refl;
      image_after = c.put.ensures
          ∙ put-fits c.args.image.now 0 (question_image question)
          (omega (arith, c.requires, question-size question (long)));
    }

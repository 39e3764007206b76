-- The second part of the image: a text, four bytes, a text. Assumes nothing.
use mathlib.Core.Path.{refl}
use Rattle.images.proofs.FieldsPut.{selection-put}
use Rattle.images.proofs.fields.put_selection.Goals as goal

pub returns : goal.returns
returns c =
    selection-put c.args.fields.now c.args.image.now c.put_text.new.out _ _ c.put_text.ensures.len
    c.put_text.ensures.image refl c.put_text-2.ensures.image

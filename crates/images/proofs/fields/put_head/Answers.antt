-- The first part of the image: two texts, three bytes. Assumes nothing.
use Rattle.images.proofs.FieldsPut.{head-put, kind-number}
use Rattle.images.proofs.TextLaws.{flag-byte}
use Rattle.images.proofs.fields.put_head.Goals as goal

pub returns : goal.returns
returns c =
    head-put c.args.fields.now c.args.image.now c.put_text.new.out c.put_text-2.new.out _ c.put_text.ensures.len c.put_text-2.ensures.len
    c.put_text.ensures.image c.put_text-2.ensures.image
    (rw (c.from.ensures, flag-byte c.args.fields.now.close_button_option, kind-number c.args.fields.now.additional_data))

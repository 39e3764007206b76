-- `event::put_head` meets its contract: part by part, each behind the one before. Assumes nothing.
use mathlib.Core.Path.{◌∙◌}
use Rattle.images.proofs.TextLaws.{flag-byte}
use Rattle.replay_images.proofs.Put.{kind-number, head-put}
use Rattle.replay_images.proofs.event.put_head.Goals as goal

pub returns : goal.returns
returns c =
    let given = c.args in
    head-put given.more given.event.now given.out.now _ _ _ _ _ _ _ _ c.requires (kind-number given.event.now.kind)
    (c.from.ensures ∙ flag-byte given.more) c.put_byte.ensures c.put_byte-2.ensures c.put_number.ensures c.put_number-2.ensures
    c.put_byte-3.ensures c.put_byte-4.ensures

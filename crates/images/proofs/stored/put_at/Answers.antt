-- A stored length and its bytes, put at a place. Assumes nothing.
use Rattle.images.proofs.TextLaws.{stored-put}
use Rattle.codec.proofs.Loops.{kept}
use Rattle.images.specs.Text.{stored}
use Rattle.images.proofs.stored.put_at.Goals as goal

pub shape_of-out : goal.shape_of-out
shape_of-out c =
    kept c.args.out.now (stored c.args.len c.args.bytes.now) c.args.at
    (stored-put c.args.out.now _ c.args.bytes.now c.args.at c.args.len
    c.requires c.put_bytes.ensures)

pub returns : goal.returns
returns c =
    stored-put c.args.out.now _ c.args.bytes.now c.args.at c.args.len
    c.requires c.put_bytes.ensures

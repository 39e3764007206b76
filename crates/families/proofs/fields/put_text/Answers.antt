-- A text and its 00, put at a place. Assumes nothing.
use mathlib.Core.Path.{◌≡◌, refl}
use lib.ListN.{length}
use Rattle.families.proofs.PutFields.{text-put}
use borrow.Author.Rules.{rules}
use Rattle.families.proofs.fields.put_text.Goals as goal

pub returns : goal.returns
returns c =
    let l : length c.args.text.bytes ≡ 51 = search rules in (
      text-put c.args.out.now _ c.args.text c.args.at l c.requires.0
          c.requires.1 c.put_bytes.ensures,
      refl,
    )

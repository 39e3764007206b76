-- A selection, put at a place. Assumes nothing.
use native.Mathlib.Omega.{arith}
use Rattle.families.specs.Sizes.{Sized, Ranged}
use Rattle.families.proofs.PutFields.{selection-put}
use borrow.Author.Rules.{rules}
use Rattle.families.proofs.fields.put_selection.Goals as goal

pub returns : goal.returns
returns c =
    let f = c.args.fields in let z : Sized c.args.fields × Ranged c.args.fields = (
      (search rules, (search rules, (search rules, (search rules, search rules)))),
      (search rules, (search rules, (search rules, (search rules, search rules)))),
    ) in (
      selection-put f z.0 z.1 c.requires.0 c.args.out.now c.put_text-value_at.new.out
          c.put_text.new.out c.args.at c.put_text-value_at.result
          c.put_text-value_at.ensures.0 c.put_text-value_at.ensures.1 c.put_text.ensures.0,
      omega (arith, c.put_text-value_at.ensures.1, c.put_text.ensures.1),
    )

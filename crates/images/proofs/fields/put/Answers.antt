-- The image's three parts at the front. Assumes nothing.
use Rattle.families.specs.Sizes.{Sized}
use Rattle.images.proofs.FieldsPut.{all-put}
use borrow.Author.Rules.{rules}
use Rattle.images.proofs.fields.put.Goals as goal

pub returns : goal.returns
returns c =
    let fit : Sized c.args.fields = (search rules, (search rules, (search rules, (search rules, search rules)))) in
    let first = c.in-Some.ensures.cases in
    all-put c.args.fields fit c.args.out.now c.in-Some.image.now c.put_head.new.image c.put_selection.new.image _
    first.enough first.same c.put_head.ensures c.put_selection.ensures c.put_values.ensures

-- The whole popup, put. Assumes nothing.
use mathlib.Core.Path.{◌∙◌}
use Rattle.codec.specs.Writing.{write_items}
use Rattle.codec.proofs.Loops.{kept}
use Rattle.families.specs.Popup.{head_items, more_items}
use Rattle.families.specs.Fields.{head_says, more_says}
use Rattle.families.specs.Sizes.{Sized, Ranged}
use Rattle.families.proofs.PutFields.{head-room, more_room, values-room, all-put}
use borrow.Author.Rules.{rules}
use Rattle.families.proofs.fields.put_all.Goals as goal

pub put_head-more_at-requires : goal.put_head-more_at-requires
put_head-more_at-requires c = let z : Sized c.args.fields × Ranged c.args.fields = (
  (search rules, (search rules, (search rules, (search rules, search rules)))),
  (search rules, (search rules, (search rules, (search rules, search rules)))),
) in head-room
    c.args.fields z.0 z.1 c.requires.0 _
    c.requires.1

pub put_more-values_at-requires : goal.put_more-values_at-requires
put_more-values_at-requires c =
    let z : Sized c.args.fields × Ranged c.args.fields = (
      (search rules, (search rules, (search rules, (search rules, search rules)))),
      (search rules, (search rules, (search rules, (search rules, search rules)))),
    ) in
    let k = kept c.args.out.now (write_items head_items (head_says c.args.fields)) 0
    c.put_head-more_at.ensures.0 in
    more_room c.args.fields z.0 z.1 c.requires.0 c.put_head-more_at.result _
    c.put_head-more_at.ensures.1 (k ∙ c.requires.1)

pub put_values-requires : goal.put_values-requires
put_values-requires c =
    let z : Sized c.args.fields × Ranged c.args.fields = (
      (search rules, (search rules, (search rules, (search rules, search rules)))),
      (search rules, (search rules, (search rules, (search rules, search rules)))),
    ) in
    let k = kept c.args.out.now (write_items head_items (head_says c.args.fields)) 0
    c.put_head-more_at.ensures.0 in
    let l = kept c.put_head-more_at.new.out
    (write_items (more_items c.args.fields.additional_data)
    (more_says c.args.fields.additional_data c.args.fields)) c.put_head-more_at.result
    c.put_more-values_at.ensures.0 in
    values-room c.args.fields z.0 z.1 c.requires.0 c.put_head-more_at.result
    c.put_more-values_at.result _ c.put_head-more_at.ensures.1 c.put_more-values_at.ensures.1
    (l ∙ k ∙ c.requires.1)

pub returns : goal.returns
returns c =
    let z : Sized c.args.fields × Ranged c.args.fields = (
      (search rules, (search rules, (search rules, (search rules, search rules)))),
      (search rules, (search rules, (search rules, (search rules, search rules)))),
    ) in
    all-put c.args.fields z.0 z.1 c.requires.0 c.args.out.now
    c.put_head-more_at.new.out c.put_more-values_at.new.out c.put_values.new.out
    c.put_head-more_at.result c.put_more-values_at.result c.put_values.result
    c.put_head-more_at.ensures.0 c.put_head-more_at.ensures.1 c.put_more-values_at.ensures.0
    c.put_more-values_at.ensures.1 c.put_values.ensures.0
    c.put_values.ensures.1

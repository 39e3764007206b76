-- The number that stops a popup's construction. Assumes nothing.
use mathlib.Core.Path.{◌≡◌, sym, ◌∙◌}
use Prim.Native.Nat.{◌+◌}
use Rattle.codec.specs.Refusals.{outcome_number}
use Rattle.families.specs.Sizes.{Sized, Ranged, stop_sizes}
use Rattle.families.proofs.Judged.{stop-sizes, judged-made}
use borrow.Author.Rules.{rules}
use Rattle.families.proofs.fields.judge.Goals as goal

pub returns-then-not-texts_made : goal.returns-then-not-texts_made
returns-then-not-texts_made c = rw (← c.texts_made.ensures, c.if-not-texts_made.true)

pub returns-in-Empty : goal.returns-in-Empty
returns-in-Empty c =
    let fit : Sized c.args.fields × Ranged c.args.fields = (
      (search rules, (search rules, (search rules, (search rules, search rules)))),
      (search rules, (search rules, (search rules, (search rules, search rules)))),
    ) in
    let f = c.args.fields in
    let m = sym c.texts_made.ensures ∙ c.if-not-texts_made.false in
    let h : outcome_number c.room-in-Empty.result
    ≡ stop_sizes (f.header.len + f.info.len + 4) f.additional_data f.selection_text.len f.unit.len f.has_possible_values f.possible_values.len
    = rw (c.in-Empty.is, ← c.values_size-values.ensures.0) c.room-in-Empty.ensures in
    h ∙ stop-sizes f fit.0 fit.1 m ∙ judged-made f m

pub returns-in-Selection : goal.returns-in-Selection
returns-in-Selection c =
    let fit : Sized c.args.fields × Ranged c.args.fields = (
      (search rules, (search rules, (search rules, (search rules, search rules)))),
      (search rules, (search rules, (search rules, (search rules, search rules)))),
    ) in
    let f = c.args.fields in
    let m = sym c.texts_made.ensures ∙ c.if-not-texts_made.false in
    let h : outcome_number c.judge_selection.result
    ≡ stop_sizes (f.header.len + f.info.len + 4) f.additional_data f.selection_text.len f.unit.len f.has_possible_values f.possible_values.len
    = rw (c.in-Selection.is, ← c.values_size-values.ensures.0) c.judge_selection.ensures in
    h ∙ stop-sizes f fit.0 fit.1 m ∙ judged-made f m

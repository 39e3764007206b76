-- `list_all` meets its contract: the state is that after the chunks read. Assumes nothing.
use native.Mathlib.Omega.{arith}
use mathlib.Core.Path.{ap, ◌∙◌}
use lib.ListN.{take}
use lib.Seq.{length-take-le}
use Rattle.std.specs.Prelude.{Ok}
use Rattle.console.proofs.Answers.{read_bytes}
use Rattle.listing.proofs.Parts.{after_more}
use borrow.Author.Rules.{rules}
use Rattle.crsf_list.proofs.list_all.Goals as goal

pub loop-chunks-preserved : goal.loop-chunks-preserved
loop-chunks-preserved c =
    let n = c.in-Some.count in
    let s = c.read.new.input in
    let some = read_bytes _ n s c.read.ensures (c.in_ok-count.was ∙ ap Ok c.in-Some.is) in (
      after_more _ _ _ (take n s) c.loop-chunks.invariant.0 (omega (arith, some.0, length-take-le n s some.1)) c.in_ok-state.ensures.0,
      search rules,
    )

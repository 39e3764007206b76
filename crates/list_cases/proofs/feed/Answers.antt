-- `feed` meets its contract: each part has room behind the text so far. Assumes nothing.
use native.Mathlib.Omega.{arith}
use borrow.Author.Rules.{rules}
use Rattle.list_cases.proofs.Room.{part_fits}
use Rattle.list_cases.proofs.feed.Goals as goal

pub overflow_add-len : goal.overflow_add-len
overflow_add-len c =
    let fits = part_fits c.loop-chunk.state c.in-Some.chunk.now c.fill-part.result c.loop-chunk.len c.loop-chunk.text _ (search rules) c.fill-part.ensures.fills_from in
    record { fits = omega (arith, fits) }

pub loop-chunk-preserved : goal.loop-chunk-preserved
loop-chunk-preserved c =
    let fits = part_fits c.loop-chunk.state c.in-Some.chunk.now c.fill-part.result c.loop-chunk.len c.loop-chunk.text _ (search rules) c.fill-part.ensures.fills_from in
    (search rules, (tt, (search rules, search rules)))

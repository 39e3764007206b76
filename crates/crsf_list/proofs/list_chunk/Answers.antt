-- `list_chunk` meets its contract: state and place are those behind so many parts, so that the next part is what is handed to be written.
-- Each part moves on in the chunk. Assumes nothing.
use Rattle.std.specs.Prelude.{Ok}
use borrow.Author.Rules.{rules}
use native.Mathlib.Omega.{arith}
use Prim.Native.Nat.{ℕ}
use mathlib.Core.Path.{◌≡◌, refl, ap, sym, ◌∙◌}
use Rattle.listing.specs.Parts.{told_stop}
use Rattle.listing.proofs.Parts.{so_far_starts}
use Rattle.crsf_list.proofs.Turns.{part-handed, part-next, part-less, part-last}
use Rattle.crsf_list.proofs.list_chunk.Goals as goal

pub loop-listed-init : goal.loop-listed-init
loop-listed-init c = (so_far_starts _ _ _, refl)

pub write_part-requires : goal.write_part-requires
write_part-requires c =
    let kept = c.loop-listed.invariant in
    part-handed kept.1 kept.0 c.fill-part.ensures.fills_from

-- the chunk has another part
pub loop-listed-preserved : goal.loop-listed-preserved
loop-listed-preserved c =
    let kept = c.loop-listed.invariant in
    let filled = c.fill-part.ensures in
    let full = c.in-Ok.is ∙ ap Ok c.in-Full.is in
    (part-next kept.1 kept.0 filled.fills_from filled.moves c.requires.0 full, search rules)

pub overflow_add-turn : goal.overflow_add-turn
overflow_add-turn c =
    let kept = c.loop-listed.invariant in
    let filled = c.fill-part.ensures in
    let full = c.in-Ok.is ∙ ap Ok c.in-Full.is in
    let next = part-next kept.1 kept.0 filled.fills_from filled.moves c.requires.0 full in
    record { fits = omega (arith, next.turns, next.within) }

pub loop-listed-smaller : goal.loop-listed-smaller
loop-listed-smaller c =
    let kept = c.loop-listed.invariant in
    let filled = c.fill-part.ensures in
    part-less kept.1 kept.0 filled.fills_from filled.moves c.requires.0 (c.in-Ok.is ∙ ap Ok c.in-Full.is)

-- the chunk is used up, or refused
pub returns-in-Used : goal.returns-in-Used
returns-in-Used c =
    let kept = c.loop-listed.invariant in
    part-last kept.1 kept.0 c.fill-part.ensures.fills_from (λ f.
    let g = sym (ap told_stop (c.in-Ok.is ∙ ap Ok c.in-Used.is)) ∙ f in let z : ◌≡◌ {A = ℕ} 0 1 = cc in omega arith)

pub returns-in-Err : goal.returns-in-Err
returns-in-Err c =
    let kept = c.loop-listed.invariant in
    part-last kept.1 kept.0 c.fill-part.ensures.fills_from (λ f.
    let g = sym (ap told_stop c.in-Err.is) ∙ f in let z : ◌≡◌ {A = ℕ} 0 1 = cc in omega arith)

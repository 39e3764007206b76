-- `begin` meets its contract. Assumes nothing.
use native.Mathlib.Omega.{arith}
use Prim.Native.Nat.{◌+◌, ◌-◌}
use mathlib.Core.Path.{◌≡◌, ◌∙◌}
use lib.ListN.{length, take, drop, length-drop, length-take}
use Rattle.listing.specs.Step.{opened}
use Rattle.listing.proofs.StepLaws.{made-line, line-whole}
use Rattle.listing.proofs.begin.Goals as goal

pub returns : goal.returns
returns c =
    let given = c.args in
    let end = given.at + given.wanted in
    let part = take (end - given.at) (drop given.at given.input.now) in
    let size : length part ≡ given.wanted = simp (length-take, length-drop) (omega arith) in
    made-line (opened given.count given.wanted) _ _ given.input.now given.at end
    c.fresh-2.ensures (omega arith)
    (c.line_of.ensures ∙ line-whole given.count given.wanted part size) (omega (arith, c.if-input-at.false))

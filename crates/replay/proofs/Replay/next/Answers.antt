-- `Replay::next` meets its contract. Assumes nothing.
use borrow.Author.Tests.{eq-eqb, ne_eqb}
use mathlib.Core.Path.{◌∙◌, refl, sym}
use Rattle.replay.proofs.Replay.next.Goals as goal

pub returns-then-not-in_limits : goal.returns-then-not-in_limits
returns-then-not-in_limits c =
    let e = sym c.in_limits.ensures ∙ c.if-not-in_limits.true in
    rw e refl

pub returns-then-self-eq0 : goal.returns-then-self-eq0
returns-then-self-eq0 c =
    let e = sym c.in_limits.ensures ∙ c.if-not-in_limits.false in
    rw (e, eq-eqb c.args.self.place 0 c.if-self-eq0.true) c.«open».ensures

pub returns : goal.returns
returns c =
    let e = sym c.in_limits.ensures ∙ c.if-not-in_limits.false in
    rw (e, ne_eqb c.args.self.place 0 c.if-self-eq0.false) c.go_on.ensures

-- `Replay::enter` meets its contract. Assumes nothing.
use mathlib.Core.Path.{refl}
use borrow.Author.Tests.{not-true, not-false}
use Rattle.replay.proofs.Cases.{enters_first, enters_back, enters_gap, enters_next}
use Rattle.replay.proofs.Replay.enter.Goals as goal

pub begin-requires : goal.begin-requires
begin-requires c = (refl, c.requires)

pub returns-then-not-self : goal.returns-then-not-self
returns-then-not-self c =
    enters_first c.args.self c.args.number c.args.first c.args.block.now c.requires _
    (not-true c.args.self.started c.if-not-self.true) c.begin.ensures

pub returns-then-number-self : goal.returns-then-number-self
returns-then-number-self c =
    enters_back c.args.self c.args.number c.args.first c.args.block.now c.requires _
    (not-false c.args.self.started c.if-not-self.false) c.if-number-self.true c.says.ensures

pub returns-then-number-self-gt1 : goal.returns-then-number-self-gt1
returns-then-number-self-gt1 c =
    enters_gap c.args.self c.args.number c.args.first c.args.block.now c.requires _
    (not-false c.args.self.started c.if-not-self.false) c.if-number-self.false c.if-number-self-gt1.true c.says-then-number-self-gt1.ensures

pub begin-requires-2 : goal.begin-requires-2
begin-requires-2 c =
    (refl, c.requires)

pub returns : goal.returns
returns c =
    enters_next c.args.self c.args.number c.args.first c.args.block.now c.requires _
    (not-false c.args.self.started c.if-not-self.false) c.if-number-self.false c.if-number-self-gt1.false c.begin-2.ensures

-- `Replay::begin` meets its contract. Assumes nothing.
use Rattle.replay.proofs.Cases.{begins-nothing, begins_record}
use Rattle.replay.proofs.Replay.begin.Goals as goal

pub returns-then-self-eq0 : goal.returns-then-self-eq0
returns-then-self-eq0 c =
    begins-nothing c.args.self c.args.block.now c.requires.0 c.requires.1 c.if-self-eq0.true _ c.says.ensures

pub returns : goal.returns
returns c =
    begins_record c.args.self c.args.block.now c.requires.0 c.requires.1 c.if-self-eq0.false _ c.go_on.ensures

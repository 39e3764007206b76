-- `Replay::open` meets its contract. Assumes nothing.
use mathlib.Core.Path.{ap, ◌∙◌}
use Prim.Native.Nat.{ℕ}
use Rattle.replay.specs.Events.{damaged_event}
use Rattle.replay.specs.Step.{after_step}
use Rattle.replay.proofs.Cases.{sound-opens, opens_damaged, opens-sound}
use Rattle.replay.proofs.Replay.open.Goals as goal

pub enter-requires : goal.enter-requires
enter-requires c = sound-opens c.args.block.now c.judge.result c.in-Ok.sound c.judge.ensures c.in-Ok.is

pub returns-in-Err : goal.returns-in-Err
returns-in-Err c =
    let s = c.args.self in
    opens_damaged s c.args.position c.args.block.now c.judge.result c.judge.ensures _ c.in-Err.damage c.in-Err.is
    (c.says.ensures ∙ ap (λ (n : ℕ). after_step s (damaged_event c.args.position n)) c.from.ensures)

pub returns-in-Ok : goal.returns-in-Ok
returns-in-Ok c =
    opens-sound c.args.self c.args.position c.args.block.now c.judge.result c.judge.ensures _ c.in-Ok.sound c.in-Ok.is c.enter.ensures

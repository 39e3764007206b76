-- `put_closing` meets its contract: the closing line has room. Assumes nothing.
use native.Mathlib.Omega.{arith}
use Rattle.replay_lines.proofs.Replays.{end_not_refused, end_handed}
use Rattle.crsf_replay.proofs.put_closing.Goals as goal

pub returns-in-Ok : goal.returns-in-Ok
returns-in-Ok c =
    let given = c.args in
    end_handed given.blocks (omega arith) c.put_end.result given.text.now _ c.requires
    c.put_end.ensures _ c.in-Ok.is

pub returns-in-Err : goal.returns-in-Err
returns-in-Err c =
    let given = c.args in
    absurd (end_not_refused given.blocks (omega arith) c.put_end.result given.text.now _ c.requires
    c.put_end.ensures _ c.in-Err.is)

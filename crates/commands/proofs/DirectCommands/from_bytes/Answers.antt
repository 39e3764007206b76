-- `DirectCommands::from_bytes` meets its contract. Assumes nothing.
use Prim.Native.Nat.{◌-◌}
use mathlib.Core.Path.{◌≡◌}
use native.Mathlib.Omega.{arith}
use lib.ListN.{length}
use Rattle.codec.proofs.Outcomes.{err_is}
use Rattle.commands.proofs.Answers.{addressed_is, unaddressed}
use Rattle.commands.proofs.KindLaws.{judged-long, judged_read, judged-refused}
use Rattle.commands.proofs.DirectCommands.from_bytes.Goals as goal

pub returns-in_err-judge : goal.returns-in_err-judge
returns-in_err-judge c = rw (err_is _ _ c.from_residual.ensures, judged-refused c.args.payload.now _ c.in_err-judge.ensures)

pub returns-in_err-command : goal.returns-in_err-command
returns-in_err-command c =
    let l = judged-long c.args.payload.now c.in_ok-judge.ensures in
    let e : length c.args.payload.now - 4 ≡ length c.args.payload.now - 1 - 3 = omega arith in
    rw (err_is _ _ c.from_residual-in_err-command.ensures, judged_read c.args.payload.now c.in_ok-judge.ensures, e) (unaddressed _ _ _ _ c.in_err-command.ensures)

pub returns : goal.returns
returns c =
    let l = judged-long c.args.payload.now c.in_ok-judge.ensures in
    let e : length c.args.payload.now - 4 ≡ length c.args.payload.now - 1 - 3 = omega arith in
    rw (judged_read c.args.payload.now c.in_ok-judge.ensures, e) (addressed_is _ _ _ _ c.in_ok-command.ensures)

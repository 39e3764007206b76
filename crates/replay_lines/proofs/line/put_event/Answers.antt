-- `line::put_event` meets its contract. Assumes nothing.
use native.Mathlib.Omega.{arith}
use lib.ListN.{drop_of_length-le}
use Rattle.text.proofs.Before.{grown_first}
use Rattle.text.proofs.Digits.{end_length}
use Rattle.replay_lines.proofs.line.put_event.Goals as goal

pub returns-in-Nothing : goal.returns-in-Nothing
returns-in-Nothing c =
    rw c.in-Nothing.is (record {
      start = omega arith;
      bytes = drop_of_length-le c.args.text.now {i = 64} (omega arith);
    })

pub returns-in-Command : goal.returns-in-Command
returns-in-Command c =
    rw c.in-Command.is c.put_command.ensures

pub returns-in-Refused : goal.returns-in-Refused
returns-in-Refused c =
    rw c.in-Refused.is c.put_refused.ensures

pub returns-in-Damaged : goal.returns-in-Damaged
returns-in-Damaged c =
    rw c.in-Damaged.is c.put_damaged.ensures

pub returns-in-Gap : goal.returns-in-Gap
returns-in-Gap c =
    let last = end_length c.args.event.block (omega arith) in
    rw c.in-Gap.is (grown_first {n = 64} (omega arith) c.put_numbered.ensures (omega arith)).ends

pub returns-in-Back : goal.returns-in-Back
returns-in-Back c =
    let last = end_length c.args.event.block (omega arith) in
    rw c.in-Back.is (grown_first {n = 64} (omega arith) c.put_numbered-in-Back.ensures (omega arith)).ends

-- `line::put_command` meets its contract. Assumes nothing.
use Rattle.replay_lines.proofs.line.put_command.Goals as goal

pub returns : goal.returns
returns c =
    rw (← c.command_id-family.ensures, ← c.written_len-written.ensures) c.put_read.ensures

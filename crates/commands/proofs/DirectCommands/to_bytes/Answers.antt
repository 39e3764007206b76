-- `DirectCommands::to_bytes` meets its contract. Assumes nothing.
use mathlib.Core.Path.{sym, ◌∙◌}
use lib.ListN.{length}
use Rattle.codec.specs.declared.refusal.Refusal.TheVariants.{BufferOverflow, RecordNotMade}
use Rattle.codec.proofs.InTurn.{writes-stop}
use Rattle.commands.specs.Writing.{payload_of, stop_writing}
use Rattle.commands.specs.Writing.Equation.{payload_is}
use Rattle.commands.proofs.Written.{stop_unmade, stop-short, stop-body}
use Rattle.commands.proofs.DirectCommands.to_bytes.Goals as goal

pub returns-then-not-is_made : goal.returns-then-not-is_made
returns-then-not-is_made c =
    writes-stop (stop_writing c.args.self (length c.args.buffer.now))
    (payload_of c.args.self) c.args.buffer.now RecordNotMade
    (stop_unmade c.args.self (length c.args.buffer.now)
    (sym c.is_made.ensures ∙ c.if-not-is_made.true))

pub returns-then-buffer-lt-MIN_PAYLOAD_SIZE : goal.returns-then-buffer-lt-MIN_PAYLOAD_SIZE
returns-then-buffer-lt-MIN_PAYLOAD_SIZE c =
    writes-stop (stop_writing c.args.self (length c.args.buffer.now))
    (payload_of c.args.self) c.args.buffer.now BufferOverflow
    (stop-short c.args.self (length c.args.buffer.now)
    (sym c.is_made.ensures ∙ c.if-not-is_made.false) c.if-buffer-lt-MIN_PAYLOAD_SIZE.true)

pub returns : goal.returns
returns c =
    rw (
      stop-body c.args.self (length c.args.buffer.now)
          (sym c.is_made.ensures ∙ c.if-not-is_made.false) c.if-buffer-lt-MIN_PAYLOAD_SIZE.false,
      payload_is c.args.self,
    ) c.write_made.ensures

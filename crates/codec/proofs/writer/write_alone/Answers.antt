-- `writer::write_alone` meets its contract. Assumes nothing.
use mathlib.Core.Path.{refl}
use mathlib.Core.List.{◌∷◌, []}
use Rattle.codec.proofs.Writes.{writes-room, writes_none}
use Rattle.codec.proofs.writer.write_alone.Goals as goal

pub returns-then-buffer-lt-SUB_COMMAND_LEN : goal.returns-then-buffer-lt-SUB_COMMAND_LEN
returns-then-buffer-lt-SUB_COMMAND_LEN c = writes_none c.args.buffer.now (c.args.sub ∷ []) c.if-buffer-lt-SUB_COMMAND_LEN.true

pub returns : goal.returns
returns c = writes-room c.args.buffer.now (c.args.sub ∷ []) _ c.if-buffer-lt-SUB_COMMAND_LEN.false refl

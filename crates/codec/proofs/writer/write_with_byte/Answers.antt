-- `writer::write_with_byte` meets its contract. Assumes nothing.
use mathlib.Core.Path.{refl}
use mathlib.Core.List.{◌∷◌, []}
use Rattle.codec.proofs.Writes.{writes-room, writes_none}
use Rattle.codec.proofs.writer.write_with_byte.Goals as goal

pub returns-then-buffer-lt-WITH_BYTE_LEN : goal.returns-then-buffer-lt-WITH_BYTE_LEN
returns-then-buffer-lt-WITH_BYTE_LEN c = writes_none c.args.buffer.now (c.args.sub ∷ c.args.value ∷ []) c.if-buffer-lt-WITH_BYTE_LEN.true

pub returns : goal.returns
returns c = writes-room c.args.buffer.now (c.args.sub ∷ c.args.value ∷ []) _ c.if-buffer-lt-WITH_BYTE_LEN.false refl

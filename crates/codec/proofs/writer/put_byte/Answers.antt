-- `writer::put_byte` meets its contract. Assumes nothing.
use mathlib.Core.Path.{sym}
use mathlib.Core.List.{◌∷◌, []}
use native.Mathlib.Omega.{arith}
use Rattle.codec.proofs.Writes.{put-fits, put-not}
use Rattle.codec.proofs.writer.put_byte.Goals as goal

pub returns-then-at-buffer : goal.returns-then-at-buffer
returns-then-at-buffer c =
    sym (put-fits c.args.buffer.now c.args.at (c.args.value ∷ []) (omega (arith, c.if-at-buffer.true)))

pub returns-else-at-buffer : goal.returns-else-at-buffer
returns-else-at-buffer c =
    sym (put-not c.args.buffer.now c.args.at (c.args.value ∷ []) (omega (arith, c.if-at-buffer.false)))

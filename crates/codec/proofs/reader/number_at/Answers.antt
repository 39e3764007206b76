-- `reader::number_at` meets its contract. Assumes nothing.
use Rattle.std.proofs.Common.{rules}
use Rattle.codec.proofs.Loops.{number_turn, digit}
use Rattle.codec.proofs.reader.number_at.Goals as goal

pub loop-byte-preserved : goal.loop-byte-preserved
loop-byte-preserved c =
    let l = c.loop-byte in
    (digit l.n _ l.byte-index l.invariant.0 (search rules), number_turn _ l.byte-index l.n c.loop-byte-test.true l.invariant.1)

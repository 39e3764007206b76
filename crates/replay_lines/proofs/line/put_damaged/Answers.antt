-- `line::put_damaged` meets its contract: each piece has room before those behind it. Assumes nothing.
use native.Mathlib.Omega.{arith}
use Rattle.text.specs.Pieces.{space, newline, numbered_text}
use Rattle.text.proofs.Before.{grown_first, grown_more}
use Rattle.replay_lines.proofs.TextLaws.{word-length, byte-length}
use Rattle.replay_lines.proofs.line.put_damaged.Goals as goal

pub returns : goal.returns
returns c =
    let given = c.args in
    let end = byte-length given.why newline (omega arith) in
    let named = word-length given.position (numbered_text space given.why) (omega arith) in
    let behind = grown_first {n = 64} (omega arith) c.put_numbered-space.ensures (omega arith) in
    let block = grown_more behind c.put_decimal-block.ensures (omega arith) in
    (grown_more block c.put_word.ensures (omega arith)).ends

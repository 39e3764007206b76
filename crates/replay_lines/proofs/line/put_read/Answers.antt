-- `line::put_read` meets its contract: each piece has room before those behind it. Assumes nothing.
use native.Mathlib.Omega.{arith}
use mathlib.Core.List.{◌++◌}
use Rattle.text.specs.Pieces.{decimal, hex_of, space, numbered_text, read_word}
use Rattle.text.proofs.Digits.{end_length}
use Rattle.text.proofs.Before.{grown_first, grown_more}
use Rattle.replay_lines.proofs.TextLaws.{wide-length, word-length}
use Rattle.replay_lines.proofs.line.put_read.Goals as goal

pub returns : goal.returns
returns c =
    let given = c.args in
    let said = read_word ++ (hex_of given.family ++ numbered_text space given.written) in
    let placed = decimal given.place ++ said in
    let last = end_length given.written (omega arith) in
    let place-length = wide-length given.place said (omega arith) in
    let block-length = word-length given.block (space ++ placed) (omega arith) in
    let behind = grown_first {n = 64} (omega arith) c.put_numbered-space.ensures (omega arith) in
    let id = grown_more behind c.put_hex-id.ensures (omega arith) in
    let word = grown_more id c.put_word-word.ensures (omega arith) in
    let place = grown_more word c.put_decimal-digits.ensures (omega arith) in
    let between = grown_more place c.put_word-gap.ensures (omega arith) in
    (grown_more between c.put_decimal.ensures (omega arith)).ends

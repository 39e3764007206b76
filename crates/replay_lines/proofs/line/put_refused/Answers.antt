-- `line::put_refused` meets its contract: each piece has room before those behind it. Assumes nothing.
use native.Mathlib.Omega.{arith}
use mathlib.Core.List.{◌++◌}
use Rattle.text.specs.Pieces.{decimal, space, newline, numbered_text, refused_word}
use Rattle.text.proofs.Before.{grown_first, grown_more}
use Rattle.replay_lines.proofs.TextLaws.{wide-length, word-length, byte-length}
use Rattle.replay_lines.proofs.line.put_refused.Goals as goal

pub returns : goal.returns
returns c =
    let given = c.args in
    let end = numbered_text space given.own in
    let why = decimal given.why ++ end in
    let placed = decimal given.place ++ (refused_word ++ why) in
    let last = byte-length given.own newline (omega arith) in
    let why-length = byte-length given.why end (omega arith) in
    let place-length = wide-length given.place (refused_word ++ why) (omega arith) in
    let block-length = word-length given.block (space ++ placed) (omega arith) in
    let behind = grown_first {n = 64} (omega arith) c.put_numbered-space.ensures (omega arith) in
    let number = grown_more behind c.put_decimal-number.ensures (omega arith) in
    let word = grown_more number c.put_word-word.ensures (omega arith) in
    let place = grown_more word c.put_decimal-record.ensures (omega arith) in
    let between = grown_more place c.put_word-gap.ensures (omega arith) in
    (grown_more between c.put_decimal.ensures (omega arith)).ends

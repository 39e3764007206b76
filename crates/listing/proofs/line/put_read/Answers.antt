-- `line::put_read` meets its contract: each word has room before those behind it. Assumes nothing.
use native.Mathlib.Omega.{arith}
use Rattle.text.proofs.Digits.{end_length}
use Rattle.text.proofs.Before.{grown_first, grown_more}
use Rattle.listing.specs.declared.line.Line.TheVariants.{Read}
use Rattle.listing.proofs.TextLaws.{longest}
use Rattle.listing.proofs.line.put_read.Goals as goal

pub returns : goal.returns
returns c =
    let given = c.args in
    let last = end_length given.written (omega arith) in
    let space = grown_first {n = 64} (omega arith) c.put_numbered-space.ensures (omega arith) in
    let id = grown_more space c.put_hex-id.ensures (omega arith) in
    let word = grown_more id c.put_word-word.ensures (omega arith) in
    (grown_more word c.put_decimal.ensures
    (longest (Read given.count given.family given.written) (omega arith, omega arith))).ends

-- `line::put_refused` meets its contract: each word has room before those behind it. Assumes nothing.
use native.Mathlib.Omega.{arith}
use Rattle.text.proofs.Digits.{end_length}
use Rattle.text.proofs.Before.{grown_first, grown_more}
use Rattle.listing.specs.declared.line.Line.TheVariants.{Refused}
use Rattle.listing.proofs.TextLaws.{longest}
use Rattle.listing.proofs.line.put_refused.Goals as goal

pub returns : goal.returns
returns c =
    let given = c.args in
    let last = end_length given.why (omega arith) in
    let word = grown_first {n = 64} (omega arith) c.put_numbered-word.ensures (omega arith) in
    (grown_more word c.put_decimal.ensures
    (longest (Refused given.count given.why) (omega arith, omega arith))).ends

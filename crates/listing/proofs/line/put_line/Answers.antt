-- `line::put_line` meets its contract. Assumes nothing.
use native.Mathlib.Omega.{arith}
use Rattle.text.proofs.Before.{grown_first}
use Rattle.listing.specs.declared.line.Line.TheVariants.{Cut, End}
use Rattle.listing.proofs.TextLaws.{longest}
use Rattle.listing.proofs.line.put_line.Goals as goal

pub returns-in-Cut : goal.returns-in-Cut
returns-in-Cut c =
    rw c.in-Cut.is (grown_first {n = 64} (omega arith) c.put_numbered.ensures
    (longest (Cut c.in-Cut.count) (omega arith))).ends

pub returns-in-End : goal.returns-in-End
returns-in-End c =
    rw c.in-End.is (grown_first {n = 64} (omega arith) c.put_numbered-in-End.ensures
    (longest (End c.in-End.count) (omega arith))).ends

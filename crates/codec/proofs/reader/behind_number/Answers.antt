-- `reader::behind_number` meets its contract. Assumes nothing.
use native.Mathlib.Omega.{arith}
use mathlib.Core.Path.{◌∙◌}
use lib.ListN.{length, drop_of_length-le}
use Rattle.codec.proofs.reader.behind_number.Goals as goal

pub returns-in-Ok : goal.returns-in-Ok
returns-in-Ok c fs = rw c.in-Ok.is c.all_but.ensures

pub returns-in-Err : goal.returns-in-Err
returns-in-Err c fs = let s = c.args.s.now in
    rw c.in-Err.is (c.all_but-in-Err.ensures ∙ drop_of_length-le s {i = length s} (omega arith))

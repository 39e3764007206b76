-- `text::stored_len` meets its contract. Assumes nothing.
use mathlib.Core.Path.{sym, ap}
use native.Mathlib.Omega.{arith}
use lib.ListN.{length}
use lib.Seq.{take_all, length-take-le}
use Rattle.families.proofs.text.stored_len.Goals as goal

pub returns-then-bytes-len : goal.returns-then-bytes-len
returns-then-bytes-len c =
    let given = c.args in
    record { value = sym (ap length (take_all given.len given.bytes.now (omega arith))); upper_bound = omega arith }

pub returns-else-bytes-len : goal.returns-else-bytes-len
returns-else-bytes-len c =
    let given = c.args in
    record { value = sym (length-take-le given.len given.bytes.now (omega arith)); upper_bound = omega arith }

-- `kind::read` meets its contract. Assumes nothing.
use Prim.Native.Nat.{◌-◌}
use mathlib.Core.Path.{◌≡◌}
use native.Mathlib.Omega.{arith}
use lib.ListN.{length}
use Rattle.codec.proofs.Outcomes.{err_is}
use Rattle.commands.proofs.KindLaws.{judged-long, judged-kind, judged-refused, kept_kind}
use Rattle.commands.proofs.kind.read.Goals as goal

pub returns-in_err-judge : goal.returns-in_err-judge
returns-in_err-judge c = rw (err_is _ _ c.from_residual.ensures, judged-refused c.args.payload.now _ c.in_err-judge.ensures)

pub returns : goal.returns
returns c =
    let l = judged-long c.args.payload.now c.in_ok-judge.ensures in
    let e : length c.args.payload.now - 4 ≡ length c.args.payload.now - 1 - 3 = omega arith in
    rw (judged-kind c.args.payload.now c.in_ok-judge.ensures, e) (kept_kind _ _ c.read_family.ensures)

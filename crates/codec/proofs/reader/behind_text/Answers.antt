-- `reader::behind_text` meets its contract. Assumes nothing.
use mathlib.Core.Path.{◌≡◌, ap, ◌∙◌}
use Prim.Native.Nat.{ℕ, ◌+◌, ◌-◌}
use native.Mathlib.Omega.{arith}
use lib.ListN.{length, take, drop}
use lib.Seq.{length-take-le}
use Rattle.codec.proofs.reader.behind_text.Goals as goal

pub returns-in-Ok : goal.returns-in-Ok
returns-in-Ok c = rw c.in-Ok.is (λ h.
    let l = length-take-le c.in-Ok.text.len c.args.s.now (omega (arith, h.0)) in
    let k : c.in-Ok.text.next ≡ length (take c.in-Ok.text.len c.args.s.now) + 1 = omega (arith, h.1) in
    c.all_but.ensures ∙ ap (λ (i : ℕ). drop i c.args.s.now) k)

pub returns-in-Err : goal.returns-in-Err
returns-in-Err c = rw c.in-Err.is (λ _. let e : length c.args.s.now - length c.args.s.now ≡ 0 = omega arith in rw e)

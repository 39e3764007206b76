-- `ack::read` meets its contract. Assumes nothing.
use native.Mathlib.Omega.{arith}
use native.Mathlib.Nat.{add-sub_cancel_left}
use lib.ListN.{drop, length-drop}
use lib.Seq.{length-take-le}
use Rattle.codec.proofs.TextRange.{text-most}
use Rattle.codec.proofs.Outcomes.{err_is}
use Rattle.families.proofs.Acks.{Opens, ack_short, ack_action, ack_got, ack_open}
use Rattle.families.proofs.ack.read.Goals as goal

pub returns-then-body-lt-INFORMATION_AT : goal.returns-then-body-lt-INFORMATION_AT
returns-then-body-lt-INFORMATION_AT c = rw (ack_short c.args.body.now c.if-body-lt-INFORMATION_AT.true)

pub returns-in_err-text : goal.returns-in_err-text
returns-in_err-text c =
    let s = c.args.body.now in
    let k = c.type_inv.body in
    let o : Opens s = (c.if-body-lt-INFORMATION_AT.false, (omega (arith, k 0), (omega (arith, k 1), omega (arith, k 2)))) in
    rw (err_is _ _ c.from_residual.ensures, ack_open s _ 0 o c.in_err-text.ensures.0)

pub returns-then-body-gt1 : goal.returns-then-body-gt1
returns-then-body-gt1 c =
    let s = c.args.body.now in
    let k = c.type_inv.body in
    let o : Opens s = (c.if-body-lt-INFORMATION_AT.false, (omega (arith, k 0), (omega (arith, k 1), omega (arith, k 2)))) in
    rw (ack_action s _ o c.in_ok-text.ensures.0 c.if-body-gt1.true)

pub with_information-requires : goal.with_information-requires
with_information-requires c =
    let k = c.in_ok-text.ensures.1 in
    let l = text-most 52 c.args.body.now 3 _ k.0 c.in_ok-text.ensures.0 in
    let m = length-drop 3 c.args.body.now in
    rw (add-sub_cancel_left 3 c.in_ok-text.text.len, length-take-le c.in_ok-text.text.len (drop 3 c.args.body.now) (omega (arith, k.0, m))) l

pub returns : goal.returns
returns c =
    let s = c.args.body.now in
    let k = c.type_inv.body in
    let o : Opens s = (c.if-body-lt-INFORMATION_AT.false, (omega (arith, k 0), (omega (arith, k 1), omega (arith, k 2)))) in
    rw (ack_got s _ o c.in_ok-text.ensures.0 c.if-body-gt1.false) (rw (add-sub_cancel_left 3 c.in_ok-text.text.len) at c.with_information.ensures)

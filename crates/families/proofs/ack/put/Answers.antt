-- The bytes of an ACK stored one after the other are its items. Assumes nothing.
use lib.ListN.{set, length, length-set}
use Rattle.families.proofs.Acks.{put_in, put_same, put_is}
use Prim.Native.Nat.{◌<◌}
use native.Mathlib.Omega.{arith}
use borrow.Author.Rules.{rules}
use Rattle.families.proofs.ack.put.Goals as goal

pub bounds-body-1 : goal.bounds-body-1
bounds-body-1 c = let h : 1 < length
    (set c.args.body.now 0 c.args.ack.command_id) = rw length-set
    (omega (arith, c.requires)) in h

pub bounds-body-2 : goal.bounds-body-2
bounds-body-2 c = let h : 2 < length
    (set (set c.args.body.now 0 c.args.ack.command_id) 1
    c.args.ack.sub_command_id) = simp length-set (omega (arith, c.requires)) in h

pub bounds-body-information : goal.bounds-body-information
bounds-body-information c =
    put_in c.args.ack c.args.body.now _ c.args.information.now c.requires c.put_bytes.ensures

pub shape_of-body : goal.shape_of-body
shape_of-body c =
    put_same c.args.ack c.args.body.now _ c.args.information.now c.put_bytes.ensures

pub returns : goal.returns
returns c =
    let p : c.args.ack.command_id < 256 = search rules in let q :
    c.args.ack.sub_command_id < 256 = search rules in let r : c.args.ack.action < 256 = search
    rules in
    put_is c.args.ack c.args.body.now _ c.args.information.now p q r c.requires
    c.put_bytes.ensures

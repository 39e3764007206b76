-- `DirectCommands::write_made` meets its contract. Assumes nothing.
use Prim.Native.Nat.{◌+◌, ◌-◌}
use mathlib.Core.Path.{◌≡◌, ◌∙◌}
use native.Mathlib.Omega.{arith}
use Rattle.codec.proofs.Outcomes.{err_is}
use Rattle.commands.specs.Command.{stored_in}
use Rattle.commands.proofs.Written.{closing-fits, made-written, body_refused}
use Rattle.commands.proofs.DirectCommands.write_made.Goals as goal

pub returns-in_err-n : goal.returns-in_err-n
returns-in_err-n c =
    let s = c.args.self.now in
    let k : c.room_of-end.result + 3 - 3 ≡ c.room_of-end.result = omega arith in
    rw (err_is _ _ c.from_residual.ensures)
    (body_refused s.dst_addr s.src_addr s.payload (stored_in s) c.args.buffer.now _
    (c.room_of-end.result + 3 - 3) _ (k ∙ c.room_of-end.ensures.0) (omega (arith, c.room_of-end.ensures.1.0)) c.in_err-n.ensures)

pub close-requires : goal.close-requires
close-requires c =
    closing-fits c.args.self.now.payload (stored_in c.args.self.now) c.args.buffer.now _ (c.room_of-end.result + 3 - 3) c.in_ok-n.n
    (omega (arith, c.room_of-end.ensures.1.0)) c.in_ok-n.ensures

pub returns : goal.returns
returns c =
    let s = c.args.self.now in
    let k : c.room_of-end.result + 3 - 3 ≡ c.room_of-end.result = omega arith in
    made-written s.dst_addr s.src_addr s.payload (stored_in s) c.args.buffer.now _ _
    (c.room_of-end.result + 3 - 3) c.in_ok-n.n c.command_id-id.result
    (k ∙ c.room_of-end.ensures.0) (omega (arith, c.room_of-end.ensures.1.0)) c.in_ok-n.ensures c.command_id-id.ensures c.close.ensures

-- The check of the frame's type is the start of the rest. Assumes nothing.
use mathlib.Core.Path.{sym, ap₂, ◌∙◌}
use Prim.Native.Nat.{ℕ}
use borrow.Author.Rules.{rules}
use lib.ListN.{take}
use Rattle.crc.specs.Check.{command_polynomial, check_from}
use Rattle.crc.proofs.Laws.{bytes_of_lem, payload-check_from}
use Rattle.crc.proofs.payload_check.Goals as goal

pub returns : goal.returns
returns c =
    let p = c.args.payload.now in
    let t = c.args.packet_type in
    c.check.ensures
    ∙ ap₂ (λ (s n : ℕ). check_from command_polynomial s (take n p)) c.eight_steps.ensures (search rules)
    ∙ sym (payload-check_from t p (search rules) (bytes_of_lem p c.type_inv.payload))

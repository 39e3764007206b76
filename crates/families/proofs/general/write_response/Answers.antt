-- `general::write_response` meets its contract. Assumes nothing.
use Prim.Native.Nat.{◌<◌}
use mathlib.Core.Path.{refl}
use mathlib.Core.List.{◌∷◌, []}
use native.Mathlib.Nat.{div-one, mod-eq_of_lt}
use native.Mathlib.Omega.{arith}
use Rattle.codec.specs.Told.{bit}
use Rattle.codec.proofs.Items.{alone}
use Rattle.codec.proofs.Writes.{in_room, no_room, put-start, put_on}
use Rattle.families.specs.Sheets.{general_rows}
use Rattle.families.proofs.Ok.{byte_flag}
use Rattle.codec.proofs.Packed.{bit-small}
use borrow.Author.Rules.{rules}
use Rattle.families.proofs.general.write_response.Goals as goal

pub returns-then-body-lt-SPEED_PROPOSAL_RESPONSE_LEN : goal.returns-then-body-lt-SPEED_PROPOSAL_RESPONSE_LEN
returns-then-body-lt-SPEED_PROPOSAL_RESPONSE_LEN c = let h : c.args.port < 256 = search rules in
    no_room general_rows 0x71
    ((c.args.port ∷ []) ∷ (bit c.args.accepted ∷ []) ∷ [])
    c.args.body.now 3
    (byte_flag c.args.port c.args.accepted h) refl c.if-body-lt-SPEED_PROPOSAL_RESPONSE_LEN.true

pub returns : goal.returns
returns c =
    let h : c.args.port < 256 = search rules in
    let s = c.args.body.now in
    let p = put-start s _ (0x71 ∷ []) (omega arith) c.put_byte.ensures in
    let q = put_on s _ _ (0x71 ∷ []) (c.args.port ∷ []) 1 p c.put_byte-2.ensures refl (omega arith) in
    let r = put_on s _ _ (0x71 ∷ c.args.port ∷ []) (bit c.args.accepted ∷ []) 2 q
    (rw c.bit_of.ensures at c.put_byte-3.ensures) refl (omega arith) in
    in_room general_rows 0x71 ((c.args.port ∷ []) ∷ (bit c.args.accepted ∷ []) ∷ []) s _ 3
    (byte_flag c.args.port c.args.accepted h) refl c.if-body-lt-SPEED_PROPOSAL_RESPONSE_LEN.false
    (rw (
      alone c.args.port,
      alone (bit c.args.accepted),
      div-one c.args.port,
      mod-eq_of_lt h,
      div-one (bit c.args.accepted),
      mod-eq_of_lt (bit-small c.args.accepted),
    ) r)

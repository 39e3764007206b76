-- `general::write_proposal` meets its contract. Assumes nothing.
use Prim.Native.Nat.{◌<◌}
use mathlib.Core.Path.{refl}
use mathlib.Core.List.{◌∷◌, []}
use native.Mathlib.Nat.{div-one, mod-eq_of_lt}
use native.Mathlib.Omega.{arith}
use Rattle.codec.specs.Digits.{bytes_of}
use Rattle.codec.proofs.Items.{alone}
use Rattle.codec.proofs.Writes.{in_room, no_room, put-start, put_on}
use Rattle.families.specs.Sheets.{general_rows}
use Rattle.families.proofs.Ok.{byte-long}
use borrow.Author.Rules.{rules}
use Rattle.families.proofs.general.write_proposal.Goals as goal

pub returns-then-body-lt-SPEED_PROPOSAL_LEN : goal.returns-then-body-lt-SPEED_PROPOSAL_LEN
returns-then-body-lt-SPEED_PROPOSAL_LEN c = let h : c.args.port < 256 = search rules in let k :
    c.args.baud < 4294967296 = search rules in
    no_room general_rows 0x70 ((c.args.port ∷ []) ∷ (c.args.baud ∷ []) ∷ [])
    c.args.body.now 6
    (byte-long c.args.port c.args.baud h k) refl c.if-body-lt-SPEED_PROPOSAL_LEN.true

pub returns : goal.returns
returns c =
    let h : c.args.port < 256 = search rules in let k : c.args.baud < 4294967296 = search rules in
    let s = c.args.body.now in
    let p = put-start s _ (0x70 ∷ []) (omega arith) c.put_byte.ensures in
    let q = put_on s _ _ (0x70 ∷ []) (c.args.port ∷ []) 1 p c.put_byte-2.ensures refl (omega arith) in
    let r = put_on s _ _ (0x70 ∷ c.args.port ∷ []) (bytes_of 4 c.args.baud) 2 q
    c.put_number.ensures refl (omega arith) in
    in_room general_rows 0x70 ((c.args.port ∷ []) ∷ (c.args.baud ∷ []) ∷ []) s _ 6
    (byte-long c.args.port c.args.baud h k) refl c.if-body-lt-SPEED_PROPOSAL_LEN.false
    (rw (alone c.args.port, alone c.args.baud, div-one c.args.port, mod-eq_of_lt h) r)

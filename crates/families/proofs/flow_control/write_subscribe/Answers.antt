-- The three numbers put one behind the other are the body. Assumes nothing.
use Prim.Native.Nat.{◌<◌}
use mathlib.Core.Path.{refl}
use mathlib.Core.List.{◌∷◌, []}
use native.Mathlib.Nat.{div-one, mod-eq_of_lt}
use native.Mathlib.Omega.{arith}
use Rattle.codec.specs.Digits.{bytes_of}
use Rattle.codec.proofs.Items.{alone}
use Rattle.codec.proofs.Writes.{in_room, no_room, put-start, put_on}
use Rattle.families.specs.Sheets.{flow_rows}
use Rattle.families.proofs.Ok.{byte_word}
use borrow.Author.Rules.{rules}
use Rattle.families.proofs.flow_control.write_subscribe.Goals as goal

pub returns-then-body-lt-SUBSCRIBE_LEN : goal.returns-then-body-lt-SUBSCRIBE_LEN
returns-then-body-lt-SUBSCRIBE_LEN c = let f = c.args.frame in
    let i = c.args.interval in
    let h : f < 256 = search rules in
    let k : i < 65536 = search rules in
    no_room flow_rows 0x01 ((f ∷ []) ∷ (i ∷ []) ∷ []) c.args.body.now 4 (byte_word f i h k) refl c.if-body-lt-SUBSCRIBE_LEN.true

pub returns : goal.returns
returns c =
    let f = c.args.frame in
    let i = c.args.interval in
    let h : f < 256 = search rules in
    let k : i < 65536 = search rules in
    let s = c.args.body.now in
    let p = put-start s _ (0x01 ∷ []) (omega arith) c.put_byte.ensures in
    let q = put_on s _ _ (0x01 ∷ []) (f ∷ []) 1 p c.put_byte-2.ensures refl (omega arith) in
    let r = put_on s _ _ (0x01 ∷ f ∷ []) (bytes_of 2 i) 2 q c.put_number.ensures refl (omega arith) in
    in_room flow_rows 0x01 ((f ∷ []) ∷ (i ∷ []) ∷ []) s _ 4 (byte_word f i h k) refl c.if-body-lt-SUBSCRIBE_LEN.false
    (rw (alone f, alone i, div-one f, mod-eq_of_lt h) r)

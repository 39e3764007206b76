-- Sub-command, time and first colour, put. Assumes nothing.
use mathlib.Core.Path.{refl}
use mathlib.Core.List.{◌∷◌, []}
use native.Mathlib.Omega.{arith}
use Rattle.codec.specs.Digits.{bytes_of}
use Rattle.codec.specs.Writing.{item_bytes}
use Rattle.codec.proofs.Writes.{put-start, put_on}
use Rattle.families.specs.Led.{color_says}
use Rattle.families.specs.Sheets.{colour}
use Rattle.families.proofs.led.put_timed.Goals as goal

pub returns : goal.returns
returns c =
    let s = c.args.body.now in
    let sub = c.args.sub in
    let t = c.args.time in
    let v = color_says c.args.color in
    let p = put-start s _ (sub ∷ []) (omega (arith, c.requires)) c.put_byte.ensures in
    let q = put_on s _ _ (sub ∷ []) (bytes_of 2 t) 1 p c.put_number.ensures refl (omega (arith, c.requires)) in
    put_on s _ _ (sub ∷ bytes_of 2 t) (item_bytes colour v) 3 q
    (rw c.packed.ensures at c.put_number-2.ensures) refl c.requires

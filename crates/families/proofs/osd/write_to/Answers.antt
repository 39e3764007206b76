-- `osd::write_to` meets its contract. Assumes nothing.
use Prim.Native.Nat.{◌<◌}
use mathlib.Core.Path.{refl}
use Rattle.families.specs.Sheets.{osd_rows}
use Rattle.families.proofs.Ok.{with_byte}
use borrow.Author.Rules.{rules}
use Rattle.families.proofs.osd.write_to.Goals as goal

pub returns : goal.returns
returns c =
    let h : c.args.command.buttons < 256 = search rules in
    with_byte osd_rows 0x01 c.args.command.buttons c.args.body.now _
    c.write_with_byte.result refl h c.write_with_byte.ensures

-- The fields of stored bytes that are a popup to the last of them. Assumes nothing.
use mathlib.Core.Path.{◌≡◌, refl, ◌∙◌}
use native.Mathlib.Omega.{arith}
use lib.ListN.{length, take}
use lib.Seq.{length-take-le}
use borrow.Author.Tests.{le-leb}
use Rattle.families.specs.Popup.{read_popup}
use Rattle.families.specs.Fields.{whole, fields_of}
use Rattle.families.proofs.ScreenLaws.{places-from, whole-there, whole_less}
use Rattle.families.proofs.screen.fields_in.Goals as goal

pub returns-then-places-n : goal.returns-then-places-n
returns-then-places-n c =
    let n = c.args.n in
    let popup = take n c.args.s.now in
    let x = places-from popup 0 c.in-Ok.places c.in-Ok.ensures in
    let l : length popup ≡ n = length-take-le _ _ (omega (arith, c.requires)) in
    let w = whole_less popup _ _ x.0 x.1.0 (λ e. c.if-places-n.true (e ∙ l)) in
    rw (le-leb _ _ c.if-n-gt-MAX_POPUP_DATA_LEN.false, ← c.zero_after.ensures, c.if-not-zero_after.false, rw l at w) refl

pub returns : goal.returns
returns c =
    let n = c.args.n in
    let popup = take n c.args.s.now in
    let x = places-from popup 0 c.in-Ok.places c.in-Ok.ensures in
    let l : length popup ≡ n = length-take-le _ _ (omega (arith, c.requires)) in
    let w = whole-there popup _ _ x.0 x.1.0 (omega (arith, c.if-places-n.false, l)) in
    rw (le-leb _ _ c.if-n-gt-MAX_POPUP_DATA_LEN.false, ← c.zero_after.ensures, c.if-not-zero_after.false, rw l at w) c.fields_at.ensures

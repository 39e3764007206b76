-- `screen::read_start` meets its contract. Assumes nothing.
use Rattle.crc.proofs.Laws.{bytes_of_lem}
use Rattle.families.proofs.ScreenLaws.{places-from, screen_popup}
use Rattle.families.proofs.screen.read_start.Goals as goal

pub returns : goal.returns
returns c =
    let s = c.args.rest.now in
    let y = places-from s 0 c.in_ok-places.places c.in_ok-places.ensures in
    screen_popup s _ _ c.popup_of.result (bytes_of_lem s c.type_inv.rest) y.0 y.1.0 c.popup_of.ensures

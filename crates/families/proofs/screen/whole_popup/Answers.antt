-- Whether the bytes are a popup that ends after n of them. Assumes nothing.
use Rattle.families.proofs.ScreenLaws.{places-from, whole_is}
use Rattle.families.proofs.screen.whole_popup.Goals as goal

pub returns-in-Ok : goal.returns-in-Ok
returns-in-Ok c =
    let x = places-from c.args.s.now 0 c.in-Ok.places c.in-Ok.ensures in whole_is c.args.s.now c.args.n _ _ x.0 x.1.0

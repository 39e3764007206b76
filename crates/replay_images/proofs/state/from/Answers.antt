-- `state::from` meets its contract. Assumes nothing.
use mathlib.Core.Path.{sym, ◌∙◌}
use native.Mathlib.Omega.{arith}
use borrow.Author.Tests.{eq-eqb, ne_eqb}
use lib.ListN.{length, get_or}
use lib.Dec.{leb, eqb}
use Rattle.images.proofs.NumberLaws.{number-there, read-ok, read-not}
use Rattle.replay_images.proofs.state.from.Goals as goal

pub returns-then-image-ne-REPLAY_SIZE : goal.returns-then-image-ne-REPLAY_SIZE
returns-then-image-ne-REPLAY_SIZE c =
    let image = c.args.image.now in
    rw (ne_eqb (length image) 7 c.if-image-ne-REPLAY_SIZE.true)

pub returns-in_default : goal.returns-in_default
returns-in_default c =
    let image = c.args.image.now in
    let n = read-not (eqb (get_or image 0 0) 1) (leb (get_or image 0 0) 1) _ (sym c.flag.ensures ∙ c.in_default.is) in
    rw (eq-eqb (length image) 7 c.if-image-ne-REPLAY_SIZE.false, n.0)

pub returns : goal.returns
returns c =
    let image = c.args.image.now in
    let n = read-ok (eqb (get_or image 0 0) 1) (leb (get_or image 0 0) 1) _ (sym c.flag.ensures ∙ c.in-Ok.is) in
    rw (
      eq-eqb (length image) 7 c.if-image-ne-REPLAY_SIZE.false,
      n.0,
      n.1,
      c.at.ensures ∙ number-there image 1 4 (omega arith),
      c.at-2.ensures ∙ number-there image 5 2 (omega arith),
    )

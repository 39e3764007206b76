-- Zeros from a place to the end. Assumes nothing.
use mathlib.Core.Path.{ap, ◌∙◌}
use Rattle.families.specs.Text.{zeros}
use Rattle.families.proofs.Stored.{rest_is}
use Rattle.families.proofs.text.zero_after.Goals as goal

pub returns : goal.returns
returns c = c.all_zero.ensures ∙ ap zeros (rest_is c.args.s.now c.args.n)

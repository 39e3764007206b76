-- `text::all_nonzero` meets its contract. Assumes nothing.
use mathlib.Core.Path.{◌∙◌}
use mathlib.Core.Bool.{not}
use lib.Dec.{eqb}
use Rattle.std.proofs.Common.{rules, tests}
use Rattle.std.proofs.lemmas.Iterator.{YieldsList-from_slice}
use Rattle.std.proofs.lemmas.Iterator.Search.{all_from_yields_List}
use Rattle.families.proofs.Stored.{all-nonzero}
use Rattle.families.proofs.text.all_nonzero.Goals as goal

pub returns : goal.returns
returns c =
    all_from_yields_List (λ byte. not (eqb byte 0)) _ _ c.all.result c.all.ensures.ran (YieldsList-from_slice _ c.iter.ensures.rest) (λ x b q k. search (rules, tests))
    ∙ all-nonzero c.args.s.now

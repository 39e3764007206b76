-- `reader::zero_in` meets its contract. Assumes nothing.
use mathlib.Core.Path.{◌∙◌}
use Rattle.std.proofs.Common.{rules, tests}
use lib.Dec.{eqb}
use Rattle.std.proofs.lemmas.Iterator.{YieldsList-from_slice}
use Rattle.std.proofs.lemmas.Iterator.Search.{position_from_yields_List}
use Rattle.codec.proofs.Texts.{zero_place}
use Rattle.codec.proofs.reader.zero_in.Goals as goal

pub returns : goal.returns
returns c =
    position_from_yields_List (λ byte. eqb byte 0) _ _ c.position.result c.position.ensures.ran (YieldsList-from_slice _ c.iter.ensures.rest) (λ x b q k. search (rules, tests))
    ∙ zero_place c.args.s.now

-- `table::index_of` meets its contract: the code's rows are those of the table. Assumes nothing.
use mathlib.Core.Path.{◌∙◌}
use Rattle.std.proofs.Common.{rules, tests}
use Rattle.std.proofs.lemmas.Iterator.{YieldsList-from_slice}
use Rattle.std.proofs.lemmas.Iterator.Search.{position_from_yields_List}
use Rattle.edits.specs.declared.table.TheConstants.{FIELDS}
use Rattle.edits.proofs.Indexed.{code_has, found_same}
use Rattle.edits.proofs.table.index_of.Goals as goal

pub returns : goal.returns
returns c =
    position_from_yields_List (code_has c.args.field) _ _ c.position.result c.position.ensures.ran
    (YieldsList-from_slice FIELDS c.iter.ensures.rest) (λ x b q k. search (rules, tests))
    ∙ found_same c.args.field

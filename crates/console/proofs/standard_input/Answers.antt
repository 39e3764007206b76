-- `standard_input` meets its contract. Assumes nothing.
use Rattle.console.proofs.NameLaws.{put-named}
use Rattle.console.proofs.standard_input.Goals as goal

pub returns : goal.returns
returns c = put-named _ _ _ _ _ c.in-Some.ensures

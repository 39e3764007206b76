-- `Listing::join` meets its contract. Assumes nothing.
use mathlib.Core.Path.{◌≡◌}
use lib.ListN.{length}
use Rattle.listing.specs.Step.{most_kept}
use Rattle.listing.proofs.StepLaws.{line-joined}
use borrow.Author.Rules.{rules}
use Rattle.listing.proofs.Listing.join.Goals as goal

pub returns : goal.returns
returns c =
    let room : length c.args.self.bytes ≡ most_kept = search rules in
    line-joined c.args.self c.args.part.now _ _ c.if-wanted-gt-MOST_KEPT.false room c.requires
    c.put_bytes.ensures c.line_of.ensures

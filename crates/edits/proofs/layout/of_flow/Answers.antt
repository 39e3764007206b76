-- `layout::of_flow` meets its contract. Assumes nothing.
use Rattle.edits.proofs.layout.of_flow.Goals as goal

pub returns-in-Subscribe : goal.returns-in-Subscribe
returns-in-Subscribe c = rw c.in-Subscribe.is c.plain.ensures

pub returns-in-Unsubscribe : goal.returns-in-Unsubscribe
returns-in-Unsubscribe c = rw c.in-Unsubscribe.is c.plain-in-Unsubscribe.ensures

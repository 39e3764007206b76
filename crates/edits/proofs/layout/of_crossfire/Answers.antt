-- `layout::of_crossfire` meets its contract. Assumes nothing.
use Rattle.edits.proofs.layout.of_crossfire.Goals as goal

pub returns-in-ModelSelection : goal.returns-in-ModelSelection
returns-in-ModelSelection c = rw c.in-ModelSelection.is c.plain.ensures

pub returns-in-ReplyCurrentModelSelection : goal.returns-in-ReplyCurrentModelSelection
returns-in-ReplyCurrentModelSelection c = rw c.in-ReplyCurrentModelSelection.is c.plain-in-ReplyCurrentModelSelection.ensures

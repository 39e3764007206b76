-- `layout::of_screen` meets its contract. Assumes nothing.
use Rattle.edits.proofs.layout.of_screen.Goals as goal

pub returns-in-PopupMessageStart : goal.returns-in-PopupMessageStart
returns-in-PopupMessageStart c = rw c.in-PopupMessageStart.is c.of_popup.ensures

pub returns-in-SelectionReturnValue : goal.returns-in-SelectionReturnValue
returns-in-SelectionReturnValue c = rw c.in-SelectionReturnValue.is c.plain.ensures

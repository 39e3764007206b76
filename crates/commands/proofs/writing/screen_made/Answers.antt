-- `writing::screen_made` meets its contract. Assumes nothing.
use Rattle.commands.proofs.writing.screen_made.Goals as goal

pub returns-in-PopupMessageStart : goal.returns-in-PopupMessageStart
returns-in-PopupMessageStart c = rw c.in-PopupMessageStart.is c.made.ensures

pub returns-in-SelectionReturnValue : goal.returns-in-SelectionReturnValue
returns-in-SelectionReturnValue c = rw c.in-SelectionReturnValue.is c.stores_none.ensures

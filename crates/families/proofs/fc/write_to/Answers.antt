-- `fc::write_to` meets its contract. Assumes nothing.
use Rattle.families.proofs.fc.write_to.Goals as goal

pub returns-in-ForceDisarm : goal.returns-in-ForceDisarm
returns-in-ForceDisarm c = rw c.in-ForceDisarm.is c.write_alone.ensures

pub returns-in-ScaleChannel : goal.returns-in-ScaleChannel
returns-in-ScaleChannel c = rw c.in-ScaleChannel.is c.write_alone-in-ScaleChannel.ensures

-- An ACK with stored information is the one that says it. Assumes nothing.
use Rattle.families.proofs.ack.CommandAck.with_information.Goals as goal

pub returns : goal.returns
returns c = rw c.padded.ensures

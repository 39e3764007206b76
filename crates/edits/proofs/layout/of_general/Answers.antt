-- `layout::of_general` meets its contract. Assumes nothing.
use Rattle.edits.proofs.layout.of_general.Goals as goal

pub returns-in-SpeedProposal : goal.returns-in-SpeedProposal
returns-in-SpeedProposal c = rw c.in-SpeedProposal.is c.plain.ensures

pub returns-in-SpeedProposalResponse : goal.returns-in-SpeedProposalResponse
returns-in-SpeedProposalResponse c = rw c.in-SpeedProposalResponse.is c.plain-in-SpeedProposalResponse.ensures

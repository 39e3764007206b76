-- `general::write_to` meets its contract. Assumes nothing.
use Rattle.families.proofs.general.write_to.Goals as goal

pub returns-in-SpeedProposal : goal.returns-in-SpeedProposal
returns-in-SpeedProposal c =
    rw c.in-SpeedProposal.is c.write_proposal.ensures

pub returns-in-SpeedProposalResponse : goal.returns-in-SpeedProposalResponse
returns-in-SpeedProposalResponse c =
    rw c.in-SpeedProposalResponse.is c.write_response.ensures

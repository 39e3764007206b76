-- 0x0A General: what each command says, and what a reading tells. Assumes nothing.
use Rattle.std.specs.Prelude.{Result}
use Rattle.codec.specs.declared.refusal.Refusal.{Refusal}
use Rattle.std.specs.Prelude.{[], ◌∷◌, eqb}
use Rattle.codec.specs.Pick.{pick}
use Rattle.codec.specs.Sheet.{Answer, Said, said, item_number}
use Rattle.codec.specs.Refusals.{told}
use Rattle.codec.specs.Told.{bit}
use Rattle.families.specs.declared.general.GeneralCommand.{GeneralCommand}
use Rattle.families.specs.declared.general.GeneralCommand.TheVariants.{SpeedProposal, SpeedProposalResponse}

abbrev pub general_says : GeneralCommand → Said
general_says (SpeedProposal port baud) = said 0x70 ((port ∷ []) ∷ (baud ∷ []) ∷ [])
general_says (SpeedProposalResponse port accepted) = said 0x71 ((port ∷ []) ∷ (bit accepted ∷ []) ∷ [])

-- the command that says it
abbrev pub general_of : Said → GeneralCommand
general_of (said sub vs) =
    pick (eqb sub 0x70) (SpeedProposal (item_number vs 0) (item_number vs 1)) (SpeedProposalResponse (item_number vs 0) (eqb (item_number vs 1) 1))

abbrev pub told_general : Result GeneralCommand Refusal → Answer Said
told_general r = told general_says r

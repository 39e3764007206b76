-- 0x20 Flow control: what each command says, and what a reading tells. Assumes nothing.
use Rattle.std.specs.Prelude.{Result}
use Rattle.codec.specs.declared.refusal.Refusal.{Refusal}
use Rattle.std.specs.Prelude.{[], ◌∷◌, eqb}
use Rattle.codec.specs.Pick.{pick}
use Rattle.codec.specs.Sheet.{Answer, Said, said, item_number}
use Rattle.codec.specs.Refusals.{told}
use Rattle.families.specs.declared.flow_control.FlowControlCommand.{FlowControlCommand}
use Rattle.families.specs.declared.flow_control.FlowControlCommand.TheVariants.{Subscribe, Unsubscribe}

abbrev pub flow_says : FlowControlCommand → Said
flow_says (Subscribe frame interval) = said 0x01 ((frame ∷ []) ∷ (interval ∷ []) ∷ [])
flow_says (Unsubscribe frame) = said 0x02 ((frame ∷ []) ∷ [])

-- the command that says it
abbrev pub flow_of : Said → FlowControlCommand
flow_of (said sub vs) = pick (eqb sub 0x01) (Subscribe (item_number vs 0) (item_number vs 1)) (Unsubscribe (item_number vs 0))

abbrev pub told_flow : Result FlowControlCommand Refusal → Answer Said
told_flow r = told flow_says r

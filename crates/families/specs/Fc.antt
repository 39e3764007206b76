-- 0x01 FC: what each command says, and what a reading tells. Assumes nothing.
use Rattle.std.specs.Prelude.{Result}
use Rattle.codec.specs.declared.refusal.Refusal.{Refusal}
use Rattle.std.specs.Prelude.{[], eqb}
use Rattle.codec.specs.Pick.{pick}
use Rattle.codec.specs.Sheet.{Answer, Said, said}
use Rattle.codec.specs.Refusals.{told}
use Rattle.families.specs.declared.fc.FcCommand.{FcCommand}
use Rattle.families.specs.declared.fc.FcCommand.TheVariants.{ForceDisarm, ScaleChannel}

abbrev pub fc_says : FcCommand → Said
fc_says ForceDisarm = said 0x01 []
fc_says ScaleChannel = said 0x02 []

-- the command that says it
abbrev pub fc_of : Said → FcCommand
fc_of (said sub vs) = pick (eqb sub 0x01) ForceDisarm ScaleChannel

abbrev pub told_fc : Result FcCommand Refusal → Answer Said
told_fc r = told fc_says r

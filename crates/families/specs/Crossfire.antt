-- 0x10 Crossfire: what each command says, and what a reading tells. Assumes nothing.
use Rattle.std.specs.Prelude.{Result}
use Rattle.codec.specs.declared.refusal.Refusal.{Refusal}
use Rattle.std.specs.Prelude.{[], ◌∷◌, eqb}
use Rattle.codec.specs.Pick.{pick}
use Rattle.codec.specs.Sheet.{Answer, Said, said, item_number}
use Rattle.codec.specs.Refusals.{told}
use Rattle.families.specs.declared.crossfire.CrossfireCommand.{CrossfireCommand}
use Rattle.families.specs.declared.crossfire.CrossfireCommand.TheVariants.{SetReceiverInBindMode, CancelBindMode, SetBindId, ModelSelection, CurrentModelSelection, ReplyCurrentModelSelection, EnableRxTelemetry, DisableRxTelemetry, FactoryReset, ResetToFactoryFirmware}

abbrev pub crossfire_says : CrossfireCommand → Said
crossfire_says SetReceiverInBindMode = said 0x01 []
crossfire_says CancelBindMode = said 0x02 []
crossfire_says SetBindId = said 0x03 []
crossfire_says (ModelSelection model) = said 0x05 ((model ∷ []) ∷ [])
crossfire_says CurrentModelSelection = said 0x06 []
crossfire_says (ReplyCurrentModelSelection model) = said 0x07 ((model ∷ []) ∷ [])
crossfire_says EnableRxTelemetry = said 0x0A []
crossfire_says DisableRxTelemetry = said 0x0B []
crossfire_says FactoryReset = said 0x0C []
crossfire_says ResetToFactoryFirmware = said 0x0D []

-- the command that says it
abbrev pub crossfire_of : Said → CrossfireCommand
crossfire_of (said sub vs) =
    pick (eqb sub 0x01) SetReceiverInBindMode
    (pick (eqb sub 0x02) CancelBindMode
    (pick (eqb sub 0x03) SetBindId
    (pick (eqb sub 0x05) (ModelSelection (item_number vs 0))
    (pick (eqb sub 0x06) CurrentModelSelection
    (pick (eqb sub 0x07) (ReplyCurrentModelSelection (item_number vs 0))
    (pick (eqb sub 0x0A) EnableRxTelemetry
    (pick (eqb sub 0x0B) DisableRxTelemetry
    (pick (eqb sub 0x0C) FactoryReset ResetToFactoryFirmware))))))))

abbrev pub told_crossfire : Result CrossfireCommand Refusal → Answer Said
told_crossfire r = told crossfire_says r

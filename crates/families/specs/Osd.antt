-- 0x05 OSD: what its command says, and what a reading tells. Assumes nothing.
use Rattle.std.specs.Prelude.{Result}
use Rattle.codec.specs.declared.refusal.Refusal.{Refusal}
use Rattle.std.specs.Prelude.{[], ◌∷◌}
use Rattle.codec.specs.Sheet.{Answer, Said, said, item_number}
use Rattle.codec.specs.Refusals.{told}
use Rattle.families.specs.declared.osd.OsdCommand.{OsdCommand}

abbrev pub osd_says : OsdCommand → Said
osd_says c = said 0x01 ((c.buttons ∷ []) ∷ [])

-- the command that says it
abbrev pub osd_of : Said → OsdCommand
osd_of (said sub vs) = record { buttons = item_number vs 0 }

abbrev pub told_osd : Result OsdCommand Refusal → Answer Said
told_osd r = told osd_says r

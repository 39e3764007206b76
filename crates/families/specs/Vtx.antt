-- 0x08 VTX: what each command says, and what a reading tells. Assumes nothing.
use Rattle.std.specs.Prelude.{Result}
use Rattle.codec.specs.declared.refusal.Refusal.{Refusal}
use Rattle.std.specs.Prelude.{ℕ, List, [], ◌∷◌, get_or, eqb}
use Rattle.codec.specs.Pick.{pick}
use Rattle.codec.specs.Sheet.{Answer, Said, said, item_number}
use Rattle.codec.specs.Refusals.{told}
use Rattle.codec.specs.Told.{bit}
use Rattle.families.specs.declared.vtx.VtxCommand.{VtxCommand}
use Rattle.families.specs.declared.vtx.VtxCommand.TheVariants.{SetFrequency, EnablePitModeOnPowerUp, PowerUpFromPitMode, SetDynamicPower, SetPower}

abbrev pub vtx_says : VtxCommand → Said
vtx_says (SetFrequency f) = said 0x02 ((f ∷ []) ∷ [])
vtx_says (EnablePitModeOnPowerUp mode control switch) = said 0x04 ((switch ∷ control ∷ bit mode ∷ []) ∷ [])
vtx_says PowerUpFromPitMode = said 0x05 []
vtx_says (SetDynamicPower p) = said 0x06 ((p ∷ []) ∷ [])
vtx_says (SetPower p) = said 0x08 ((p ∷ []) ∷ [])

-- the command that says it
abbrev pub pit_of : List ℕ → VtxCommand
pit_of v = EnablePitModeOnPowerUp (eqb (get_or v 2 0) 1) (get_or v 1 0) (get_or v 0 0)

abbrev pub vtx_of : Said → VtxCommand
vtx_of (said sub vs) =
    pick (eqb sub 0x02) (SetFrequency (item_number vs 0))
    (pick (eqb sub 0x04) (pit_of (get_or vs 0 []))
    (pick (eqb sub 0x05) PowerUpFromPitMode
    (pick (eqb sub 0x06) (SetDynamicPower (item_number vs 0)) (SetPower (item_number vs 0)))))

abbrev pub told_vtx : Result VtxCommand Refusal → Answer Said
told_vtx r = told vtx_says r

-- Bytes compared. Assumes nothing.
use Rattle.std.specs.Prelude.{ℕ, Bool, true, false, List, [], ◌∷◌, eqb}
use Rattle.codec.specs.Pick.{pick}

abbrev pub same : List ℕ → List ℕ → Bool
same [] [] = true
same [] (b ∷ s) = false
same (a ∷ r) [] = false
same (a ∷ r) (b ∷ s) = pick (eqb a b) (same r s) false

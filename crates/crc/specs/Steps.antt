-- The division as the code works it, bit after bit, for the contracts of private functions. Nobody has to believe this file:
-- proofs/Worked.antt shows that it gives the remainder. Assumes nothing.
use Rattle.std.specs.Prelude.{List, [], ◌∷◌, ℕ, zero, suc, ◌*◌, ◌/◌}
use Rattle.crc.specs.Polynomial.{x, plus}

-- r times x, less g where that has degree 8
unfoldable pub step : ℕ → ℕ → ℕ
step g r = plus (r * x) (r / 128 * g)

unfoldable pub steps : ℕ → ℕ → ℕ → ℕ
steps g zero r = r
steps g (suc n) r = step g (steps g n r)

-- byte after byte, from the check s of what came before
unfoldable pub worked : ℕ → ℕ → List ℕ → ℕ
worked g s [] = s
worked g s (b ∷ bs) = worked g (steps g 8 (plus s b)) bs

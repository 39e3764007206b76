-- What closes a payload around a body that stands in its place: for the contracts of private functions. Assumes nothing.
use Rattle.std.specs.Prelude.{ℕ, ◌+◌, List, [], ◌∷◌, take, set}
use Rattle.std.proofs.lemmas.List.Edits.{sets}
use Rattle.crc.specs.Check.{payload_check}

-- the addresses and the id before it
abbrev pub fronted : ℕ → ℕ → ℕ → List ℕ → List ℕ
fronted dst src id s = sets s 0 (dst ∷ src ∷ id ∷ [])

-- and the check behind its n bytes
abbrev pub closed : ℕ → ℕ → ℕ → ℕ → List ℕ → List ℕ
closed dst src id n s = set (fronted dst src id s) (n + 3) (payload_check (take (n + 4) (fronted dst src id s)))

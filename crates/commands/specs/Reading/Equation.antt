-- What the shut name stands for, for this crate's own proofs: no crate above cites it. Assumes nothing.
use Rattle.std.specs.Prelude.{ℕ, List, ◌≡◌, refl}
use Rattle.commands.specs.Reading.{reading_order, read_command}

pub read_is : (p : List ℕ) → read_command p ≡ reading_order p
unfolding read_command
read_is p = refl

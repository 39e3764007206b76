-- What was read of a block, for a private contract. Assumes nothing.
use Rattle.std.specs.Prelude.{ℕ, ◌≤◌, List, Result, Ok, Err, length}
use Rattle.console.specs.declared.Said.{Said}

-- bytes that were read stand in the block
abbrev pub Holds : Result ℕ Said → List ℕ → Type 0
Holds (Ok n) b = n ≤ length b
Holds (Err said) b = Unit {0}

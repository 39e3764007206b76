-- What a read gives. Assumes nothing.
use Rattle.std.specs.Prelude.{ℕ, ◌≤◌, ◌<◌, List, Option, None, Some, Result, Ok, Err, length}
use Rattle.console.specs.declared.Said.{Said}

-- bytes that were read are some, and no more than have room
abbrev pub Within : Result (Option ℕ) Said → List ℕ → Type 0
Within (Ok (Some n)) s = (0 < n) × (n ≤ length s)
Within (Ok None) s = Unit {0}
Within (Err said) s = Unit {0}

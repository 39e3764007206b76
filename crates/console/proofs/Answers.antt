-- What an answer says by its case, for the programs above. Assumes nothing.
use Prim.Native.Nat.{ℕ, ◌<◌, ◌≤◌}
use mathlib.Core.List.{List}
use mathlib.Core.Path.{◌≡◌}
use lib.ListN.{length}
use Rattle.std.specs.Prelude.{Option, Some, Result, Ok}
use Rattle.console.specs.Names.{Named, NamedIn}
use Rattle.console.specs.Reading.{Within}
use Rattle.console.specs.declared.Opened.{Opened}
use Rattle.console.specs.declared.Said.{Said}

pub opened-named : (program : List ℕ) (r : Result Opened Said) (input : Opened) (t : List ℕ) → NamedIn program r t
    → r ≡ Ok input → Named program input.len t
opened-named program r input t h e = rw e at h

pub read_bytes : (r : Result (Option ℕ) Said) (n : ℕ) (s : List ℕ) → Within r s → r ≡ Ok (Some n) → (0 < n) × (n ≤ length s)
read_bytes r n s h e = rw e at h

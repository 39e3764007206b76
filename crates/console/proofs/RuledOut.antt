-- Wrong answers that the contracts of the public functions rule out, whatever the system answers. `Post` is the contract as the check
-- reads it from the source, and no copy of it. Assumes nothing.
use Prim.Native.Nat.{ℕ, ◌<◌}
use mathlib.Core.List.{List, [], ◌∷◌}
use mathlib.Core.Path.{◌≡◌, refl, ap}
use native.Mathlib.Omega.{arith}
use contract.Lifetimes.{Lfts}
use borrow.Fn.Kinds.{Dens, ended_of}
use denote.Triple.Clauses.{AtExit}
use lib.ListN.{length, get_or}
use Rattle.std.specs.Prelude.{Some, Ok, Err}
use Rattle.console.specs.Names.{argument_of}
use Rattle.console.specs.declared.Opened.{Opened}
use Rattle.console.specs.declared.Said.{Said}
use Rattle.console.specs.declared.Argument.TheVariants.{StandardInput, Unknown, File}
use Rattle.console.proofs.open_input.Reads as open-input
use Rattle.console.proofs.open_input.Kinds as open-input-kinds
use Rattle.console.proofs.read.Reads as read
use Rattle.console.proofs.read.Kinds as read-kinds
use Rattle.console.proofs.write_out.Reads as write-out
use Rattle.console.proofs.write_out.Kinds as write-out-kinds

-- ---- open_input
module _ (κs : Lfts 4) (a : Dens κs open-input-kinds.ps) (s : AtExit (ended_of 4 open-input-kinds.ps open-input-kinds.r) κs)
    (input : Opened) where
  -- no name goes beyond the bytes that it has
  pub name-not-beyond : open-input.Post κs a (Ok input) s → length s.1.1.1.0.now < input.len → ⊥
  name-not-beyond p h = omega (arith, p.fits)

  -- it begins with the program's: "b: " is none of "a"
  pub name-of-another : open-input.Post κs a (Ok input) s → a.1.0.now ≡ 97 ∷ []
      → s.1.1.1.0.now ≡ 98 ∷ 58 ∷ 32 ∷ [] → ⊥
  name-of-another p e f =
      let begins : ◌≡◌ {A = List ℕ} (98 ∷ 58 ∷ 32 ∷ []) (97 ∷ 58 ∷ 32 ∷ []) = rw (e, f) at p.begins in
      let z : ◌≡◌ {A = ℕ} 98 97 = ap (λ (l : List ℕ). get_or l 0 0) begins in
      omega arith

-- "-", "--help" and so on, no word, "a-"
pub dash_is_standard_input : argument_of (45 ∷ []) ≡ StandardInput
dash_is_standard_input = refl

pub option_unknown : argument_of (45 ∷ 45 ∷ []) ≡ Unknown
option_unknown = refl

pub empty_is_a_file : argument_of [] ≡ File
empty_is_a_file = refl

pub dash_behind : argument_of (97 ∷ 45 ∷ []) ≡ File
dash_behind = refl

-- ---- read
module _ (κs : Lfts 4) (a : Dens κs read-kinds.ps) (s : AtExit (ended_of 4 read-kinds.ps read-kinds.r) κs) where
  -- none are no bytes
  pub read_some : read.Post κs a (Ok (Some 0)) s → ⊥
  read_some p = omega (arith, p.0)

  -- nor are there more than have room
  pub read_within : (n : ℕ) → read.Post κs a (Ok (Some n)) s → length s.1.1.1.0.now < n → ⊥
  read_within n p h = omega (arith, p.1)

-- ---- write_out
-- nothing to be written does not fail
pub nothing_written : (κs : Lfts 3) (a : Dens κs write-out-kinds.ps) (s : AtExit (ended_of 3 write-out-kinds.ps write-out-kinds.r) κs)
    (said : Said) → write-out.Post κs a (Err said) s → a.1.0.now ≡ [] → ⊥
nothing_written κs a s said p e = let f = p e in let z : ◌≡◌ {A = ℕ} 0 1 = cc in omega arith

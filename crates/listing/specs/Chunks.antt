-- An input fed in chunks: all lines of each chunk, one step after the other, then what closes the listing. Assumes nothing.
use Rattle.std.specs.Prelude.{ℕ, zero, suc, ◌<◌, List, [], ◌∷◌, ◌++◌, ◌≡◌, length}
use Rattle.codec.specs.Sheet.{Answer, got, refused}
use Rattle.codec.specs.Refusals.{value_in}
use Rattle.listing.specs.Step.{opened, step_of, closing}
use Rattle.listing.specs.declared.line.Line.{Line}
use Rattle.listing.specs.declared.Listing.{Listing}

-- the lines of a chunk, and the state after it
pub data Fed : Type 0 where
  fed : List Line → Listing → Fed

abbrev pub lines_in : Fed → List Line
lines_in (fed ls s) = ls

abbrev pub state_in : Fed → Listing
state_in (fed ls s) = s

-- the line that a step tells, before those of the steps after it; where it tells none, there are no more
abbrev pub before : Answer (List Line) → Listing → Fed → Fed
before (got []) s r = fed [] s
before (got (l ∷ none)) s (fed ls t) = fed (l ∷ ls) t
before (refused n p) s r = fed [] s

-- the steps from a place on, at most so many
abbrev pub steps : ℕ → Listing → List ℕ → ℕ → Fed
steps zero s i at = fed [] s
steps (suc most) s i at =
    before (step_of s i at).says (step_of s i at).state (steps most (step_of s i at).state i (step_of s i at).at)

abbrev pub chunk : Listing → List ℕ → Fed
chunk s i = steps (suc (length i)) s i 0

-- THE lines of an input fed in chunks
abbrev pub in_chunks : Listing → List (List ℕ) → List Line
in_chunks s [] = value_in [] (closing s)
in_chunks s (c ∷ cs) = lines_in (chunk s c) ++ in_chunks (state_in (chunk s c)) cs

abbrev pub joined : List (List ℕ) → List ℕ
joined [] = []
joined (c ∷ cs) = c ++ joined cs

-- the state after chunks
abbrev pub after_chunks : Listing → List (List ℕ) → Listing
after_chunks s [] = s
after_chunks s (c ∷ cs) = after_chunks (state_in (chunk s c)) cs

abbrev pub NoneEmpty : List (List ℕ) → Type 0
NoneEmpty [] = Unit {0}
NoneEmpty (c ∷ cs) = (0 < length c) × NoneEmpty cs

-- a state after so many chunks, whatever they held
pub record After (k : ℕ) (s : Listing) : Type 0 where
  pub chunks : List (List ℕ)
  pub some : NoneEmpty chunks
  pub count : length chunks ≡ k
  pub state : s ≡ after_chunks (opened 0 0) chunks

-- The input that an argument names, and its name as an error tells it. Assumes nothing.
use Rattle.std.specs.Prelude.{ℕ, ◌<◌, ◌≤◌, List, [], ◌∷◌, ◌++◌, ◌≡◌, Option, None, Some, Result, Ok, Err, length, take, eqb}
use Rattle.std.proofs.lemmas.List.Edits.{sets}
use Rattle.codec.specs.Pick.{pick}
use Rattle.console.specs.declared.Opened.{Opened}
use Rattle.console.specs.declared.Said.{Said}
use Rattle.console.specs.declared.Argument.{Argument}
use Rattle.console.specs.declared.Argument.TheVariants.{StandardInput, Unknown, File}

-- "-" is standard input; another word that begins so is an option, and none is known; all else is a file
abbrev pub argument_of : List ℕ → Argument
argument_of [] = File
argument_of (b ∷ w) = pick (eqb b 45) (pick (eqb (length w) 0) StandardInput Unknown) File

-- ": "
abbrev pub colon : List ℕ
colon = 58 ∷ 32 ∷ []

-- "PROGRAM: WHAT"
abbrev pub name_of : List ℕ → List ℕ → List ℕ
name_of program what = program ++ (colon ++ what)

-- the first n bytes of t are a name of the program's: they begin with "PROGRAM: "
pub record Named (program : List ℕ) (n : ℕ) (t : List ℕ) : Type 0 where
  pub fits : n ≤ length t
  pub begins : take (length (name_of program [])) t ≡ name_of program []
  pub rest : length (name_of program []) ≤ n

-- of an input that was opened, so its length and t; of none, nothing is said
abbrev pub NamedIn : List ℕ → Result Opened Said → List ℕ → Type 0
NamedIn program (Ok input) t = Named program input.len t
NamedIn program (Err said) t = Unit {0}

-- For contracts of private functions, nobody has to believe what follows. An input that was opened has a name of n bytes
abbrev pub Sized : ℕ → Result Opened Said → Type 0
Sized n (Ok input) = input.len ≡ n
Sized n (Err said) = Unit {0}

-- PUTTING the name w at the front of t answers its length and leaves t'; without room nothing changes
abbrev pub PutsName : List ℕ → Option ℕ → List ℕ → List ℕ → Type 0
PutsName w (Some n) t t' = (n ≡ length w) × ((n ≤ length t) × (t' ≡ sets t 0 w))
PutsName w None t t' = (length t < length w) × (t' ≡ t)

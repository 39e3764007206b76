-- What a method of a `Reader` says of an item taken from s that leaves t, by its answer r. Assumes nothing.
use Rattle.std.specs.Prelude.{Result, Bool}
use Rattle.codec.specs.declared.refusal.Refusal.{Refusal}
use Prim.Native.Nat.{ℕ}
use mathlib.Core.List.{List}
use Rattle.codec.specs.Sheet.{Item}
use Rattle.codec.specs.Taking.{TakesNumber, TakesFlag, TakesText}
use Rattle.codec.specs.declared.reader.TextRead.{TextRead}

abbrev pub number_says : Item → ℕ → List ℕ → Result ℕ Refusal → List ℕ → Type 0
number_says i high s r t = TakesNumber i high r s t

abbrev pub flag_says : List ℕ → Result Bool Refusal → List ℕ → Type 0
flag_says s r t = TakesFlag r s t

abbrev pub text_says : List ℕ → Result TextRead Refusal → List ℕ → Type 0
text_says s r t = TakesText r s t

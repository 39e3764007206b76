-- A number and a flag in an image. Assumes nothing.
use Rattle.std.specs.Prelude.{ℕ, ◌+◌, Bool, List, length, take, drop, ltb, leb, eqb}
use Rattle.std.specs.declared.result.Result.{Result}
use Rattle.std.specs.declared.result.Result.TheVariants.{Ok, Err}
use Rattle.codec.specs.Pick.{pick}
use Rattle.codec.specs.Digits.{number_of}
use Rattle.codec.specs.declared.refusal.Refusal.{Refusal}
use Rattle.codec.specs.declared.refusal.Refusal.TheVariants.{RecordNotMade}

-- in so many bytes at a place, highest first; 0 where they are not all there
abbrev pub number_at : List ℕ → ℕ → ℕ → ℕ
number_at s at w = pick (ltb (length s) (at + w)) 0 (number_of (take w (drop at s)))

-- 0 or 1; another byte is 5
abbrev pub flag_of : ℕ → Result Bool Refusal
flag_of b = pick (leb b 1) (Ok (eqb b 1)) (Err RecordNotMade)

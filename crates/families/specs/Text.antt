-- Document 01: texts, their constructor, and stored bytes that are made. Assumes nothing.
use Rattle.std.specs.Prelude.{Result, ℕ, ◌-◌, Bool, true, false, List, [], ◌∷◌, ◌++◌, length, take, drop, replicate, leb, eqb}
use Rattle.codec.specs.Pick.{pick}
use Rattle.codec.specs.Sheet.{Answer, got, refused}
use Rattle.codec.specs.Writing.{nonzero}
use Rattle.codec.specs.Refusals.{Gives}
use Rattle.families.specs.declared.text.CommandString.{CommandString}
use Rattle.codec.specs.declared.refusal.Refusal.{Refusal}

abbrev pub zeros : List ℕ → Bool
zeros [] = true
zeros (b ∷ s) = pick (eqb b 0) (zeros s) false

-- "Made means: stored lengths within limits, text and information bytes nonzero, .. unused places zero": n bytes of b, at most so many
abbrev pub made_bytes : ℕ → ℕ → List ℕ → Bool
made_bytes most n b = pick (leb n most) (pick (nonzero (take n b)) (zeros (drop n b)) false) false

abbrev pub made_text : CommandString → Bool
made_text t = made_bytes 51 t.len t.bytes

-- the bytes, and zeros up to n
abbrev pub padded : ℕ → List ℕ → List ℕ
padded n s = s ++ replicate (n - length s) 0

-- the text of these bytes; "a blank text .. has length 0 and zeros throughout": the text of none
abbrev pub text_of : List ℕ → CommandString
text_of v = record { len = length v; bytes = padded 51 v }

abbrev pub bytes_in : CommandString → List ℕ
bytes_in t = take t.len t.bytes

-- "Text: a zero byte 2, then over 51 bytes 1."
abbrev pub new_text : List ℕ → Answer (List ℕ)
new_text v = pick (nonzero v) (pick (leb (length v) 51) (got v) (refused 1 0)) (refused 2 0)

-- what the constructor answers
abbrev pub TextIs : Answer (List ℕ) → Result CommandString Refusal → Type 0
TextIs a r = Gives text_of a r

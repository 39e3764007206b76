-- Document 01, "Numbers given back instead of a command": the number of each name. Assumes nothing.
use Rattle.std.specs.Prelude.{Result, Ok, Err}
use Rattle.std.specs.Prelude.{ℕ, ◌≡◌}
use Rattle.codec.specs.Sheet.{Answer, got, refused}
use Rattle.codec.specs.declared.refusal.Refusal.{Refusal}
use Rattle.codec.specs.declared.refusal.Refusal.TheVariants.{InvalidPayloadLength, InvalidPayload, BufferOverflow, FamilyLeftBehind, RecordNotMade, NotAsWritten, NoSuchField, NumberOutsideRange}

abbrev pub refusal_number : Refusal → ℕ
refusal_number InvalidPayloadLength = 1
refusal_number InvalidPayload = 2
refusal_number BufferOverflow = 3
refusal_number FamilyLeftBehind = 4
refusal_number RecordNotMade = 5
refusal_number NotAsWritten = 6
refusal_number NoSuchField = 7
refusal_number NumberOutsideRange = 8

-- 0 where nothing was refused
abbrev pub outcome_number : {A : Type 0} → Result A Refusal → ℕ
outcome_number (Ok a) = 0
outcome_number (Err r) = refusal_number r

-- a Result in an answer's terms, of a value that says this
abbrev pub told : {A B : Type 0} → (A → B) → Result A Refusal → Answer B
told says (Ok a) = got (says a)
told says (Err r) = refused (refusal_number r) 0

-- a Result GIVES an answer: the value that says what was got, or the refusal of this number
abbrev pub Gives : {A B : Type 0} → (A → B) → Answer A → Result B Refusal → Type 0
Gives shown (got a) (Ok b) = b ≡ shown a
Gives shown (got a) (Err r) = ⊥
Gives shown (refused n p) (Ok b) = ⊥
Gives shown (refused n p) (Err r) = refusal_number r ≡ n

-- the number of an answer, and its value or, with each number, the blank one
abbrev pub number_in : {A : Type 0} → Answer A → ℕ
number_in (got a) = 0
number_in (refused n p) = n

abbrev pub value_in : {A : Type 0} → A → Answer A → A
value_in blank (got a) = a
value_in blank (refused n p) = blank

-- what an answer sets out: 01's number, and the value that comes with it
pub data SetOut (A : Type 0) : Type 0 where
  numbered : ℕ → A → SetOut A

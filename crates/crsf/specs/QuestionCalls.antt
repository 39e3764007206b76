-- Any calls on a question over the C boundary, one after the other, and the words of the table for them. Assumes nothing.
use Rattle.std.specs.Prelude.{ℕ, ◌^◌, ◌<◌, List, [], ◌∷◌, ◌≡◌}
use Rattle.crc.specs.Check.{Bytes}
use Rattle.codec.specs.Sheet.{Answer, got, refused, and_then}
use Rattle.images.specs.Word.{word}
use Rattle.questions.specs.Table.{State, Call, Told, answer, next}
use Rattle.crsf.specs.Question.{closing, Given, asking, returning, commanding, call_in, CallsOut}

-- a second of 32 bits, and bytes
abbrev pub Typed : Given → Type 0
Typed (asking second popup) = (second < 2 ^ 32) × Bytes popup
Typed (returning second value response) = second < 2 ^ 32
Typed (commanding second command) = (second < 2 ^ 32) × Bytes command

-- a call: what the function was handed, what it answered, and what it left of the question
pub record CallMade : Type 0 where
  pub given : Given
  pub word : ℕ
  pub left : List ℕ

-- each is handed the question that the one before it left, the first this one; all that is known of it is its contract
abbrev pub InTurn : List ℕ → List CallMade → Type 0
InTurn s [] = Unit {0}
InTurn s (k ∷ ks) = Typed k.given × (CallsOut k.given k.word s k.left × InTurn k.left ks)

abbrev pub words_of : List CallMade → List ℕ
words_of [] = []
words_of (k ∷ ks) = k.word ∷ words_of ks

-- ---- the table's
abbrev pub told_word : Answer Told → ℕ
told_word (got t) = word 0 (closing t) 0
told_word (refused n p) = word n 0 p

abbrev pub next_in : State → Answer Call → State
next_in s (got c) = next s c
next_in s (refused n p) = s

abbrev pub table_words : State → List CallMade → List ℕ
table_words s [] = []
table_words s (k ∷ ks) = told_word (and_then (call_in k.given) (λ c. answer s c)) ∷ table_words (next_in s (call_in k.given)) ks

-- the calls of these, where each is handed the image of a popup or a record
abbrev pub AreCalls : List CallMade → List Call → Type 0
AreCalls [] [] = Unit {0}
AreCalls [] (c ∷ cs) = ⊥
AreCalls (k ∷ ks) [] = ⊥
AreCalls (k ∷ ks) (c ∷ cs) = (call_in k.given ≡ got c) × AreCalls ks cs

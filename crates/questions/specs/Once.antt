-- Every question that is opened is closed at most once, said of the answers. Assumes nothing.
use Rattle.std.specs.Prelude.{ℕ, ◌+◌, Bool, true, false, List, [], ◌∷◌}
use Rattle.codec.specs.Pick.{pick}
use Rattle.codec.specs.Sheet.{Answer, got, refused}
use Rattle.questions.specs.Table.{Asked, closed, «open», Told, opened, processed, cancelled, expired}

-- closed as processed, cancelled or expired
abbrev pub closing : Told → Bool
closing opened = false
closing processed = true
closing cancelled = true
closing expired = true

abbrev pub is_open : Asked → Bool
is_open closed = false
is_open («open» f sent) = true

-- where a question is open, or none is: a closing comes only while one is open, and after it none until the next opens
abbrev pub closes_once : Bool → List (Answer Told) → Bool
closes_once b [] = true
closes_once b (refused n p ∷ xs) = closes_once b xs
closes_once b (got t ∷ xs) = pick (closing t) (pick b (closes_once false xs) false) (closes_once true xs)

-- how many of the answers open a question, and how many close one
abbrev pub openings : List (Answer Told) → ℕ
openings [] = 0
openings (refused n p ∷ xs) = openings xs
openings (got t ∷ xs) = pick (closing t) (openings xs) (openings xs + 1)

abbrev pub closings : List (Answer Told) → ℕ
closings [] = 0
closings (refused n p ∷ xs) = closings xs
closings (got t ∷ xs) = pick (closing t) (closings xs + 1) (closings xs)

-- Wrong answers that the contracts of the public functions rule out: the definition that the contract names, worked out for an input
-- where the wrong answer would be another. That no other answer is allowed there is in OneAnswer.antt. Assumes nothing.
use mathlib.Core.List.{[], ◌∷◌}
use mathlib.Core.Path.{◌≡◌, refl}
use lib.ListN.{replicate}
use Rattle.text.specs.Pieces.{hex_of, decimal, space, numbered_text}
use Rattle.text.specs.Putting.{PutsBefore, PutsBehind}

-- ---- put_word
-- the bytes before and behind keep theirs
pub word-there : PutsBefore (8 ∷ 9 ∷ []) 3 1 (1 ∷ 2 ∷ 3 ∷ 4 ∷ []) (1 ∷ 8 ∷ 9 ∷ 4 ∷ [])
word-there = record { start = refl; leaves = refl }

-- what has no room is not cut
pub word-whole : PutsBefore (8 ∷ 9 ∷ []) 1 1 (1 ∷ 2 ∷ []) (1 ∷ 2 ∷ [])
word-whole = record { start = refl; leaves = refl }

-- nor put in front of a place beyond the end
pub word-beyond : PutsBefore (8 ∷ []) 3 3 (1 ∷ 2 ∷ []) (1 ∷ 2 ∷ [])
word-beyond = record { start = refl; leaves = refl }

-- ---- put_decimal
-- 0 has a digit
pub decimal_of_0 : decimal 0 ≡ 48 ∷ []
decimal_of_0 = refl

-- the highest stands first, and no zero stands in front
pub decimal_of_205 : decimal 205 ≡ 50 ∷ 48 ∷ 53 ∷ []
decimal_of_205 = refl

-- three digits in front of the second place have no room: none is put
pub decimal-whole : PutsBefore (decimal 205) 2 2 (1 ∷ 2 ∷ 3 ∷ []) (1 ∷ 2 ∷ 3 ∷ [])
decimal-whole = record { start = refl; leaves = refl }

-- ---- put_hex
-- two digits, also of a small number
pub hex_of_8 : hex_of 8 ≡ 48 ∷ 56 ∷ []
hex_of_8 = refl

-- upper-case ones: "FA"
pub hex_upper : hex_of 250 ≡ 70 ∷ 65 ∷ []
hex_upper = refl

-- ---- put_numbered
-- the word stands in front of the number, the line's end behind it: " 7" and 10
pub numbered_order : PutsBefore (numbered_text space 7) 4 1 (replicate 4 0) (0 ∷ 32 ∷ 55 ∷ 10 ∷ [])
numbered_order = record { start = refl; leaves = refl }

-- where the number and its end have room, but not the word, none of them is put
pub numbered-whole : PutsBefore (numbered_text space 7) 2 2 (replicate 2 0) (replicate 2 0)
numbered-whole = record { start = refl; leaves = refl }

-- ---- put_behind
-- a text that just has room is put; what waits keeps its bytes
pub behind-full : PutsBehind (8 ∷ 9 ∷ []) 1 2 (1 ∷ 2 ∷ 3 ∷ []) (1 ∷ 8 ∷ 9 ∷ [])
behind-full = record { count = refl; leaves = refl }

-- one without room is not cut, nor counted
pub behind-whole : PutsBehind (8 ∷ 9 ∷ []) 2 0 (1 ∷ 2 ∷ 3 ∷ []) (1 ∷ 2 ∷ 3 ∷ [])
behind-whole = record { count = refl; leaves = refl }

-- nor one at a place beyond the end
pub behind-beyond : PutsBehind (8 ∷ []) 4 0 (1 ∷ 2 ∷ 3 ∷ []) (1 ∷ 2 ∷ 3 ∷ [])
behind-beyond = record { count = refl; leaves = refl }

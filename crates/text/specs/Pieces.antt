-- Document 01, "The listing": the pieces of a line's text, in ASCII. Assumes nothing.
use Rattle.std.specs.Prelude.{ℕ, zero, suc, ◌+◌, ◌/◌, ◌%◌, List, [], ◌∷◌, ◌++◌, ltb}
use Rattle.codec.specs.Pick.{pick}

-- "The family id is two upper-case hexadecimal digits"; in ASCII 0 is 48 and A 65
abbrev pub hex_digit : ℕ → ℕ
hex_digit d = pick (ltb d 10) (48 + d) (55 + d)

abbrev pub hex_of : ℕ → List ℕ
hex_of n = hex_digit (n / 16) ∷ hex_digit (n % 16) ∷ []

-- "other numbers are decimal": the last digit behind those of a tenth. (No number has more digits than its value and 1.)
abbrev pub digits : ℕ → ℕ → List ℕ
digits zero n = []
digits (suc most) n = pick (ltb n 10) ((48 + n) ∷ []) (digits most (n / 10) ++ ((48 + n % 10) ∷ []))

abbrev pub decimal : ℕ → List ℕ
decimal n = digits (suc n) n

abbrev pub space : List ℕ
space = 32 ∷ []

abbrev pub newline : List ℕ
newline = 10 ∷ []

-- a line's last number, behind a word
abbrev pub numbered_text : List ℕ → ℕ → List ℕ
numbered_text w n = w ++ (decimal n ++ newline)

-- " read ", " refused ", "end "
abbrev pub read_word : List ℕ
read_word = 32 ∷ 114 ∷ 101 ∷ 97 ∷ 100 ∷ 32 ∷ []

abbrev pub refused_word : List ℕ
refused_word = 32 ∷ 114 ∷ 101 ∷ 102 ∷ 117 ∷ 115 ∷ 101 ∷ 100 ∷ 32 ∷ []

abbrev pub end_word : List ℕ
end_word = 101 ∷ 110 ∷ 100 ∷ 32 ∷ []

-- the digits of the largest number below 2^64 (`decimal-length` in proofs/Digits.antt)
abbrev pub most_digits : ℕ
most_digits = 20

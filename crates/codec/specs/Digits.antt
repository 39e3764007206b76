-- A number and its digits, most significant first, each digit with its own count of bits. Assumes nothing.
use Rattle.std.specs.Prelude.{ℕ, ◌+◌, ◌*◌, ◌/◌, ◌%◌, ◌^◌, List, [], ◌∷◌, length, replicate}

-- how many bits all the digits have
abbrev pub sum : List ℕ → ℕ
sum [] = 0
sum (b ∷ bs) = b + sum bs

-- the number that these digits make
abbrev pub join : List ℕ → List ℕ → ℕ
join [] vs = 0
join (b ∷ bs) [] = 0
join (b ∷ bs) (v ∷ vs) = v * 2 ^ sum bs + join bs vs

-- the digits of a number; bits above them are not looked at
abbrev pub split : List ℕ → ℕ → List ℕ
split [] n = []
split (b ∷ bs) n = n / 2 ^ sum bs % 2 ^ b ∷ split bs n

-- "Numbers of two or more bytes are big-endian": bytes are digits of 8 bits
abbrev pub number_of : List ℕ → ℕ
number_of s = join (replicate (length s) 8) s

abbrev pub bytes_of : ℕ → ℕ → List ℕ
bytes_of w n = split (replicate w 8) n

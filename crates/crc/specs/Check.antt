-- Document 01, "The payload and its check". Assumes nothing.
use Rattle.std.specs.Prelude.{List, [], ◌∷◌, ℕ, ◌+◌, ◌*◌, ◌-◌, ◌^◌, ◌<◌, length, take}
use Rattle.crc.specs.Polynomial.{x, plus, remainder}

-- "x^8+x^7+x^5+x^4+x^3+x"
abbrev pub command_polynomial : ℕ
command_polynomial = x ^ 8 + x ^ 7 + x ^ 5 + x ^ 4 + x ^ 3 + x

-- a message as one polynomial, "highest bit first": its first byte stands highest
abbrev pub message : List ℕ → ℕ
message [] = 0
message (b ∷ bs) = plus (b * x ^ (8 * length bs)) (message bs)

-- "the remainder of the message, times x^8, divided by" g; "start 0", "no final change"
unfoldable pub check_of : ℕ → List ℕ → ℕ
check_of g bs = remainder g (message bs * x ^ 8)

-- "all payload bytes but the last"
abbrev pub all_but_last : List ℕ → List ℕ
all_but_last p = take (length p - 1) p

-- the check of a payload in a frame of type t
unfoldable pub typed_check : ℕ → List ℕ → ℕ
typed_check t p = check_of command_polynomial (t ∷ all_but_last p)

-- "The message is byte 0x32, then all payload bytes but the last."
abbrev pub payload_check : List ℕ → ℕ
payload_check p = typed_check 0x32 p

-- From a start other than 0, as the check of what came before: s is added to the first byte of the message. Of no bytes, the check is s.
abbrev pub started_message : ℕ → List ℕ → ℕ
started_message s bs = plus (s * x ^ (8 * length bs)) (message bs * x ^ 8)

unfoldable pub check_from : ℕ → ℕ → List ℕ → ℕ
check_from g s bs = remainder g (started_message s bs)

-- What laws ask of a message: each of its numbers is a byte. A slice's always are.
abbrev pub Bytes : List ℕ → Type 0
Bytes [] = Unit
Bytes (b ∷ bs) = (b < 256) × Bytes bs

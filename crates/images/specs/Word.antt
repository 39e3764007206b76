-- The C boundary's answer word, and what writing a command answers. Assumes nothing.
use Rattle.std.specs.Prelude.{ℕ, ◌+◌, ◌*◌, ◌%◌, ◌≡◌, List, length}
use Rattle.codec.specs.Sheet.{Answer, got, refused, and_then}
use Rattle.codec.specs.Writing.{counted, leaves}
use Rattle.commands.specs.Writing.{payload_of, stop_writing}
use Rattle.commands.specs.declared.DirectCommands.{DirectCommands}

-- the number in bits 0-7 (0: accepted), the count in bits 8-15, the place in bits 16-31, as include/crsf.h has it
abbrev pub word : ℕ → ℕ → ℕ → ℕ
word number count place = number % 256 + count % 256 * 256 + place % 65536 * 65536

abbrev pub answer_word : Answer ℕ → ℕ
answer_word (got count) = word 0 count 0
answer_word (refused number place) = word number 0 place

-- A COMMAND WRITTEN, if there is one: the count, or the number that refuses it or stops writing
abbrev pub written_into : Answer DirectCommands → ℕ → Answer ℕ
written_into a room = and_then a (λ c. counted (stop_writing c room) (length (payload_of c)))

-- "the first n bytes are the payload, the rest keep theirs"; with each number "lent memory keeps its bytes"
abbrev pub buffer_left : Answer DirectCommands → List ℕ → List ℕ
buffer_left (got c) s = leaves (stop_writing c (length s)) (payload_of c) s
buffer_left (refused n p) s = s

-- r is the answer's word
abbrev pub WritesOut : Answer DirectCommands → ℕ → List ℕ → List ℕ → Type 0
WritesOut a r s s' = (r ≡ answer_word (written_into a (length s))) × (s' ≡ buffer_left a s)

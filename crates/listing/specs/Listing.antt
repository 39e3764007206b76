-- Document 01, "The listing": "a length byte, then that many payload bytes, repeated". Assumes nothing.
use Rattle.std.specs.Prelude.{ℕ, zero, suc, List, [], ◌∷◌, length, take, drop, ltb}
use Rattle.codec.specs.Pick.{pick}
use Rattle.codec.specs.Sheet.{Answer, got, refused}
use Rattle.families.specs.Payload.{family_id}
use Rattle.commands.specs.Reading.{read_command}
use Rattle.commands.specs.Writing.{payload_of}
use Rattle.commands.specs.declared.DirectCommands.{DirectCommands}
use Rattle.listing.specs.declared.line.Line.{Line}
use Rattle.listing.specs.declared.line.Line.TheVariants.{Read, Refused, Cut, End}

-- what is said of record k: "The last number in a read line is the written length."
abbrev pub line_of : ℕ → Answer DirectCommands → Line
line_of k (got c) = Read k (family_id c.payload) (length (payload_of c))
line_of k (refused n p) = Refused k n

-- the lines from record k on. "Input that stops right after a whole record closes with `end` and the record count", and with `cut`
-- inside one. (An input has no more records than bytes: `most` bounds them.)
abbrev pub lines_from : ℕ → ℕ → List ℕ → List Line
lines_from zero k s = []
lines_from (suc most) k [] = End k ∷ []
lines_from (suc most) k (n ∷ s) =
    pick (ltb (length s) n) (Cut k ∷ []) (line_of k (read_command (take n s)) ∷ lines_from most (suc k) (drop n s))

-- THE listing of an input
abbrev pub listing : List ℕ → List Line
listing s = lines_from (suc (length s)) 0 s

-- Document 01's example, of the definitions: its lines, and their text. Assumes nothing.
use Prim.Native.Nat.{ℕ}
use mathlib.Core.List.{List, [], ◌∷◌, map}
use mathlib.Core.Path.{◌≡◌, refl, ap, ◌∙◌}
use native.Mathlib.Omega.{arith}
use Rattle.codec.specs.Sheet.{Answer}
use Rattle.commands.specs.Reading.{read_command}
use Rattle.commands.specs.declared.DirectCommands.{DirectCommands}
use Rattle.commands.proofs.Known.{read_short}
use Rattle.commands.proofs.Laid.{payload-length}
use Rattle.commands.proofs.Examples.{disarm, frequency, m1, m3, m1_read, m3_read}
use Rattle.listing.specs.Listing.{line_of, listing}
use Rattle.listing.specs.Text.{text_of}
use Rattle.listing.specs.Chunks.{joined}
use Rattle.listing.specs.declared.line.Line.{Line}
use Rattle.listing.specs.declared.line.Line.TheVariants.{Read, Refused, Cut, End}

abbrev pub example : List ℕ
example =
    0x05 ∷ 0xC8 ∷ 0xEA ∷ 0x01 ∷ 0x01 ∷ 0xFE
    ∷ 0x07 ∷ 0xC8 ∷ 0xEA ∷ 0x08 ∷ 0x02 ∷ 0x16 ∷ 0xA8 ∷ 0x0E
    ∷ 0x00
    ∷ 0x04
    ∷ []

abbrev pub example_lines : List Line
example_lines = Read 0 0x01 5 ∷ Read 1 0x08 7 ∷ Refused 2 1 ∷ Cut 3 ∷ []

-- its records: M1, M3, none
m1-line : line_of 0 (read_command m1) ≡ Read 0 0x01 5
m1-line = ap (λ (a : Answer DirectCommands). line_of 0 a) m1_read ∙ ap (λ (n : ℕ). Read 0 0x01 n) (payload-length disarm)

m3-line : line_of 1 (read_command m3) ≡ Read 1 0x08 7
m3-line = ap (λ (a : Answer DirectCommands). line_of 1 a) m3_read ∙ ap (λ (n : ℕ). Read 1 0x08 n) (payload-length (frequency 5800))

none_line : line_of 2 (read_command []) ≡ Refused 2 1
none_line = ap (λ (a : Answer DirectCommands). line_of 2 a) (read_short [] (omega arith))

lines-by : (a b c : Line) → line_of 0 (read_command m1) ≡ a → line_of 1 (read_command m3) ≡ b
    → line_of 2 (read_command []) ≡ c → listing example ≡ a ∷ b ∷ c ∷ Cut 3 ∷ []
lines-by a b c e f g = rw (← e, ← f, ← g)

pub example-lines : listing example ≡ example_lines
example-lines = lines-by (Read 0 0x01 5) (Read 1 0x08 7) (Refused 2 1) m1-line m3-line none_line

-- "0 read 01 5", "1 read 08 7", "2 refused 1", "cut 3"
pub example-text : joined (map text_of example_lines)
    ≡ 48 ∷ 32 ∷ 114 ∷ 101 ∷ 97 ∷ 100 ∷ 32 ∷ 48 ∷ 49 ∷ 32 ∷ 53 ∷ 10
    ∷ 49 ∷ 32 ∷ 114 ∷ 101 ∷ 97 ∷ 100 ∷ 32 ∷ 48 ∷ 56 ∷ 32 ∷ 55 ∷ 10
    ∷ 50 ∷ 32 ∷ 114 ∷ 101 ∷ 102 ∷ 117 ∷ 115 ∷ 101 ∷ 100 ∷ 32 ∷ 49 ∷ 10
    ∷ 99 ∷ 117 ∷ 116 ∷ 32 ∷ 51 ∷ 10
    ∷ []
example-text = refl

-- "empty input gives `end 0`"
pub empty_ends : listing [] ≡ End 0 ∷ []
empty_ends = refl

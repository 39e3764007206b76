-- What the answers of the code say in document 01's terms: number and values for each case. Assumes nothing.
use Rattle.std.specs.Prelude.{Result, Ok, Err}
use Rattle.codec.specs.declared.refusal.Refusal.{Refusal}
use Rattle.std.specs.Prelude.{ℕ, zero, suc, ◌+◌, ◌≤◌, ◌<◌, Bool, ◌≡◌, List, [], ◌∷◌, length, take, drop}
use Rattle.codec.specs.Pick.{pick}
use Rattle.codec.specs.Sheet.{Row, Said, Answer}
use Rattle.codec.specs.Writing.{write_body, stop_in_order, stop_room, stop_values_first, leaves}
use Rattle.codec.specs.Refusals.{refusal_number, told, SetOut, numbered}
use Rattle.codec.specs.declared.reader.Width.{Width}
use Rattle.codec.specs.declared.reader.Width.TheVariants.{One, Two, Three, Four}
use Rattle.codec.specs.declared.reader.TextRead.{TextRead}

abbrev pub width_of : Width → ℕ
width_of One = 1
width_of Two = 2
width_of Three = 3
width_of Four = 4

abbrev pub told_number : Result ℕ Refusal → Answer (List ℕ)
told_number r = told (λ n. n ∷ []) r

-- a number that was read is at most so many
abbrev pub at_most : ℕ → Result ℕ Refusal → Type 0
at_most high (Ok n) = n ≤ high
at_most high (Err r) = Unit {0}

-- a flag's number
abbrev pub bit : Bool → ℕ
bit b = pick b 1 0

abbrev pub told_flag : Result Bool Refusal → Answer (List ℕ)
told_flag r = told (λ b. bit b ∷ []) r

-- a text at a place of s: its bytes
abbrev pub told_text : List ℕ → ℕ → Result TextRead Refusal → Answer (List ℕ)
told_text s at r = told (λ t. take t.len (drop at s)) r

-- they are there, and next is the place after their 00
abbrev pub text_in : List ℕ → ℕ → Result TextRead Refusal → Type 0
text_in s at (Ok t) = (at + t.len < length s) × (t.next ≡ at + (t.len + 1))
text_in s at (Err r) = Unit {0}

abbrev pub told_written : Result ℕ Refusal → Answer ℕ
told_written r = told (λ n. n) r

-- its number and its count: "With each number come .. a count of 0"
abbrev pub written_out : Result ℕ Refusal → SetOut ℕ
written_out (Ok n) = numbered 0 n
written_out (Err r) = numbered (refusal_number r) 0

abbrev pub count_out : ℕ → ℕ → SetOut ℕ
count_out zero n = numbered 0 n
count_out (suc stop) n = numbered (suc stop) 0

-- WRITING these bytes, unless that number stops it, answers r and leaves s' of s
abbrev pub Writes : ℕ → List ℕ → Result ℕ Refusal → List ℕ → List ℕ → Type 0
Writes stop w r s s' = (written_out r ≡ count_out stop (length w)) × (s' ≡ leaves stop w s)

-- the body of a sheet, item by item: "LED takes its items in order", "The others look at room only"
abbrev pub WritesInOrder : List Row → Said → Result ℕ Refusal → List ℕ → List ℕ → Type 0
WritesInOrder rows what r s s' = Writes (stop_in_order rows (length s) what) (write_body rows what) r s s'

-- "VTX and ACK look at values first (2), then at room (3)."
abbrev pub WritesValuesFirst : List Row → Said → Result ℕ Refusal → List ℕ → List ℕ → Type 0
WritesValuesFirst rows what r s s' = Writes (stop_values_first rows (length s) what) (write_body rows what) r s s'

-- bytes as they are, which look at room only
abbrev pub WritesAll : List ℕ → Result ℕ Refusal → List ℕ → List ℕ → Type 0
WritesAll w r s s' = Writes (stop_room (length s) (length w)) w r s s'

-- The text of an event's line, and of the line that closes a replay, in ASCII. Assumes nothing.
use Rattle.std.specs.Prelude.{ℕ, List, [], ◌∷◌, ◌++◌, length}
use Rattle.families.specs.Payload.{family_id}
use Rattle.commands.specs.Writing.{payload_of}
use Rattle.commands.specs.declared.DirectCommands.{DirectCommands}
use Rattle.text.specs.Pieces.{hex_of, decimal, space, numbered_text, read_word, refused_word, end_word}
use Rattle.replay.specs.declared.Event.{Event}
use Rattle.replay.specs.declared.Kind.{Kind}
use Rattle.replay.specs.declared.Kind.TheVariants.{Nothing, Command, Refused, Damaged, Gap, Back}

-- "damaged ", "gap ", "back "
abbrev pub damaged_word : List ℕ
damaged_word = 100 ∷ 97 ∷ 109 ∷ 97 ∷ 103 ∷ 101 ∷ 100 ∷ 32 ∷ []

abbrev pub gap_word : List ℕ
gap_word = 103 ∷ 97 ∷ 112 ∷ 32 ∷ []

abbrev pub back_word : List ℕ
back_word = 98 ∷ 97 ∷ 99 ∷ 107 ∷ 32 ∷ []

-- "damaged POSITION N": "A refused block is damaged: it is named", by the position its caller gives, with its number
abbrev pub damaged_text : ℕ → ℕ → List ℕ
damaged_text position n = damaged_word ++ (decimal position ++ numbered_text space n)

-- "BLOCK PLACE": the block's number, and the place of the record's length byte
abbrev pub placed_text : ℕ → ℕ → List ℕ → List ℕ
placed_text b at w = decimal b ++ (space ++ (decimal at ++ w))

-- "BLOCK PLACE read ID LENGTH": as in the listing, "The family id is two upper-case hexadecimal digits", and the last number "is the written
-- length"
abbrev pub read_text : ℕ → ℕ → ℕ → ℕ → List ℕ
read_text b at id n = placed_text b at (read_word ++ (hex_of id ++ numbered_text space n))

abbrev pub command_text : ℕ → ℕ → DirectCommands → List ℕ
command_text b at c = read_text b at (family_id c.payload) (length (payload_of c))

-- "BLOCK PLACE refused N P": "reported with its number and place", and the payload's own place
abbrev pub refused_text : ℕ → ℕ → ℕ → ℕ → List ℕ
refused_text b at n p = placed_text b at (refused_word ++ (decimal n ++ numbered_text space p))

-- "gap BLOCK" or "back BLOCK": "reported, as a gap if higher, else as a step back". A sound block in order that has no records has no line
abbrev pub text_as : Kind → Event → List ℕ
text_as Nothing e = []
text_as Command e = command_text e.block e.place e.command
text_as Refused e = refused_text e.block e.place e.number e.payload_place
text_as Damaged e = damaged_text e.block e.number
text_as Gap e = numbered_text gap_word e.block
text_as Back e = numbered_text back_word e.block

-- THE text of an event
abbrev pub text_of : Event → List ℕ
text_of e = text_as e.kind e

-- of events one after the other
abbrev pub text_of_all : List Event → List ℕ
text_of_all [] = []
text_of_all (e ∷ es) = text_of e ++ text_of_all es

-- "end B": so many blocks were handed in
abbrev pub end_text : ℕ → List ℕ
end_text blocks = numbered_text end_word blocks

-- no text is longer, of numbers that the types hold (proofs/TextLaws.antt)
abbrev pub longest_text : ℕ
longest_text = 64

-- What a command is, but for its addresses and the bytes stored beside it. Assumes nothing.
use Rattle.std.specs.Prelude.{Result, ℕ, List, length, ltb, eqb}
use Rattle.crc.specs.Check.{payload_check}
use Rattle.codec.specs.Pick.{pick}
use Rattle.codec.specs.Sheet.{Answer, got, and_then}
use Rattle.codec.specs.Refusals.{told}
use Rattle.families.specs.declared.payload.CommandPayload.{CommandPayload}
use Rattle.commands.specs.Command.{WithStored, with_stored}
use Rattle.commands.specs.Reading.{check_in, read_command}
use Rattle.commands.specs.declared.DirectCommands.{DirectCommands}
use Rattle.commands.specs.declared.kind.KindRead.{KindRead}
use Rattle.codec.specs.declared.refusal.Refusal.{Refusal}

-- a payload of a family, and how many bytes are stored beside it
pub data Kind : Type 0 where
  kind : CommandPayload → ℕ → Kind

abbrev pub kind_of : DirectCommands → Kind
kind_of c = kind c.payload c.len

-- of the command that is read
abbrev pub read_kind : List ℕ → Answer Kind
read_kind p = and_then (read_command p) (λ c. got (kind_of c))

-- what an answer tells
abbrev pub told_kind : Result KindRead Refusal → Answer Kind
told_kind r = told (λ k. kind k.payload k.len) r

-- ---- for the contracts of private functions
abbrev pub kind_with_stored : WithStored → Kind
kind_with_stored (with_stored payload t) = kind payload (length t)

abbrev pub kind_kept : WithStored → KindRead
kind_kept (with_stored p t) = record { payload = p; len = length t }

-- what stops reading before the body: "Length below 4 or above 60: 1. Check differs: 2."
abbrev pub stop_reading : List ℕ → ℕ
stop_reading p = pick (ltb (length p) 4) 1 (pick (ltb 60 (length p)) 1 (pick (eqb (check_in p) (payload_check p)) 0 2))

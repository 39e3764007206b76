-- Document 02, Wish 1: what is handed on. An event that has no command has the blank one, and numbers and places that it does not have
-- are 0. Assumes nothing.
use Rattle.std.specs.Prelude.{ℕ}
use Rattle.codec.specs.Sheet.{Answer, got, refused}
use Rattle.commands.specs.Command.{blank_command}
use Rattle.commands.specs.declared.DirectCommands.{DirectCommands}
use Rattle.replay.specs.declared.Kind.{Kind}
use Rattle.replay.specs.declared.Kind.TheVariants.{Nothing, Command, Refused, Damaged, Gap, Back}
use Rattle.replay.specs.declared.Event.{Event}

-- "hand on each command in order with block and place"; "A record in a sound block whose payload doesn't read is reported with its number
-- and place", and the payload's own place beside it
abbrev pub record_event : ℕ → ℕ → Answer DirectCommands → Event
record_event b at (got c) = record { kind = Command; block = b; place = at; number = 0; payload_place = 0; command = c }
record_event b at (refused n p) = record { kind = Refused; block = b; place = at; number = n; payload_place = p; command = blank_command }

-- what is said of a block as a whole
abbrev pub block_event : Kind → ℕ → ℕ → Event
block_event k b n = record { kind = k; block = b; place = 0; number = n; payload_place = 0; command = blank_command }

-- "A refused block is damaged: it is named": "a damaged one by the position its caller gives", with its number
abbrev pub damaged_event : ℕ → ℕ → Event
damaged_event position n = block_event Damaged position n

-- "as a gap if higher, else as a step back"
abbrev pub gap_event : ℕ → Event
gap_event b = block_event Gap b 0

abbrev pub back_event : ℕ → Event
back_event b = block_event Back b 0

-- a sound block in order that has no records
abbrev pub nothing_event : ℕ → Event
nothing_event b = block_event Nothing b 0

-- Document 01: a command, the blank one, and what made means. Assumes nothing.
use Rattle.std.specs.Prelude.{ℕ, Bool, List, [], length, take}
use Rattle.families.specs.Text.{padded, made_bytes}
use Rattle.families.specs.Ack.{made_information}
use Rattle.families.specs.Fields.{made_popup}
use Rattle.families.specs.declared.fc.FcCommand.TheVariants.{ForceDisarm}
use Rattle.families.specs.declared.screen.ScreenCommand.{ScreenCommand}
use Rattle.families.specs.declared.screen.ScreenCommand.TheVariants.{PopupMessageStart, SelectionReturnValue}
use Rattle.families.specs.declared.payload.CommandPayload.{CommandPayload}
use Rattle.families.specs.declared.payload.CommandPayload.TheVariants.{Fc, Osd, Vtx, Led, General, Crossfire, FlowControl, Screen, Ack}
use Rattle.commands.specs.declared.DirectCommands.{DirectCommands}

-- a payload of a family, and the bytes stored beside it
pub data WithStored : Type 0 where
  with_stored : CommandPayload → List ℕ → WithStored

-- the command of these addresses
abbrev pub command_of : ℕ → ℕ → WithStored → DirectCommands
command_of dst src (with_stored p t) = record { dst_addr = dst; src_addr = src; payload = p; len = length t; bytes = padded 55 t }

-- "The blank command is disarm with both addresses 0 and no stored bytes"
abbrev pub blank_command : DirectCommands
blank_command = command_of 0 0 (with_stored (Fc ForceDisarm) [])

-- the bytes stored in a command
abbrev pub stored_in : DirectCommands → List ℕ
stored_in c = take c.len c.bytes

-- MADE: "a command that stores no bytes has stored length 0 and zeros throughout"
abbrev pub made_none : ℕ → List ℕ → Bool
made_none n b = made_bytes 0 n b

abbrev pub made_screen : ScreenCommand → ℕ → List ℕ → Bool
made_screen PopupMessageStart n b = made_popup (record { len = n; bytes = b })
made_screen (SelectionReturnValue value response) n b = made_none n b

-- "popup bytes exactly what the popup constructor gives for some fields" (made_popup decides it: families/proofs/Made.antt); "An ACK's
-- action is outside this"
abbrev pub made_beside : CommandPayload → ℕ → List ℕ → Bool
made_beside (Fc c) n b = made_none n b
made_beside (Osd c) n b = made_none n b
made_beside (Vtx c) n b = made_none n b
made_beside (Led c) n b = made_none n b
made_beside (General c) n b = made_none n b
made_beside (Crossfire c) n b = made_none n b
made_beside (FlowControl c) n b = made_none n b
made_beside (Screen c) n b = made_screen c n b
made_beside (Ack a) n b = made_information n b

abbrev pub made : DirectCommands → Bool
made c = made_beside c.payload c.len c.bytes

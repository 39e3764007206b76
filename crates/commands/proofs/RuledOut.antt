-- Wrong answers that the contracts of the public functions rule out: the definition that the contract names, worked out for an input
-- where the wrong answer would be another. That no other answer is allowed there is in OneAnswer.antt. Of `from_bytes` and `to_bytes`
-- see must-fail, Examples.antt and Excluded.antt. Assumes nothing.
use mathlib.Core.Path.{◌≡◌, refl, ap}
use lib.ListN.{length}
use Rattle.codec.specs.Sheet.{Answer, got, and_then}
use Rattle.families.specs.declared.fc.FcCommand.TheVariants.{ForceDisarm}
use Rattle.families.specs.declared.vtx.VtxCommand.TheVariants.{SetFrequency}
use Rattle.families.specs.declared.payload.CommandPayload.TheVariants.{Fc, Vtx}
use Rattle.commands.specs.Command.{blank_command}
use Rattle.commands.specs.Kind.{kind, kind_of, read_kind}
use Rattle.commands.specs.Writing.{payload_of}
use Rattle.commands.specs.declared.DirectCommands.{DirectCommands}
use Rattle.commands.proofs.Examples.{m3, m3_read}
use Rattle.commands.proofs.Laid.{payload-length}

-- ---- DirectCommands::blank
-- disarm, and no other command of no values
pub blank_disarms : blank_command.payload ≡ Fc ForceDisarm
blank_disarms = refl

-- from 0 to 0, and not to some device
pub blank-addressed : (blank_command.dst_addr ≡ 0) × (blank_command.src_addr ≡ 0)
blank-addressed = (refl, refl)

-- ---- kind::read (and must-fail/information_uncounted)
-- a frequency is not told as a power: M3
pub kind-m3 : read_kind m3 ≡ got (kind (Vtx (SetFrequency 5800)) 0)
kind-m3 = ap (λ (a : Answer DirectCommands). and_then a (λ c. got (kind_of c))) m3_read

-- ---- DirectCommands::written_len (and must-fail/body_alone_counted)
-- the 55 places for stored bytes are not counted: disarm is five bytes
pub blank-len : length (payload_of blank_command) ≡ 5
blank-len = payload-length blank_command

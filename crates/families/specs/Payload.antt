-- Document 01, "Family sheets": the id of each family. Assumes nothing.
use Rattle.std.specs.Prelude.{ℕ}
use Rattle.families.specs.declared.payload.CommandPayload.{CommandPayload}
use Rattle.families.specs.declared.payload.CommandPayload.TheVariants.{Fc, Osd, Vtx, Led, General, Crossfire, FlowControl, Screen, Ack}

abbrev pub family_id : CommandPayload → ℕ
family_id (Fc c) = 0x01
family_id (Osd c) = 0x05
family_id (Vtx c) = 0x08
family_id (Led c) = 0x09
family_id (General c) = 0x0A
family_id (Crossfire c) = 0x10
family_id (FlowControl c) = 0x20
family_id (Screen c) = 0x22
family_id (Ack c) = 0xFF

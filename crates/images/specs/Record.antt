-- The C boundary's image of a whole command record (include/crsf.h). Assumes nothing.
use Rattle.std.specs.Prelude.{ℕ, List, ◌∷◌, ◌++◌, length, drop, get_or, eqb}
use Rattle.codec.specs.Pick.{pick}
use Rattle.codec.specs.Same.{same}
use Rattle.codec.specs.Sheet.{Answer, got, refused}
use Rattle.families.specs.Payload.{family_id}
use Rattle.commands.specs.declared.DirectCommands.{DirectCommands}
use Rattle.images.specs.Text.{stored}
use Rattle.images.specs.Values.{payload_laid, payload_at}

-- 70 bytes: destination, source, command id, sub-command; 10 bytes of values; stored length; 55 stored bytes
abbrev pub record_image : DirectCommands → List ℕ
record_image c = c.dst_addr ∷ c.src_addr ∷ family_id c.payload ∷ (payload_laid c.payload ++ stored c.len c.bytes)

-- AN IMAGE HANDED IN: each part at its place
abbrev pub record_at : List ℕ → DirectCommands
record_at s = record { dst_addr = get_or s 0 0; src_addr = get_or s 1 0; payload = payload_at s; len = get_or s 14 0; bytes = drop 15 s }

-- another length is 5, and so is the image of no record (an unknown id or sub-command, a flag out of range, a byte other than 0 after the
-- values): its parts have another image
abbrev pub record_from : List ℕ → Answer DirectCommands
record_from s = pick (eqb (length s) 70) (pick (same (record_image (record_at s)) s) (got (record_at s)) (refused 5 0)) (refused 5 0)

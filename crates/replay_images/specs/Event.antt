-- The C boundary's image of an event (include/crsf.h). Assumes nothing.
use Rattle.std.specs.Prelude.{ℕ, Bool, List, [], ◌∷◌, ◌++◌}
use Rattle.codec.specs.Digits.{bytes_of}
use Rattle.codec.specs.Told.{bit}
use Rattle.images.specs.Record.{record_image}
use Rattle.replay.specs.declared.Kind.{Kind}
use Rattle.replay.specs.declared.Kind.TheVariants.{Nothing, Command, Refused, Damaged, Gap, Back}
use Rattle.replay.specs.declared.Event.{Event}

-- 0 nothing, 1 command, 2 refused record, 3 damaged block, 4 gap, 5 step back
abbrev pub kind_number : Kind → ℕ
kind_number Nothing = 0
kind_number Command = 1
kind_number Refused = 2
kind_number Damaged = 3
kind_number Gap = 4
kind_number Back = 5

-- kind (1); more (1, 0 or 1); block number, of a damaged block the caller's position (4); place of the record's length byte (2); number (1);
-- place in the payload (1)
abbrev pub head_image : Bool → Event → List ℕ
head_image more e =
    kind_number e.kind ∷ bit more ∷ (bytes_of 4 e.block ++ (bytes_of 2 e.place ++ (e.number ∷ e.payload_place ∷ [])))

-- 80 bytes: that, and the record image (70)
abbrev pub event_image : Bool → Event → List ℕ
event_image more e = head_image more e ++ record_image e.command

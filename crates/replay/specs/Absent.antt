-- Document 02, Wish 1: "A refused block is damaged: it is named and skipped whole, and the others come out as if it were absent." Assumes
-- nothing.
use Rattle.std.specs.Prelude.{ℕ, Bool, true, false, List, [], ◌∷◌, ◌++◌}
use Rattle.codec.specs.Pick.{pick}
use Rattle.codec.specs.Sheet.{Answer, got, refused}
use Rattle.blocks.specs.Block.{Record, records_of}
use Rattle.replay.specs.Events.{damaged_event}
use Rattle.replay.specs.Log.{Handed, handed}
use Rattle.replay.specs.declared.Event.{Event}
use Rattle.replay.specs.declared.Kind.{Kind}
use Rattle.replay.specs.declared.Kind.TheVariants.{Nothing, Command, Refused, Damaged, Gap, Back}

-- "as if it were absent": the sound blocks alone
abbrev pub with_sound : Answer (List Record) → Handed → List Handed → List Handed
with_sound (got rs) h hs = h ∷ hs
with_sound (refused k p) h hs = hs

abbrev pub sound_only : List Handed → List Handed
sound_only [] = []
sound_only (handed position b ∷ hs) = with_sound (records_of b) (handed position b) (sound_only hs)

-- "named": the events of the refused blocks
abbrev pub damage_of : ℕ → Answer (List Record) → List Event
damage_of position (got rs) = []
damage_of position (refused k p) = damaged_event position k ∷ []

abbrev pub damage_in : List Handed → List Event
damage_in [] = []
damage_in (handed position b ∷ hs) = damage_of position (records_of b) ++ damage_in hs

-- events told apart by their kind
abbrev pub is_damaged : Kind → Bool
is_damaged Nothing = false
is_damaged Command = false
is_damaged Refused = false
is_damaged Damaged = true
is_damaged Gap = false
is_damaged Back = false

abbrev pub undamaged : List Event → List Event
undamaged [] = []
undamaged (e ∷ es) = pick (is_damaged e.kind) (undamaged es) (e ∷ undamaged es)

abbrev pub damaged_among : List Event → List Event
damaged_among [] = []
damaged_among (e ∷ es) = pick (is_damaged e.kind) (e ∷ damaged_among es) (damaged_among es)

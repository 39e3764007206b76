-- Document 02, Wish 1: of damaged blocks nothing is told but that they are, one event each, and the others come out as if they were absent.
-- Assumes nothing.
use Prim.Native.Nat.{ℕ, ◌+◌}
use mathlib.Core.Bool.{Bool, true, false}
use mathlib.Core.List.{List, [], ◌∷◌, ◌++◌}
use mathlib.Core.Path.{◌≡◌, refl, ap, ap₂, sym, ◌∙◌}
use lib.Dec.{ltb, eqb}
use Rattle.codec.specs.Pick.{pick}
use Rattle.codec.specs.Sheet.{Answer, got, refused}
use Rattle.commands.specs.Reading.{read_command}
use Rattle.commands.specs.declared.DirectCommands.{DirectCommands}
use Rattle.blocks.specs.Block.{block_number, Record, records_of}
use Rattle.replay.specs.Events.{record_event, damaged_event, gap_event, back_event}
use Rattle.replay.specs.Log.{Handed, handed, Before, none, after, ordered, record_events, block_events, before_next, events_of}
use Rattle.replay.specs.Step.{before_of, in_limits}
use Rattle.replay.specs.Through.{replayed, through_all, between, last_of}
use Rattle.replay.specs.Absent.{with_sound, sound_only, damage_of, damage_in, is_damaged, undamaged, damaged_among}
use Rattle.replay.specs.declared.Event.{Event}
use Rattle.replay.specs.declared.Replay.{Replay}
use Rattle.replay.proofs.AnyBlocks.{any_blocks}

-- ---- no event of a sound block is of that kind
abbrev NoDamage : List Event → Type 0
NoDamage [] = Unit {0}
NoDamage (e ∷ es) = (is_damaged e.kind ≡ false) × NoDamage es

none_both : (es fs : List Event) → NoDamage es → NoDamage fs → NoDamage (es ++ fs)
none_both [] fs h g = g
none_both (e ∷ es) fs h g = (h.0, none_both es fs h.1 g)

none_ordered : (l : Before) (n : ℕ) → NoDamage (ordered l n)
none_ordered none n = tt
none_ordered (after m) n = by (eqb n (m + 1)) (ltb m n)
  where
    by : (s t : Bool) → NoDamage (pick s [] (pick t (gap_event n ∷ []) (back_event n ∷ [])))
    by true t = tt
    by false true = (refl, tt)
    by false false = (refl, tt)

none_record : (n at : ℕ) (a : Answer DirectCommands) → is_damaged (record_event n at a).kind ≡ false
none_record n at (got c) = refl
none_record n at (refused k p) = refl

none_records : (n : ℕ) (rs : List Record) → NoDamage (record_events n rs)
none_records n [] = tt
none_records n (r ∷ rs) = (none_record n r.place (read_command r.payload), none_records n rs)

none_sound : (l : Before) (n : ℕ) (rs : List Record) → NoDamage (ordered l n ++ record_events n rs)
none_sound l n rs = none_both (ordered l n) (record_events n rs) (none_ordered l n) (none_records n rs)

-- ---- so they all stay, and none is among the damaged
stay : (es fs : List Event) → NoDamage es → undamaged (es ++ fs) ≡ es ++ undamaged fs
stay [] fs h = refl
stay (e ∷ es) fs h =
    ap (λ (t : Bool). pick t (undamaged (es ++ fs)) (e ∷ undamaged (es ++ fs))) h.0 ∙ ap (λ (gs : List Event). e ∷ gs) (stay es fs h.1)

go : (es fs : List Event) → NoDamage es → damaged_among (es ++ fs) ≡ damaged_among fs
go [] fs h = refl
go (e ∷ es) fs h =
    ap (λ (t : Bool). pick t (e ∷ damaged_among (es ++ fs)) (damaged_among (es ++ fs))) h.0 ∙ go es fs h.1

-- ---- "and the others come out as if it were absent"
abbrev behind : Before → ℕ → List ℕ → Answer (List Record) → List Handed → List Event
behind l position b a hs = block_events l position (block_number b) a ++ events_of (before_next l (block_number b) a) hs

pub absent : (hs : List Handed) (l : Before) → events_of l (sound_only hs) ≡ undamaged (events_of l hs)
absent [] l = refl
absent (handed position b ∷ hs) l = by (records_of b) refl (absent hs)
  where
    by : (a : Answer (List Record)) → records_of b ≡ a → ((m : Before) → events_of m (sound_only hs) ≡ undamaged (events_of m hs))
        → events_of l (with_sound a (handed position b) (sound_only hs)) ≡ undamaged (behind l position b a hs)
    by (refused k p) e others = others l
    by (got rs) e others =
        let n = block_number b in
        ap (λ (a : Answer (List Record)). behind l position b a (sound_only hs)) e
        ∙ ap (λ (es : List Event). (ordered l n ++ record_events n rs) ++ es) (others (after n))
        ∙ sym (stay (ordered l n ++ record_events n rs) (events_of (after n) hs) (none_sound l n rs))

-- the sound block that they leave before the next one is the same
pub absent_last : (hs : List Handed) (l : Before) → last_of l (sound_only hs) ≡ last_of l hs
absent_last [] l = refl
absent_last (handed position b ∷ hs) l = by (records_of b) refl (absent_last hs)
  where
    by : (a : Answer (List Record)) → records_of b ≡ a → ((m : Before) → last_of m (sound_only hs) ≡ last_of m hs)
        → last_of l (with_sound a (handed position b) (sound_only hs)) ≡ last_of (before_next l (block_number b) a) hs
    by (refused k p) e others = others l
    by (got rs) e others =
        ap (λ (a : Answer (List Record)). last_of (before_next l (block_number b) a) (sound_only hs)) e ∙ others (after (block_number b))

-- ---- "it is named": one event for each refused block, in order, with its position and number
pub named : (hs : List Handed) (l : Before) → damaged_among (events_of l hs) ≡ damage_in hs
named [] l = refl
named (handed position b ∷ hs) l = by (records_of b) (named hs)
  where
    by : (a : Answer (List Record)) → ((m : Before) → damaged_among (events_of m hs) ≡ damage_in hs)
        → damaged_among (behind l position b a hs) ≡ damage_of position a ++ damage_in hs
    by (refused k p) others = ap (λ (es : List Event). damaged_event position k ∷ es) (others l)
    by (got rs) others =
        let n = block_number b in
        go (ordered l n ++ record_events n rs) (events_of (after n) hs) (none_sound l n rs) ∙ others (after n)

-- ---- THE law, of blocks stepped through
pub through-sound : (s : Replay) → in_limits s ≡ true → s.place ≡ 0 → (hs : List Handed)
    → through_all s (sound_only hs) ≡ got (replayed (undamaged (events_of (before_of s) hs)) (between (last_of (before_of s) hs)))
through-sound s h p hs =
    any_blocks s h p (sound_only hs)
    ∙ ap₂ (λ (es : List Event) (l : Before). got (replayed es (between l))) (absent hs (before_of s)) (absent_last hs (before_of s))

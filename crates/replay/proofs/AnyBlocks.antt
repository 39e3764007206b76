-- THE theorem of any blocks: stepped through, blocks of any bytes tell exactly their events (specs/Log.antt), in order; no step refuses; and
-- the state is then between blocks, after the last sound one. Assumes nothing.
use Prim.Native.Nat.{ℕ, zero, suc, ◌+◌, ◌≤◌}
use mathlib.Core.Bool.{Bool, true, false}
use mathlib.Core.List.{List, [], ◌∷◌, ◌++◌}
use mathlib.Core.Path.{◌≡◌, refl, ap, ap₂, sym, ◌∙◌}
use native.Mathlib.Omega.{arith}
use borrow.Author.Tests.{le-leb, ne_eqb, eqb-true}
use lib.ListN.{length}
use lib.Dec.{ltb, leb, eqb}
use Rattle.codec.specs.Pick.{pick}
use Rattle.codec.specs.Sheet.{Answer, got, refused, and_then}
use Rattle.commands.specs.Reading.{read_command}
use Rattle.commands.specs.declared.DirectCommands.{DirectCommands}
use Rattle.blocks.specs.Block.{block_size, first_place, check_place, block_number, Record, records_of}
use Rattle.blocks.specs.Walk.{first_of, Standing, record_at}
use Rattle.blocks.proofs.Walks.{Walks, sound_walks}
use Rattle.replay.specs.Events.{record_event, damaged_event, gap_event, back_event}
use Rattle.replay.specs.Log.{Handed, handed, Before, none, after, ordered, record_events, block_events, before_next, events_of, log_events}
use Rattle.replay.specs.Step.{new_replay, sound, before_of, in_limits, Stepped, step, entering, opens, goes_on, step_of}
use Rattle.replay.specs.Through.{told, Replayed, replayed, before, going_on, steps, through, events_in, state_in, through_all, between, last_of}
use Rattle.replay.specs.declared.Event.{Event}
use Rattle.replay.specs.declared.Replay.{Replay}
use Rattle.replay.proofs.Few.{few}

picked : {A : Type 0} (b : Bool) (x y : A) → b ≡ true → pick b x y ≡ x
picked true x y e = refl
picked false x y e = let z : ◌≡◌ {A = ℕ} 0 1 = cc in absurd (omega arith)

pub passed : {A : Type 0} (b : Bool) (x y : A) → b ≡ false → pick b x y ≡ y
passed false x y e = refl
passed true x y e = let z : ◌≡◌ {A = ℕ} 0 1 = cc in absurd (omega arith)

-- ---- a record is told, read or refused
pub told_record : (n at : ℕ) (a : Answer DirectCommands) → told (record_event n at a) ≡ record_event n at a ∷ []
told_record n at (got c) = refl
told_record n at (refused k p) = refl

-- ---- a state at a record's place
limits_inside : (n at : ℕ) → 6 ≤ at → at ≤ 511 → in_limits (sound n at) ≡ true
limits_inside n at l h =
    passed (eqb at 0) _ _ (ne_eqb at 0 (λ e. omega arith))
    ∙ picked (leb first_place at) _ _ (le-leb first_place at l)
    ∙ le-leb at check_place h

pub step-inside : (n at position : ℕ) (b : List ℕ) → 6 ≤ at → at ≤ 511 → step_of (sound n at) position b ≡ goes_on (sound n at) b (record_at b at)
step-inside n at position b l h =
    picked (in_limits (sound n at)) _ _ (limits_inside n at l h)
    ∙ passed (eqb at 0) _ _ (ne_eqb at 0 (λ e. omega arith))

-- ---- the records of a block from one on, if there are so many steps
rest : (rs : List Record) (most position : ℕ) (b : List ℕ) → Walks b rs → length rs ≤ most
    → going_on (sound (block_number b) (first_of rs)) (steps most (sound (block_number b) (first_of rs)) position b)
    ≡ got (replayed (record_events (block_number b) rs) (sound (block_number b) 0))
rest [] most position b w l = refl
rest (r ∷ rs) zero position b w l = absurd (omega arith)
rest (r ∷ rs) (suc most) position b (e, (stands, (holds, (low, (high, w))))) l =
    let n = block_number b in
    let at = r.place in
    let event = record_event n at (read_command r.payload) in
    let x : step_of (sound n at) position b ≡ step (sound n (first_of rs)) event =
    step-inside n at position b low high
    ∙ ap (λ (a : Answer Standing). goes_on (sound n at) b a) stands
    ∙ ap (λ (p : List ℕ). step (sound n (first_of rs)) (record_event n at (read_command p))) holds in
    passed (eqb at 0) _ _ (ne_eqb at 0 (λ z. omega arith))
    ∙ ap (λ (t : Stepped). before t.says (going_on t.state (steps most t.state position b))) x
    ∙ ap (λ (a : Answer Replayed). before (got event) a) (rest rs most position b w (omega arith))
    ∙ ap (λ (es : List Event). got (replayed (es ++ record_events n rs) (sound n 0))) (told_record n at (read_command r.payload))

-- ---- what is said of a sound block before its records
pub data Reported (es : List Event) : Type 0 where
  nothing : es ≡ [] → Reported es
  report : (e : Event) → es ≡ e ∷ [] → told e ≡ e ∷ [] → Reported es

pub reported : (l : Before) (n : ℕ) → Reported (ordered l n)
reported none n = nothing refl
reported (after m) n = by (eqb n (m + 1)) (ltb m n)
  where
    by : (s t : Bool) → Reported (pick s [] (pick t (gap_event n ∷ []) (back_event n ∷ [])))
    by true t = nothing refl
    by false true = report (gap_event n) refl refl
    by false false = report (back_event n) refl refl

-- ---- the steps after the first
abbrev run : ℕ → ℕ → List ℕ → Stepped → Answer Replayed
run most position b t = before t.says (going_on t.state (steps most t.state position b))

module _ (most position : ℕ) (b : List ℕ) (rs : List Record) (w : Walks b rs) (l : length rs ≤ most) where
  enters : (es : List Event) → Reported es
      → run most position b (entering es (block_number b) rs)
      ≡ got (replayed (es ++ record_events (block_number b) rs) (sound (block_number b) 0))
  enters es (report e x t) =
      let n = block_number b in
      ap (λ (fs : List Event). run most position b (entering fs n rs)) x
      ∙ ap (λ (a : Answer Replayed). before (got e) a) (rest rs most position b w l)
      ∙ ap (λ (fs : List Event). got (replayed (fs ++ record_events n rs) (sound n 0))) (t ∙ sym x)
  enters es (nothing x) =
      let n = block_number b in
      ap (λ (fs : List Event). run most position b (entering fs n rs)) x
      ∙ first rs w l
      ∙ ap (λ (fs : List Event). got (replayed (fs ++ record_events n rs) (sound n 0))) (sym x)
    where
      first : (qs : List Record) → Walks b qs → length qs ≤ most
          → run most position b (entering [] (block_number b) qs) ≡ got (replayed (record_events (block_number b) qs) (sound (block_number b) 0))
      first [] v m = refl
      first (r ∷ qs) (e, (stands, (holds, (low, (high, v))))) m =
          let n = block_number b in
          let event = record_event n r.place (read_command r.payload) in
          ap (λ (a : Answer Replayed). before (got event) a) (rest qs most position b v (omega arith))
          ∙ ap (λ (es : List Event). got (replayed (es ++ record_events n qs) (sound n 0))) (told_record n r.place (read_command r.payload))

pub step-between : (l : Before) (position : ℕ) (b : List ℕ)
    → step_of (between l) position b ≡ opens (between l) position (block_number b) (records_of b)
step-between none position b = refl
step-between (after m) position b = refl

pub before-between : (l : Before) → before_of (between l) ≡ l
before-between none = refl
before-between (after m) = refl

-- ---- through one block
pub one_block : (l : Before) (position : ℕ) (b : List ℕ) (a : Answer (List Record)) → records_of b ≡ a
    → through (between l) position b
    ≡ got (replayed (block_events l position (block_number b) a) (between (before_next l (block_number b) a)))
one_block l position b a x =
    ap (run block_size position b)
    (step-between l position b ∙ ap (λ (y : Answer (List Record)). opens (between l) position (block_number b) y) x) ∙ by a x
  where
    stays : (m : Before) (k : ℕ) → run block_size position b (step (between m) (damaged_event position k))
        ≡ got (replayed (damaged_event position k ∷ []) (between m))
    stays none k = refl
    stays (after m) k = refl

    by : (y : Answer (List Record)) → records_of b ≡ y
        → run block_size position b (opens (between l) position (block_number b) y)
        ≡ got (replayed (block_events l position (block_number b) y) (between (before_next l (block_number b) y)))
    by (refused k p) h = stays l k
    by (got rs) h =
        let w = sound_walks b rs h in
        ap (λ (m : Before). run block_size position b (entering (ordered m (block_number b)) (block_number b) rs)) (before-between l)
        ∙ enters block_size position b rs w (few b rs w) (ordered l (block_number b)) (reported l (block_number b))

-- ---- through all
all_blocks : (hs : List Handed) (l : Before) → through_all (between l) hs ≡ got (replayed (events_of l hs) (between (last_of l hs)))
all_blocks [] l = refl
all_blocks (handed position b ∷ hs) l =
    let n = block_number b in
    let es = block_events l position n (records_of b) in
    let m = before_next l n (records_of b) in
    ap
    (λ (a : Answer Replayed).
    and_then a (λ r. and_then (through_all (state_in r) hs) (λ q. got (replayed (events_in r ++ events_in q) (state_in q)))))
    (one_block l position b (records_of b) refl)
    ∙ ap (λ (a : Answer Replayed). and_then a (λ q. got (replayed (es ++ events_in q) (state_in q)))) (all_blocks hs m)

-- a state within its limits that has no place is one between blocks
pub at_rest : (s : Replay) → in_limits s ≡ true → s.place ≡ 0 → s ≡ between (before_of s)
at_rest s h p = by s.started s.number s.place h p
  where
    by : (t : Bool) (n at : ℕ) → in_limits (record { started = t; number = n; place = at }) ≡ true → at ≡ 0
        → ◌≡◌ {A = Replay} (record { started = t; number = n; place = at }) (between (pick t (after n) none))
    by true n at k e = ap (λ (j : ℕ). sound n j) e
    by false n at k e = numbered (eqb n 0) refl k
      where
        numbered : (u : Bool) → eqb n 0 ≡ u → pick u (eqb at 0) false ≡ true
            → ◌≡◌ {A = Replay} (record { started = false; number = n; place = at }) new_replay
        numbered true f g =
            ap₂ (λ (m j : ℕ). record { started = false; number = m; place = j }) (eqb-true n 0 f) e
        numbered false f g = let z : ◌≡◌ {A = ℕ} 0 1 = cc in absurd (omega arith)

-- and that is one, and after that block
pub rests : (l : Before) → (in_limits (between l) ≡ true) × (((between l).place ≡ 0) × (before_of (between l) ≡ l))
rests none = (refl, (refl, refl))
rests (after n) = (refl, (refl, refl))

-- ---- THE theorem
pub any_blocks : (s : Replay) → in_limits s ≡ true → s.place ≡ 0 → (hs : List Handed)
    → through_all s hs ≡ got (replayed (events_of (before_of s) hs) (between (last_of (before_of s) hs)))
any_blocks s h p hs = ap (λ (t : Replay). through_all t hs) (at_rest s h p) ∙ all_blocks hs (before_of s)

-- of a whole log
pub any_log : (hs : List Handed) → through_all new_replay hs ≡ got (replayed (log_events hs) (between (last_of none hs)))
any_log hs = all_blocks hs none

-- The theorem of any blocks, of whatever meets the contract of `next`, called for one event after the other. `Post` is the contract as the
-- check reads it from the source, and no copy of it. Assumes nothing.
use Rattle.std.specs.Prelude.{Result, Ok, Err}
use Prim.Native.Nat.{ℕ}
use mathlib.Core.Bool.{true}
use mathlib.Core.List.{List, [], ◌∷◌, ◌++◌, append_assoc}
use mathlib.Core.Path.{◌≡◌, refl, ap, ap₂, sym, subst, ◌∙◌}
use native.Mathlib.Omega.{arith}
use borrow.Author.Tests.{ne_eqb}
use lib.Dec.{eqb}
use contract.Lifetimes.{Lfts}
use borrow.Fn.Kinds.{Dens, res_t, ended_of}
use denote.Triple.Clauses.{AtExit}
use Rattle.codec.specs.Pick.{pick}
use Rattle.codec.specs.Sheet.{Answer, got, refused}
use Rattle.codec.specs.declared.refusal.Refusal.{Refusal}
use Rattle.commands.specs.Reading.{read_command}
use Rattle.blocks.specs.Block.{block_number, Record, records_of}
use Rattle.blocks.specs.Walk.{first_of, Standing}
use Rattle.blocks.proofs.Walks.{Walks, sound_walks}
use Rattle.replay.specs.Events.{record_event, damaged_event, nothing_event}
use Rattle.replay.specs.Log.{Handed, handed, Before, none, after, ordered, record_events, block_events, before_next, events_of, log_events}
use Rattle.replay.specs.Step.{sound, before_of, in_limits, Stepped, step, entering, opens, goes_on, step_of, StepIs}
use Rattle.replay.specs.Through.{told, between, last_of}
use Rattle.replay.specs.declared.Event.{Event}
use Rattle.replay.specs.declared.Replay.{Replay}
use Rattle.replay.specs.declared.Step.{Step}
use Rattle.replay.proofs.AnyBlocks.{passed, told_record, step-inside, Reported, nothing, report, reported, step-between, before-between, at_rest}
use Rattle.replay.proofs.Replay.new.Reads as new
use Rattle.replay.proofs.Replay.new.Kinds as new-kinds
use Rattle.replay.proofs.Replay.next.Reads as next
use Rattle.replay.proofs.Replay.next.Kinds as next-kinds

-- the blocks that are still to be handed in: the same one while the state has a place
abbrev pub blocks_left : Replay → Handed → List Handed → List Handed
blocks_left s h hs = pick (eqb s.place 0) hs (h ∷ hs)

-- ---- where a state stands: between blocks, or at a record of the first of them; what is still to be told, and what comes last
abbrev Inside : Replay → List Handed → List Event → Before → Type 0
Inside s [] es l = ⊥
Inside s (handed position b ∷ hs) es l =
    (r : Record) × ((rs : List Record) × (Walks b (r ∷ rs) × ((s ≡ sound (block_number b) r.place)
    × ((es ≡ record_events (block_number b) (r ∷ rs) ++ events_of (after (block_number b)) hs) × (l ≡ last_of (after (block_number b)) hs)))))

data At (s : Replay) (hs : List Handed) (es : List Event) (l : Before) : Type 0 where
  rests : (m : Before) → s ≡ between m → es ≡ events_of m hs → l ≡ last_of m hs → At s hs es l
  inside : Inside s hs es l → At s hs es l

-- a step from there
record Goes (s : Replay) (position : ℕ) (b : List ℕ) (hs : List Handed) (es : List Event) (l : Before) : Type 0 where
  event : Event
  state : Replay
  goes : step_of s position b ≡ step state event
  events : List Event
  tells : es ≡ told event ++ events
  goes_on : At state (blocks_left state (handed position b) hs) events l

module _ (position : ℕ) (b : List ℕ) (hs : List Handed) where
  -- behind some of a block's records
  behind : (rs : List Record) → Walks b rs
      → At (sound (block_number b) (first_of rs)) (blocks_left (sound (block_number b) (first_of rs)) (handed position b) hs)
      (record_events (block_number b) rs ++ events_of (after (block_number b)) hs) (last_of (after (block_number b)) hs)
  behind [] w = rests (after (block_number b)) refl refl refl
  behind (r ∷ rs) w =
      let n = block_number b in
      let low = w.1.1.1.0 in
      subst (λ (gs : List Handed). At (sound n r.place) gs (record_events n (r ∷ rs) ++ events_of (after n) hs) (last_of (after n) hs))
      (sym (passed (eqb r.place 0) _ _ (ne_eqb r.place 0 (λ e. omega arith))))
      (inside (r, (rs, (w, (refl, (refl, refl))))))

  -- a record is told, then those behind it
  a_record : (s : Replay) (r : Record) (rs : List Record) → Walks b rs
      → step_of s position b ≡ step (sound (block_number b) (first_of rs)) (record_event (block_number b) r.place (read_command r.payload))
      → Goes s position b hs (record_events (block_number b) (r ∷ rs) ++ events_of (after (block_number b)) hs) (last_of (after (block_number b)) hs)
  a_record s r rs w e =
      let n = block_number b in
      record {
        event = record_event n r.place (read_command r.payload);
        state = sound n (first_of rs);
        goes = e;
        events = record_events n rs ++ events_of (after n) hs;
        tells =
            ap (λ (es : List Event). es ++ (record_events n rs ++ events_of (after n) hs))
            (sym (told_record n r.place (read_command r.payload)));
        goes_on = behind rs w;
      }

  -- a block that goes on
  from-inside : (r : Record) (rs : List Record) → Walks b (r ∷ rs)
      → Goes (sound (block_number b) r.place) position b hs (record_events (block_number b) (r ∷ rs) ++ events_of (after (block_number b)) hs)
      (last_of (after (block_number b)) hs)
  from-inside r rs (e, (stands, (holds, (low, (high, w))))) =
      let n = block_number b in
      let at = r.place in
      a_record (sound n at) r rs w
      (step-inside n at position b low high
      ∙ ap (λ (a : Answer Standing). goes_on (sound n at) b a) stands
      ∙ ap (λ (p : List ℕ). step (sound n (first_of rs)) (record_event n at (read_command p))) holds)

  -- a new block that is sound
  enters : (s : Replay) (os : List Event) → Reported os → (rs : List Record) → Walks b rs → step_of s position b ≡ entering os (block_number b) rs
      → Goes s position b hs ((os ++ record_events (block_number b) rs) ++ events_of (after (block_number b)) hs) (last_of (after (block_number b)) hs)
  enters s os (report e x t) rs w g =
      let n = block_number b in
      record {
        event = e;
        state = sound n (first_of rs);
        goes = g ∙ ap (λ (fs : List Event). entering fs n rs) x;
        events = record_events n rs ++ events_of (after n) hs;
        tells =
            append_assoc os (record_events n rs) (events_of (after n) hs)
            ∙ ap (λ (es : List Event). es ++ (record_events n rs ++ events_of (after n) hs)) (x ∙ sym t);
        goes_on = behind rs w;
      }
  enters s os (nothing x) rs w g =
      let n = block_number b in
      subst (λ (fs : List Event). Goes s position b hs ((fs ++ record_events n rs) ++ events_of (after n) hs) (last_of (after n) hs)) (sym x)
      (by rs w (g ∙ ap (λ (fs : List Event). entering fs n rs) x))
    where
      by : (qs : List Record) → Walks b qs → step_of s position b ≡ entering [] (block_number b) qs
          → Goes s position b hs (record_events (block_number b) qs ++ events_of (after (block_number b)) hs) (last_of (after (block_number b)) hs)
      by [] v f = record {
        event = nothing_event (block_number b);
        state = sound (block_number b) 0;
        goes = f;
        events = events_of (after (block_number b)) hs;
        tells = refl;
        goes_on = behind [] tt;
      }
      by (r ∷ qs) v f = a_record s r qs v.1.1.1.1.1 f

  -- a new block
  from-rest : (m : Before) (a : Answer (List Record)) → records_of b ≡ a
      → Goes (between m) position b hs (block_events m position (block_number b) a ++ events_of (before_next m (block_number b) a) hs)
      (last_of (before_next m (block_number b) a) hs)
  from-rest m (refused k p) x = record {
    event = damaged_event position k;
    state = between m;
    goes = step-between m position b ∙ ap (λ (a : Answer (List Record)). opens (between m) position (block_number b) a) x;
    events = events_of m hs;
    tells = refl;
    goes_on = rests m refl (ap (λ (gs : List Handed). events_of m gs) (sym (left m))) (ap (λ (gs : List Handed). last_of m gs) (sym (left m)));
  }
    where
      left : (l : Before) → blocks_left (between l) (handed position b) hs ≡ hs
      left none = refl
      left (after n) = refl
  from-rest m (got rs) x =
      let n = block_number b in
      enters (between m) (ordered m n) (reported m n) rs (sound_walks b rs x)
      (step-between m position b
      ∙ ap (λ (a : Answer (List Record)). opens (between m) position n a) x
      ∙ ap (λ (l : Before). entering (ordered l n) n rs) (before-between m))

  moved : (s t : Replay) (es fs : List Event) (l m : Before) → s ≡ t → es ≡ fs → l ≡ m → Goes t position b hs fs m → Goes s position b hs es l
  moved s t es fs l m x y z g =
      subst (λ (u : Replay). Goes u position b hs es l) (sym x)
      (subst (λ (gs : List Event). Goes t position b hs gs l) (sym y) (subst (λ (k : Before). Goes t position b hs fs k) (sym z) g))

  one_step : (s : Replay) (es : List Event) (l : Before) → At s (handed position b ∷ hs) es l → Goes s position b hs es l
  one_step s es l (rests m x y z) = moved s (between m) es _ l _ x y z (from-rest m (records_of b) refl)
  one_step s es l (inside (r, (rs, (w, (x, (y, z)))))) = moved s (sound (block_number b) r.place) es _ l _ x y z (from-inside r rs w)

-- ---- `next`, called for one event after the other
-- what an answer tells; the state that it leaves, which is the one that was handed in where it refuses; and that it does not refuse
abbrev pub told_of : Result Step Refusal → List Event
told_of (Ok x) = told x.event
told_of (Err r) = []

abbrev pub left : Replay → Result Step Refusal → Replay
left s (Ok x) = x.state
left s (Err r) = s

abbrev pub Accepts : Result Step Refusal → Type 0
Accepts (Ok x) = Unit {0}
Accepts (Err r) = ⊥

came : (x : Result Step Refusal) (s t : Replay) (e : Event) → StepIs (step s e) x → (told_of x ≡ told e) × ((left t x ≡ s) × Accepts x)
came (Ok x) s t e h = (ap (λ (y : Step). told y.event) h, (ap (λ (y : Step). y.state) h, tt))
came (Err r) s t e h = absurd h

-- a call: what the function was handed, what it answered, and what it left, all that is known of it being its contract
pub record Call (κs : Lfts 1) : Type 0 where
  pub given : Dens κs next-kinds.ps
  pub answer : (res_t next-kinds.r κs).Denot
  pub left : AtExit (ended_of 1 next-kinds.ps next-kinds.r) κs
  pub meets : next.Post κs given answer left

module _ (κs : Lfts 1) where
  -- the calls that go through blocks: each is handed the state that the one before it left, the first this one, and the same block while
  -- the state has a place, else the next one; there are no more when no block is left
  abbrev pub InTurn : Replay → List Handed → List (Call κs) → Type 0
  InTurn s [] [] = Unit {0}
  InTurn s [] (k ∷ ks) = ⊥
  InTurn s (h ∷ hs) [] = ⊥
  InTurn s (handed position b ∷ hs) (k ∷ ks) =
      (k.given.0 ≡ s) × ((k.given.1.0 ≡ position) × ((k.given.1.1.0.now ≡ b)
      × InTurn (left s k.answer) (blocks_left (left s k.answer) (handed position b) hs) ks))

  -- what they tell, the state after them, and that none refuses
  abbrev pub told_by : List (Call κs) → List Event
  told_by [] = []
  told_by (k ∷ ks) = told_of k.answer ++ told_by ks

  abbrev pub state_after : Replay → List (Call κs) → Replay
  state_after s [] = s
  state_after s (k ∷ ks) = state_after (left s k.answer) ks

  abbrev pub NoneRefuses : List (Call κs) → Type 0
  NoneRefuses [] = Unit {0}
  NoneRefuses (k ∷ ks) = Accepts k.answer × NoneRefuses ks

  abbrev Through : Replay → List (Call κs) → List Event → Before → Type 0
  Through s ks es l = (told_by ks ≡ es) × ((state_after s ks ≡ between l) × NoneRefuses ks)

  calls-from : (ks : List (Call κs)) (s : Replay) (hs : List Handed) (es : List Event) (l : Before)
      → InTurn s hs ks → At s hs es l → Through s ks es l
  calls-from [] s [] es l h (rests m x y z) = (sym y, (x ∙ ap between (sym z), tt))
  calls-from [] s [] es l h (inside i) = absurd i
  calls-from [] s (g ∷ hs) es l h a = absurd h
  calls-from (k ∷ ks) s [] es l h a = absurd h
  calls-from (k ∷ ks) s (handed position b ∷ hs) es l (e, (f, (g, h))) a =
      let o = one_step position b hs s es l a in
      let i : StepIs (step o.state o.event) k.answer =
      subst (λ (t : Stepped). StepIs t k.answer) o.goes
      (subst (λ (c : List ℕ). StepIs (step_of s position c) k.answer) g
      (subst (λ (n : ℕ). StepIs (step_of s n k.given.1.1.0.now) k.answer) f
      (subst (λ (t : Replay). StepIs (step_of t k.given.1.0 k.given.1.1.0.now) k.answer) e k.meets))) in
      let j = came k.answer o.state s o.event i in
      let t = left s k.answer in
      let r = calls-from ks t (blocks_left t (handed position b) hs) o.events l h
      (subst (λ (u : Replay). At u (blocks_left u (handed position b) hs) o.events l) (sym j.1.0) o.goes_on) in
      (ap₂ (λ (fs gs : List Event). fs ++ gs) j.0 r.0 ∙ sym o.tells, (r.1.0, (j.1.1, r.1.1)))

  -- THE theorem: for any state between blocks, and any blocks of any bytes, they tell exactly the events of the blocks, in order; none
  -- refuses; and the state after them is between blocks, after the last sound one
  pub calls-told : (s : Replay) → in_limits s ≡ true → s.place ≡ 0 → (hs : List Handed) (ks : List (Call κs)) → InTurn s hs ks
      → (told_by ks ≡ events_of (before_of s) hs) × ((state_after s ks ≡ between (last_of (before_of s) hs)) × NoneRefuses ks)
  calls-told s l p hs ks h =
      calls-from ks s hs (events_of (before_of s) hs) (last_of (before_of s) hs) h (rests (before_of s) (at_rest s l p) refl refl)

  -- of a whole log, from what meets the contract of `new`
  pub log_told : (νs : Lfts 0) (a : Dens νs new-kinds.ps) (s : (res_t new-kinds.r νs).Denot) (t : AtExit (ended_of 0 new-kinds.ps new-kinds.r) νs)
      → new.Post νs a s t → (hs : List Handed) (ks : List (Call κs)) → InTurn s hs ks
      → (told_by ks ≡ log_events hs) × ((state_after s ks ≡ between (last_of none hs)) × NoneRefuses ks)
  log_told νs a s t p hs ks h = calls-from ks s hs (log_events hs) (last_of none hs) h (rests none p refl refl)

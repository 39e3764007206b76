-- The step, case by case. Assumes nothing.
use Rattle.std.specs.Prelude.{Option, Some, None, Result, Ok, Err}
use Prim.Native.Nat.{ℕ, ◌+◌, ◌-◌, ◌<◌, ◌≤◌}
use mathlib.Core.Bool.{Bool, true, false}
use mathlib.Core.List.{List, [], ◌∷◌}
use mathlib.Core.Path.{◌≡◌, refl, ap, sym, subst, ◌∙◌}
use native.Mathlib.Omega.{arith}
use borrow.Author.Tests.{lt-ltb, le-ltb, eq-eqb, ne_eqb}
use lib.ListN.{length}
use lib.Dec.{eqb}
use Rattle.codec.specs.Pick.{pick}
use Rattle.codec.specs.Sheet.{Answer, got, refused, and_then}
use Rattle.codec.specs.Refusals.{refusal_number, value_in}
use Rattle.codec.specs.declared.refusal.Refusal.{Refusal}
use Rattle.codec.specs.declared.refusal.Refusal.TheVariants.{RecordNotMade}
use Rattle.codec.proofs.Refused.{Some as Numbered, some-got, some-refused}
use Rattle.commands.specs.Reading.{CommandIs}
use Rattle.commands.specs.declared.DirectCommands.{DirectCommands}
use Rattle.blocks.specs.Block.{block_number, Record, records_of}
use Rattle.blocks.specs.Walk.{first_of, opening, opening_of, Standing, standing, record_at, damage_number, told_judged, told_walked}
use Rattle.blocks.specs.declared.Damage.{Damage}
use Rattle.blocks.specs.declared.Sound.{Sound}
use Rattle.blocks.specs.declared.Record.{Record as Found}
use Rattle.blocks.proofs.Walks.{Walks, sound_walks, stands-within}
use Rattle.replay.specs.Events.{record_event, damaged_event, gap_event, back_event, nothing_event}
use Rattle.replay.specs.Log.{ordered}
use Rattle.replay.specs.Step.{sound, before_of, step, beyond, goes_on, in_limits, entering, opens, step_of, Stepped, StepIs, Opens, records_in}
use Rattle.replay.specs.declared.Event.{Event}
use Rattle.replay.specs.declared.Replay.{Replay}
use Rattle.replay.specs.declared.Step.{Step}

-- ---- a record that is read, or refused: then come place 0 and the blank command
pub record_read : (b at : ℕ) (a : Answer DirectCommands) (c : DirectCommands) → CommandIs a (Ok c) → record_event b at (got c) ≡ record_event b at a
record_read b at (got x) c h = ap (λ (d : DirectCommands). record_event b at (got d)) h
record_read b at (refused n p) c h = absurd h

pub record_refused : (b at : ℕ) (a : Answer DirectCommands) (why : Refusal) (n : ℕ) → Numbered a → CommandIs a (Err why) → n ≡ refusal_number why
    → record_event b at (refused n 0) ≡ record_event b at a
record_refused b at (got c) why n some h e = absurd h
record_refused b at (refused m p) why n some h e = let z = (some m p refl).1 in rw (e, h, z)

-- ---- the record at the state's place
goes_none_by : (s : Replay) (b : List ℕ) (w : Option Found) → w ≡ None → StepIs (goes_on s b (told_walked w)) (Err RecordNotMade)
goes_none_by s b None e = refl
goes_none_by s b (Some r) e = let z : ◌≡◌ {A = ℕ} 0 1 = cc in absurd (omega arith)

module _ (s : Replay) (b : List ℕ) (w : Option Found) (told : told_walked w ≡ record_at b s.place) where
  pub goes_none : w ≡ None → StepIs (goes_on s b (record_at b s.place)) (Err RecordNotMade)
  goes_none e = rw (← told) (goes_none_by s b w e)

  pub goes_record : (f : Found) → w ≡ Some f → (r : Result Step Refusal) → StepIs (goes_on s b (got (standing f.number f.end f.next))) r
      → StepIs (goes_on s b (record_at b s.place)) r
  goes_record f e r h = rw (← told, e) h

pub goes-within : (b : List ℕ) (at : ℕ) (f : Found) (w : Option Found) → told_walked w ≡ record_at b at → w ≡ Some f
    → (at + 1 ≤ f.end) × ((f.end ≤ length b) × (length b ≡ 512))
goes-within b at f w told e =
    let k = stands-within b at f.number f.end f.next (sym told ∙ ap told_walked e) in (k.1.0, (k.1.1.0, k.1.1.1.0))

-- ---- a sound block has the records that what it opens with speaks of
opening-records : (a : Answer (List Record)) (n m first : ℕ) → and_then a (λ rs. got (opening n (first_of rs))) ≡ got (opening m first)
    → (rs : List Record) × ((a ≡ got rs) × ((m ≡ n) × (first ≡ first_of rs)))
opening-records (got rs) n m first e = (rs, (refl, (cc, cc)))
opening-records (refused k p) n m first e = let z : ◌≡◌ {A = ℕ} 0 1 = cc in absurd (omega arith)

-- in order: its first record, or that it has none
begins-by : (s : Replay) (b : List ℕ) (rs : List Record) → s.started ≡ true → s.number ≡ block_number b → s.place ≡ first_of rs → Walks b rs
    → ((s.place ≡ 0) → step s (nothing_event s.number) ≡ entering [] s.number rs)
    × ((s.place ≡ 0 → ⊥) → goes_on s b (record_at b s.place) ≡ entering [] s.number rs)
begins-by s b [] t n f w = ((λ e. rw (t, f)), (λ e. absurd (e f)))
begins-by s b (r ∷ rs) t n f (e, (g, (h, (l, m)))) = (
  (λ z. absurd (omega (arith, l))),
  (λ z. rw (f, g, t, n, h)),
)

module _ (s : Replay) (b : List ℕ) (t : s.started ≡ true) (o : Opens s.number s.place b) where
  begins : ((s.place ≡ 0) → step s (nothing_event s.number) ≡ entering [] s.number (records_in b))
      × ((s.place ≡ 0 → ⊥) → goes_on s b (record_at b s.place) ≡ entering [] s.number (records_in b))
  begins =
      let k = opening-records (records_of b) (block_number b) s.number s.place o in
      let e : records_in b ≡ k.0 = ap (value_in []) k.1.0 in
      rw e (begins-by s b k.0 t k.1.1.0 k.1.1.1 (sound_walks b k.0 k.1.0))

  pub begins-nothing : s.place ≡ 0 → (r : Result Step Refusal) → StepIs (step s (nothing_event s.number)) r → StepIs (entering [] s.number (records_in b)) r
  begins-nothing z r h = subst (λ (x : Stepped). StepIs x r) (begins.0 z) h

  pub begins_record : (s.place ≡ 0 → ⊥) → (r : Result Step Refusal) → StepIs (goes_on s b (record_at b s.place)) r
      → StepIs (entering [] s.number (records_in b)) r
  begins_record z r h = subst (λ (x : Stepped). StepIs x r) (begins.1 z) h

-- ---- the order of numbers
ordered-first : (s : Replay) (n : ℕ) → s.started ≡ false → ordered (before_of s) n ≡ []
ordered-first s n e = rw e

ordered_back : (s : Replay) (n : ℕ) → s.started ≡ true → n ≤ s.number → ordered (before_of s) n ≡ back_event n ∷ []
ordered_back s n e l = rw (e, ne_eqb n (s.number + 1) (λ f. omega arith), le-ltb s.number n l)

ordered_gap : (s : Replay) (n : ℕ) → s.started ≡ true → s.number < n → 1 < n - s.number → ordered (before_of s) n ≡ gap_event n ∷ []
ordered_gap s n e l m = rw (e, ne_eqb n (s.number + 1) (λ f. omega arith), lt-ltb s.number n l)

ordered-next : (s : Replay) (n : ℕ) → s.started ≡ true → s.number < n → n - s.number ≤ 1 → ordered (before_of s) n ≡ []
ordered-next s n e l m = rw (e, eq-eqb n (s.number + 1) (omega arith))

module _ (s : Replay) (n first : ℕ) (b : List ℕ) (o : Opens n first b) (r : Result Step Refusal) where
  -- not in order: that is said, and the records come next
  reported : (e : Event) → ordered (before_of s) n ≡ e ∷ [] → StepIs (step (sound n first) e) r
      → StepIs (entering (ordered (before_of s) n) n (records_in b)) r
  reported e f h =
      let k = opening-records (records_of b) (block_number b) n first o in
      let g : first_of (records_in b) ≡ first = ap (λ (a : Answer (List Record)). first_of (value_in [] a)) k.1.0 ∙ sym k.1.1.1 in
      rw f (subst (λ (m : ℕ). StepIs (step (sound n m) e) r) (sym g) h)

  pub enters_back : s.started ≡ true → n ≤ s.number → StepIs (step (sound n first) (back_event n)) r
      → StepIs (entering (ordered (before_of s) n) n (records_in b)) r
  enters_back e l h = reported (back_event n) (ordered_back s n e l) h

  pub enters_gap : s.started ≡ true → s.number < n → 1 < n - s.number → StepIs (step (sound n first) (gap_event n)) r
      → StepIs (entering (ordered (before_of s) n) n (records_in b)) r
  enters_gap e l m h = reported (gap_event n) (ordered_gap s n e l m) h

  pub enters_first : s.started ≡ false → StepIs (entering [] n (records_in b)) r → StepIs (entering (ordered (before_of s) n) n (records_in b)) r
  enters_first e h = rw (ordered-first s n e) h

  pub enters_next : s.started ≡ true → s.number < n → n - s.number ≤ 1 → StepIs (entering [] n (records_in b)) r
      → StepIs (entering (ordered (before_of s) n) n (records_in b)) r
  enters_next e l m h = rw (ordered-next s n e l m) h

-- ---- a new block, by its verdict
pub sound-opens : (b : List ℕ) (j : Result Sound Damage) (f : Sound) → told_judged j ≡ opening_of b → j ≡ Ok f → Opens f.number f.first b
sound-opens b j f t e = sym t ∙ ap told_judged e

damage_is : (a : Answer (List Record)) (n k : ℕ) → refused k 0 ≡ and_then a (λ rs. got (opening n (first_of rs))) → a ≡ refused k 0
damage_is (got rs) n k e = let z : ◌≡◌ {A = ℕ} 0 1 = cc in absurd (omega arith)
damage_is (refused m p) n k e = let f : k ≡ m = cc in let g : 0 ≡ p = cc in rw (f, g)

module _ (s : Replay) (position : ℕ) (b : List ℕ) (j : Result Sound Damage) (told : told_judged j ≡ opening_of b) (r : Result Step Refusal) where
  pub opens_damaged : (d : Damage) → j ≡ Err d → StepIs (step s (damaged_event position (damage_number d))) r
      → StepIs (opens s position (block_number b) (records_of b)) r
  opens_damaged d e h = rw (damage_is (records_of b) (block_number b) (damage_number d) (sym (ap told_judged e) ∙ told)) h

  pub opens-sound : (v : Sound) → j ≡ Ok v → StepIs (entering (ordered (before_of s) v.number) v.number (records_in b)) r
      → StepIs (opens s position (block_number b) (records_of b)) r
  opens-sound v e h =
      let k = opening-records (records_of b) (block_number b) v.number v.first (sound-opens b j v told e) in
      let f : records_in b ≡ k.0 = ap (value_in []) k.1.0 in
      let g : StepIs (entering (ordered (before_of s) (block_number b)) (block_number b) k.0) r = rw (k.1.1.0, f) at h in
      rw k.1.0 g

-- ---- a step refuses with 5 and place 0, if at all
entering-some : (es : List Event) (n : ℕ) (rs : List Record) → Numbered (entering es n rs).says
entering-some (e ∷ es) n rs = some-got e
entering-some [] n [] = some-got _
entering-some [] n (r ∷ rs) = some-got _

opens-some : (s : Replay) (position n : ℕ) (a : Answer (List Record)) → Numbered (opens s position n a).says
opens-some s position n (got rs) = entering-some (ordered (before_of s) n) n rs
opens-some s position n (refused k p) = some-got _

goes_some : (s : Replay) (b : List ℕ) (a : Answer Standing) → Numbered (goes_on s b a).says
goes_some s b (got (standing n end next)) = some-got _
goes_some s b (refused k p) = some-refused 5 (omega arith)

pub step-some : (s : Replay) (position : ℕ) (b : List ℕ) → Numbered (step_of s position b).says
step-some s position b = by (in_limits s) (eqb s.place 0)
  where
    by : (x y : Bool) → Numbered (pick x (pick y (opens s position (block_number b) (records_of b)) (goes_on s b (record_at b s.place))) (beyond s)).says
    by true true = opens-some s position (block_number b) (records_of b)
    by true false = goes_some s b (record_at b s.place)
    by false y = some-refused 5 (omega arith)

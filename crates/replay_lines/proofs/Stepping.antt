-- Through a block step by step: each step goes on in the block by 5 bytes and more, or refuses. Assumes nothing.
use Rattle.std.specs.Prelude.{⊤, Result, Ok, Err}
use Prim.Native.Nat.{ℕ, zero, suc, ◌+◌, ◌-◌, ◌<◌, ◌≤◌}
use mathlib.Core.Bool.{Bool, true, false}
use mathlib.Core.List.{List, [], ◌∷◌, ◌++◌, append_assoc, append-nil}
use mathlib.Core.Path.{◌≡◌, refl, ap, sym, subst, ◌∙◌}
use native.Mathlib.Omega.{arith}
use borrow.Author.Tests.{ltb-true, eqb-true, ne_eqb}
use lib.Dec.{ltb, eqb}
use Rattle.codec.specs.Pick.{pick}
use Rattle.codec.specs.Sheet.{Answer, got, refused, and_then}
use Rattle.codec.specs.Refusals.{refusal_number, outcome_number, number_in, Gives}
use Rattle.codec.specs.declared.refusal.Refusal.{Refusal}
use Rattle.codec.proofs.Outcomes.{gives_ok, gives_err}
use Rattle.blocks.specs.Block.{block_number, Record, records_of}
use Rattle.blocks.specs.Walk.{first_of, Standing, standing, used_end, place_before, record_at}
use Rattle.blocks.proofs.Records.{ends}
use Rattle.blocks.proofs.Walks.{Walks, stands, sound_walks}
use Rattle.replay.specs.Log.{handed, ordered, events_of}
use Rattle.replay.specs.Step.{before_of, in_limits, Stepped, entering, opens, goes_on, beyond, step_of, after_step, StepIs}
use Rattle.replay.specs.Through.{told, Replayed, replayed, before, going_on, steps, through, events_in, state_in, between, last_of}
use Rattle.replay.specs.declared.Event.{Event}
use Rattle.replay.specs.declared.Replay.{Replay}
use Rattle.replay.specs.declared.Step.{Step}
use Rattle.replay.proofs.AnyBlocks.{any_blocks}
use Rattle.replay_lines.specs.Lines.{OnceOn}

-- ---- one step
pub record Onward (s s' : Replay) : Type 0 where
  pub low : s.place ≤ 506
  pub next : (s'.place ≡ 0 → ⊥) → (s.place + 5 ≤ s'.place) × ((6 ≤ s'.place) × (s'.place ≤ 511))

pub data Says (s : Replay) (x : Stepped) : Type 0 where
  on : (e : Event) → x.says ≡ got e → Onward s x.state → Says s x
  stops : x.says ≡ refused 5 0 → x.state ≡ s → Says s x

place-next : (end e at : ℕ) → 6 ≤ at → at + 5 ≤ e → end ≤ 511 → (place_before end e ≡ 0 → ⊥)
    → (at + 5 ≤ place_before end e) × ((6 ≤ place_before end e) × (place_before end e ≤ 511))
place-next end e at m h l = by (ltb e end) refl
  where
    by : (t : Bool) → ltb e end ≡ t → (pick t e 0 ≡ 0 → ⊥) → (at + 5 ≤ pick t e 0) × ((6 ≤ pick t e 0) × (pick t e 0 ≤ 511))
    by true g n = (h, (omega arith, omega (arith, ltb-true e end g)))
    by false g n = absurd (n refl)

walks_first : (b : List ℕ) (rs : List Record) → Walks b rs → (first_of rs ≡ 0 → ⊥) → (6 ≤ first_of rs) × (first_of rs ≤ 511)
walks_first b [] w n = absurd (n refl)
walks_first b (r ∷ rs) (e, (there, (holds, (low, (high, w))))) n = (low, high)

enters : (s : Replay) (b : List ℕ) (rs : List Record) → Walks b rs → s.place ≡ 0 → (es : List Event) → Says s (entering es (block_number b) rs)
enters s b rs w z (e ∷ es) = on e refl (record {
  low = omega arith;
  next = λ n. let f = walks_first b rs w n in (omega (arith, f.0), f);
})
enters s b [] w z [] = on _ refl (record { low = omega arith; next = λ n. absurd (n refl) })
enters s b (r ∷ rs) w z [] = on _ refl (record {
  low = omega (arith, z);
  next = λ n. let f = walks_first b rs w.1.1.1.1.1 n in (omega (arith, z, f.0), f);
})

opens-on : (s : Replay) (position : ℕ) (b : List ℕ) (a : Answer (List Record)) → records_of b ≡ a → s.place ≡ 0
    → Says s (opens s position (block_number b) a)
opens-on s position b (refused k p) h z = on _ refl (record { low = omega arith; next = λ n. absurd (n z) })
opens-on s position b (got rs) h z = enters s b rs (sound_walks b rs h) z (ordered (before_of s) (block_number b))

goes_on_lem : (s : Replay) (b : List ℕ) (a : Answer Standing) → record_at b s.place ≡ a → Says s (goes_on s b a)
goes_on_lem s b (refused k p) h = stops refl refl
goes_on_lem s b (got (standing n e x)) h =
    let there = stands b s.place n e x h in
    let f = ends b (used_end b) s.place e there.ends_at in
    let far : s.place + 5 ≤ e = omega (arith, f.end_is, f.least) in
    on _ refl (record {
      low = omega (arith, far, f.fits, there.used);
      next = rw there.next_is (place-next (used_end b) e s.place there.behind-head far (omega (arith, there.used)));
    })

pub step-says : (s : Replay) (position : ℕ) (b : List ℕ) → Says s (step_of s position b)
step-says s position b = by (in_limits s) (eqb s.place 0) refl
  where
    by : (x y : Bool) → eqb s.place 0 ≡ y
        → Says s (pick x (pick y (opens s position (block_number b) (records_of b)) (goes_on s b (record_at b s.place))) (beyond s))
    by true true h = opens-on s position b (records_of b) refl (eqb-true s.place 0 h)
    by true false h = goes_on_lem s b (record_at b s.place) refl
    by false y h = stops refl refl

-- by what a step's answer gives
module _ {B : Type 0} {s : Replay} {x : Stepped} (shown : Event → B) (y : Says s x) where
  pub says_on : (r : B) → Gives shown x.says (Ok r) → (e : Event) × ((x.says ≡ got e) × (Onward s x.state × (r ≡ shown e)))
  says_on r h = by y
    where
      by : Says s x → (e : Event) × ((x.says ≡ got e) × (Onward s x.state × (r ≡ shown e)))
      by (on e f w) = let g = gives_ok shown x.says r h in (g.0, (g.1.0, (w, g.1.1)))
      by (stops f w) =
          let g = gives_ok shown x.says r h in
          let e : refused 5 0 ≡ got g.0 = sym f ∙ g.1.0 in
          let z : ◌≡◌ {A = ℕ} 0 1 = cc in absurd (omega arith)

  pub says-stops : (why : Refusal) → Gives shown x.says (Err why) → (x.says ≡ refused 5 0) × ((x.state ≡ s) × (refusal_number why ≡ 5))
  says-stops why h = by y
    where
      by : Says s x → (x.says ≡ refused 5 0) × ((x.state ≡ s) × (refusal_number why ≡ 5))
      by (on e f w) =
          let g = gives_err shown x.says why h in
          let c : got e ≡ refused (refusal_number why) g.0 = sym f ∙ g.1 in
          let z : ◌≡◌ {A = ℕ} 0 1 = cc in absurd (omega arith)
      by (stops f w) =
          let g = gives_err shown x.says why h in
          let c : refused 5 0 ≡ refused (refusal_number why) g.0 = sym f ∙ g.1 in
          let n : 5 ≡ refusal_number why = cc in (f, (w, sym n))

-- ---- the steps of a block: what was told so far, before those to come
abbrev pub behind : List Event → Answer Replayed → Answer Replayed
behind es (got (replayed fs s)) = got (replayed (es ++ fs) s)
behind es (refused n p) = refused n p

behind_none : (a : Answer Replayed) → behind [] a ≡ a
behind_none (got (replayed fs s)) = refl
behind_none (refused n p) = refl

behind_more : (es : List Event) (e : Event) (a : Answer Replayed) → behind es (before (got e) a) ≡ behind (es ++ told e) a
behind_more es e (got (replayed fs s)) = ap (λ (gs : List Event). got (replayed gs s)) (sym (append_assoc es (told e) fs))
behind_more es e (refused n p) = refl

pub record Going (s₀ : Replay) (position : ℕ) (b : List ℕ) (s : Replay) (so_far : List Event) : Type 0 where
  pub most : ℕ
  pub some : 0 < most
  pub enough : 512 < s.place + most
  pub goes : through s₀ position b ≡ behind so_far (steps most s position b)

pub going_starts : (s : Replay) (position : ℕ) (b : List ℕ) → Going s position b s []
going_starts s position b = record {
  most = 513;
  some = omega arith;
  enough = omega arith;
  goes = sym (behind_none (through s position b));
}

some_more : (m : ℕ) → 0 < m → (f : ℕ) × (m ≡ suc f)
some_more zero h = absurd (omega arith)
some_more (suc f) h = (f, refl)

module _ {s₀ s : Replay} {position : ℕ} {b : List ℕ} {so_far : List Event} (g : Going s₀ position b s so_far) where
  one : (f : ℕ) × (g.most ≡ suc f)
  one = some_more g.most g.some

  abbrev after : Answer Replayed
  after = steps one.0 (step_of s position b).state position b

  whole : through s₀ position b ≡ behind so_far (before (step_of s position b).says (going_on (step_of s position b).state after))
  whole = g.goes ∙ ap (λ (m : ℕ). behind so_far (steps m s position b)) one.1

  pub going-stops : (n p : ℕ) → (step_of s position b).says ≡ refused n p → through s₀ position b ≡ refused n p
  going-stops n p h =
      whole ∙ ap (λ (a : Answer Event). behind so_far (before a (going_on (step_of s position b).state after))) h

  module _ {e : Event} (h : (step_of s position b).says ≡ got e) where
    told-step : through s₀ position b ≡ behind (so_far ++ told e) (going_on (step_of s position b).state after)
    told-step =
        whole ∙ ap (λ (a : Answer Event). behind so_far (before a (going_on (step_of s position b).state after))) h
        ∙ behind_more so_far e (going_on (step_of s position b).state after)

    pub going-ends : (step_of s position b).state.place ≡ 0
        → through s₀ position b ≡ got (replayed (so_far ++ told e) (step_of s position b).state)
    going-ends z =
        told-step
        ∙ ap (λ (n : ℕ). behind (so_far ++ told e)
        (pick (eqb n 0) (got (replayed [] (step_of s position b).state)) after)) z
        ∙ ap (λ (es : List Event). got (replayed es (step_of s position b).state)) (append-nil (so_far ++ told e))

    pub going_turn : Onward s (step_of s position b).state → ((step_of s position b).state.place ≡ 0 → ⊥)
        → Going s₀ position b (step_of s position b).state (so_far ++ told e)
    going_turn w n = record {
      most = one.0;
      some = omega (arith, one.1, g.enough, w.low);
      enough = omega (arith, one.1, g.enough, (w.next n).0);
      goes = on-goes;
    }
      where
        on-goes : through s₀ position b ≡ behind (so_far ++ told e) (steps one.0 (step_of s position b).state position b)
        on-goes =
            told-step
            ∙ ap (λ (t : Bool). behind (so_far ++ told e) (pick t (got (replayed [] (step_of s position b).state)) after))
            (ne_eqb (step_of s position b).state.place 0 n)

-- ---- the steps tried: a block's last, one behind which there is more, and one that refuses
module _ {s₀ s : Replay} {position : ℕ} {b : List ℕ} {so_far : List Event} (g : Going s₀ position b s so_far) where
  module _ (r : Step) (h : StepIs (step_of s position b) (Ok r)) where
    said : (e : Event) × (((step_of s position b).says ≡ got e) × (Onward s (step_of s position b).state × (r ≡ after_step (step_of s position b).state e)))
    said = says_on _ (step-says s position b) r h

    state_is : r.state ≡ (step_of s position b).state
    state_is = ap (λ (y : Step). y.state) said.1.1.1

    place_is : r.state.place ≡ (step_of s position b).state.place
    place_is = ap (λ (y : Replay). y.place) state_is

    pub tried-ends : r.state.place ≡ 0 → 0 ≡ number_in (through s₀ position b)
    tried-ends z = sym (ap number_in (going-ends g said.1.0 (sym place_is ∙ z)))

    pub tried_turn : (r.state.place ≡ 0 → ⊥) → (es : List Event) × Going s₀ position b r.state es
    tried_turn n =
        subst (λ (y : Replay). (es : List Event) × Going s₀ position b y es) (sym state_is)
        (so_far ++ told said.0, going_turn g said.1.0 said.1.1.0 (λ z. n (place_is ∙ z)))

    pub tried_less : (r.state.place ≡ 0 → ⊥) → 512 - r.state.place < 512 - s.place
    tried_less n = let far = said.1.1.0.next (λ z. n (place_is ∙ z)) in omega (arith, far.0, far.1.1, place_is)

  pub tried-stops : (why : Refusal) (out : Result ⊤ Refusal) → out ≡ Err why → StepIs (step_of s position b) (Err why)
      → outcome_number out ≡ number_in (through s₀ position b)
  tried-stops why out o h =
      let e = says-stops _ (step-says s position b) why h in
      ap outcome_number o ∙ e.1.1 ∙ sym (ap number_in (going-stops g 5 0 e.0))

-- ---- a state between blocks: THE theorem of any blocks, of one
alone : (a : Answer Replayed) → and_then a (λ r. got (replayed (events_in r ++ []) (state_in r))) ≡ a
alone (got (replayed es s)) = ap (λ (fs : List Event). got (replayed fs s)) (append-nil es)
alone (refused n p) = refl

pub one_block : (s : Replay) (position : ℕ) (b : List ℕ) → in_limits s ≡ true → s.place ≡ 0
    → through s position b
    ≡ got (replayed (events_of (before_of s) (handed position b ∷ [])) (between (last_of (before_of s) (handed position b ∷ []))))
one_block s position b h z = sym (alone (through s position b)) ∙ any_blocks s h z (handed position b ∷ [])

-- so that no step from it refuses, but for the first
pub once_on : (s : Replay) (position : ℕ) (b : List ℕ) → s.place ≡ 0 → OnceOn s position b
once_on s position b z e = by (in_limits s) refl
  where
    by : (t : Bool) → in_limits s ≡ t → (step_of s position b).says ≡ got e → number_in (through s position b) ≡ 0
    by true h f = ap number_in (one_block s position b h z)
    by false h f =
        let g : refused 5 0 ≡ got e = sym (ap (λ (t : Bool).
        (pick t (pick (eqb s.place 0) (opens s position (block_number b) (records_of b)) (goes_on s b (record_at b s.place))) (beyond s)).says) h)
        ∙ f in
        let y : ◌≡◌ {A = ℕ} 0 1 = cc in absurd (omega arith)

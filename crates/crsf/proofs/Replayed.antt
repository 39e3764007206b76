-- A block replayed: what is refused leaves all as it was; what is handed on is both images. Assumes nothing.
use Rattle.std.specs.Prelude.{Result, Ok, Err}
use Prim.Native.Nat.{ℕ, ◌<◌, ◌≤◌}
use mathlib.Core.Bool.{Bool, true, false, not}
use mathlib.Core.List.{List}
use mathlib.Core.Path.{◌≡◌, refl, ap, sym, ◌∙◌}
use native.Mathlib.Omega.{arith}
use lib.ListN.{length, get_or}
use lib.Seq.{sets}
use lib.Dec.{leb, eqb}
use borrow.Author.Tests.{le-ltb, lt-ltb, eqb-true}
use Rattle.codec.specs.Pick.{pick}
use Rattle.codec.specs.Sheet.{Answer, got, refused, and_then}
use Rattle.codec.specs.Refusals.{refusal_number}
use Rattle.codec.specs.declared.refusal.Refusal.{Refusal}
use Rattle.images.specs.Word.{word}
use Rattle.replay.specs.Step.{step_of, after_step, StepIs}
use Rattle.replay.specs.declared.Event.{Event}
use Rattle.replay.specs.declared.Replay.{Replay}
use Rattle.replay.specs.declared.Step.{Step}
use Rattle.replay.proofs.Cases.{step-some}
use Rattle.replay_images.specs.State.{state_image, state_at, state_from, told_state}
use Rattle.replay_images.specs.Event.{event_image}
use Rattle.crsf.specs.Handed.{image_word, image_left}
use Rattle.crsf.specs.Log.{HandedOn, handed_on, on_of, replayed, more, state_out, event_out, ReplaysOut}
use Rattle.codec.proofs.Outcomes.{gives_ok}
use Rattle.crsf.proofs.Handed.{turned_away}

-- the image of a state has its bytes
state-long : (s : List ℕ) (t : Replay) → state_from s ≡ got t → length s ≡ 7
state-long s t = by (eqb (length s) 7) refl
  where
    by : (b : Bool) → eqb (length s) 7 ≡ b → pick b (pick (leb (get_or s 0 0) 1) (got (state_at s)) (refused 5 0)) (refused 5 0) ≡ got t
        → length s ≡ 7
    by true e h = eqb-true (length s) 7 e
    by false e h = let z : ◌≡◌ {A = ℕ} 0 1 = cc in absurd (omega arith)

pub more_is : (s : Replay) → not (eqb s.place 0) ≡ more s
more_is s = by (eqb s.place 0)
  where
    by : (b : Bool) → not b ≡ pick b false true
    by true = refl
    by false = refl

module _ (position : ℕ) (block s e : List ℕ) where
  -- by what is handed on, or refused
  out_by : (a : Answer HandedOn) (n : ℕ) (s' e' : List ℕ) → replayed s position block (length e) ≡ a → n ≡ image_word a → s' ≡ image_left state_out a s
      → e' ≡ image_left event_out a e → ReplaysOut position block n s s' e e'
  out_by a n s' e' h f g k = record { word = rw h f; state = rw h g; event = rw h k }

  -- too short an event
  pub event-short : (n : ℕ) → length e < 80 → n ≡ word 3 0 0 → ReplaysOut position block n s s e e
  event-short n l h = out_by (refused 3 0) n s e (rw (lt-ltb (length e) 80 l)) h refl refl

  module _ (room : 80 ≤ length e) (w : (Result Replay Refusal)) (told : told_state w ≡ state_from s) where
    -- the image of no replay
    pub no-state : (why : Refusal) (n : ℕ) → w ≡ Err why → n ≡ word (refusal_number why) 0 0 → ReplaysOut position block n s s e e
    no-state why n f h =
        let g : state_from s ≡ refused (refusal_number why) 0 = sym told ∙ ap told_state f in
        out_by (refused (refusal_number why) 0) n s e (rw (le-ltb (length e) 80 room, g)) h refl refl

    module _ (t : Replay) (given : w ≡ Ok t) where
      from_is : state_from s ≡ got t
      from_is = sym told ∙ ap told_state given

      replayed_is : replayed s position block (length e) ≡ on_of (step_of t position block)
      replayed_is = rw (le-ltb (length e) 80 room, from_is)

      pub step-refused : (why : Refusal) (n : ℕ) → StepIs (step_of t position block) (Err why) → n ≡ word (refusal_number why) 0 0
          → ReplaysOut position block n s s e e
      step-refused why n f h =
          let g = turned_away (after_step (step_of t position block).state) (step_of t position block).says why (step-some t position block) f in
          out_by (refused (refusal_number why) 0) n s e
          (replayed_is ∙ ap (λ (a : Answer Event). and_then a (λ y. got (handed_on (step_of t position block).state y))) g) h refl refl

      pub replay_room : 7 ≤ length s
      replay_room = omega (arith, state-long s t from_is)

      pub step_taken : (x : Step) (s' e' : List ℕ) → StepIs (step_of t position block) (Ok x) → s' ≡ sets s 0 (state_image x.state)
          → e' ≡ sets e 0 (event_image (more x.state) x.event) → ReplaysOut position block 0 s s' e e'
      step_taken x s' e' f g h =
          let v = gives_ok (after_step (step_of t position block).state) (step_of t position block).says x f in
          let a : replayed s position block (length e) ≡ got (handed_on x.state x.event) =
          replayed_is
          ∙ ap (λ (u : Answer Event). and_then u (λ y. got (handed_on (step_of t position block).state y))) v.1.0
          ∙ ap (λ (y : Step). got (handed_on y.state y.event)) (sym v.1.1) in
          out_by (got (handed_on x.state x.event)) 0 s' e' a refl g h

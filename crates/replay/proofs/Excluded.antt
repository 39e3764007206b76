-- Document 01, "How tight the contracts are", of the replay: the empty programs that the contract of `next` excludes. Each is asked to meet
-- it at one sound block, of M1 twice, and nowhere else. `Post` is the contract as the check reads it from the source, and no copy of it.
-- Assumes nothing.
use Rattle.std.specs.Prelude.{Result, Ok, Err}
use Rattle.codec.specs.declared.refusal.Refusal.{Refusal}
use Prim.Native.Nat.{ℕ}
use mathlib.Core.List.{List, [], ◌∷◌}
use mathlib.Core.Path.{◌≡◌, ap, sym, subst, ◌∙◌}
use native.Mathlib.Omega.{arith}
use contract.Lifetimes.{Lfts}
use borrow.Fn.Kinds.{Dens, ended_of}
use denote.Triple.Clauses.{AtExit}
use Rattle.codec.specs.Sheet.{Answer, got}
use Rattle.commands.specs.Reading.{read_command}
use Rattle.commands.specs.declared.DirectCommands.{DirectCommands}
use Rattle.commands.proofs.Examples.{disarm, m1, m1_read}
use Rattle.blocks.specs.Block.{block_number, Record, records_of}
use Rattle.blocks.specs.Walk.{Standing}
use Rattle.blocks.specs.Laid.{block_of, placed_from}
use Rattle.blocks.proofs.Laid.{laid-sound}
use Rattle.blocks.proofs.Walks.{sound_walks}
use Rattle.replay.specs.Events.{record_event}
use Rattle.replay.specs.Step.{new_replay, sound, Stepped, step, opens, goes_on, step_of, blank_event, StepIs}
use Rattle.replay.specs.declared.Event.{Event}
use Rattle.replay.specs.declared.Kind.{Kind}
use Rattle.replay.specs.declared.Kind.TheVariants.{Nothing, Command, Refused, Damaged, Gap, Back}
use Rattle.replay.specs.declared.Replay.{Replay}
use Rattle.replay.specs.declared.Step.{Step}
use Rattle.replay.proofs.AnyBlocks.{step-inside}
use Rattle.replay.proofs.Replay.next.Reads as next
use Rattle.replay.proofs.Replay.next.Kinds as next-kinds

-- two records, M1 each: at places 6 and 12
abbrev two : List Record
two = placed_from 6 (m1 ∷ m1 ∷ [])

-- THE block that has just these
abbrev pub twice : List ℕ
twice = block_of 0 (m1 ∷ m1 ∷ [])

twice-sound : records_of twice ≡ got two
twice-sound = laid-sound 0 (m1 ∷ m1 ∷ []) (omega arith) ((omega arith, omega arith), ((omega arith, omega arith), tt)) (omega arith)

-- M1, handed on
abbrev disarmed : ℕ → ℕ → Event
disarmed n at = record_event n at (got disarm)

-- what an answer says, nothing where it refuses; and the state that it leaves, which then is the one that was handed in
abbrev pub said : Result Step Refusal → Event
said (Ok x) = x.event
said (Err r) = blank_event

abbrev pub left : Replay → Result Step Refusal → Replay
left s (Ok x) = x.state
left s (Err r) = s

came : (x : Result Step Refusal) (s : Replay) (e : Event) → StepIs (step s e) x → (left new_replay x ≡ s) × (said x ≡ e)
came (Ok x) s e h = (ap (λ (y : Step). y.state) h, ap (λ (y : Step). y.event) h)
came (Err r) s e h = absurd h

-- kinds told apart
abbrev kind_number : Kind → ℕ
kind_number Nothing = 0
kind_number Command = 1
kind_number Refused = 2
kind_number Damaged = 3
kind_number Gap = 4
kind_number Back = 5

module _ (κs : Lfts 1) where
  -- the contract of `next` allows, for a state, a position and a block, this answer
  abbrev pub Answers : Replay → ℕ → List ℕ → Result Step Refusal → Type 0
  Answers s position b x =
      (a : Dens κs next-kinds.ps) × ((t : AtExit (ended_of 1 next-kinds.ps next-kinds.r) κs)
      × ((a.0 ≡ s) × ((a.1.0 ≡ position) × ((a.1.1.0.now ≡ b) × next.Post κs a x t))))

  answers : (s : Replay) (position : ℕ) (b : List ℕ) (x : Result Step Refusal) → Answers s position b x → StepIs (step_of s position b) x
  answers s position b x (a, (t, (e, (f, (g, m))))) =
      subst (λ (c : List ℕ). StepIs (step_of s position c) x) g
      (subst (λ (n : ℕ). StepIs (step_of s n a.1.1.0.now) x) f
      (subst (λ (r : Replay). StepIs (step_of r a.1.0 a.1.1.0.now) x) e m))

  -- ---- both steps of any block with these records
  module _ (position : ℕ) (b : List ℕ) (holds : records_of b ≡ got two) where
    first : (x : Result Step Refusal) → Answers new_replay position b x → (left new_replay x ≡ sound (block_number b) 12) × (said x ≡ disarmed (block_number b) 6)
    first x h =
        let n = block_number b in
        let e : step_of new_replay position b ≡ step (sound n 12) (disarmed n 6) =
        ap (λ (a : Answer (List Record)). opens new_replay position n a) holds
        ∙ ap (λ (a : Answer DirectCommands). step (sound n 12) (record_event n 6 a)) m1_read in
        let g = subst (λ (t : Stepped). StepIs t x) e (answers new_replay position b x h) in
        came x (sound n 12) (disarmed n 6) g

    second : (x : Result Step Refusal) → Answers (sound (block_number b) 12) position b x → said x ≡ disarmed (block_number b) 12
    second x h =
        let n = block_number b in
        let w = (sound_walks b two holds).1.1.1.1.1 in
        let e : step_of (sound n 12) position b ≡ step (sound n 0) (disarmed n 12) =
        step-inside n 12 position b (omega arith) (omega arith)
        ∙ ap (λ (a : Answer Standing). goes_on (sound n 12) b a) w.1.0
        ∙ ap (λ (p : List ℕ). step (sound n 0) (record_event n 12 (read_command p))) w.1.1.0
        ∙ ap (λ (a : Answer DirectCommands). step (sound n 0) (record_event n 12 a)) m1_read in
        (came x (sound n 0) (disarmed n 12) (subst (λ (t : Stepped). StepIs t x) e (answers (sound n 12) position b x h))).1

    kind-first : (x : Result Step Refusal) → Answers new_replay position b x → kind_number (said x).kind ≡ 1
    kind-first x h = ap (λ (e : Event). kind_number e.kind) (first x h).1

    place_after_lem : (x : Result Step Refusal) → Answers new_replay position b x → (left new_replay x).place ≡ 12
    place_after_lem x h = ap (λ (s : Replay). s.place) (first x h).0

    places : (x y : Result Step Refusal) → Answers new_replay position b x → Answers (left new_replay x) position b y → ((said x).place ≡ 6) × ((said y).place ≡ 12)
    places x y h g =
        let f = first x h in
        let z = second y (subst (λ (s : Replay). Answers s position b y) f.0 g) in
        (ap (λ (e : Event). e.place) f.1, ap (λ (e : Event). e.place) z)

  kind_is : (position : ℕ) (x : Result Step Refusal) (k : Kind) → (said x).kind ≡ k → Answers new_replay position twice x → kind_number k ≡ 1
  kind_is position x k says h = ap kind_number (sym says) ∙ kind-first position twice twice-sound x h

  -- ---- nothing handed on: every step says `Nothing`
  pub hands_nothing : (position : ℕ) (x : Result Step Refusal) → (said x).kind ≡ Nothing → Answers new_replay position twice x → ⊥
  hands_nothing position x says h = let e = kind_is position x Nothing says h in omega arith

  -- ---- every block damaged
  pub all_damaged : (position : ℕ) (x : Result Step Refusal) → (said x).kind ≡ Damaged → Answers new_replay position twice x → ⊥
  all_damaged position x says h = let e = kind_is position x Damaged says h in omega arith

  -- ---- only the first record of a block: behind it a new one is to come
  pub first-only : (position : ℕ) (x : Result Step Refusal) → (left new_replay x).place ≡ 0 → Answers new_replay position twice x → ⊥
  first-only position x ends h =
      let e = place_after_lem position twice twice-sound x h in
      omega arith

  -- ---- the same event again and again
  pub first_again : (position : ℕ) (x y : Result Step Refusal) → said x ≡ (said y)
      → Answers new_replay position twice x → Answers (left new_replay x) position twice y → ⊥
  first_again position x y same h g =
      let e = places position twice twice-sound x y h g in
      let f = ap (λ (e : Event). e.place) same in
      omega (arith, e.0, e.1, f)

-- Wrong answers that the contract of `crsf_replay` rules out: the definition that it names, worked out for an input where the wrong answer
-- would be another. That no other answer is allowed there is in OneAnswerLog.antt. Assumes nothing.
use Prim.Native.Nat.{ℕ}
use mathlib.Core.List.{List, [], ◌∷◌, ◌++◌}
use mathlib.Core.Path.{◌≡◌, refl, ap, ◌∙◌}
use native.Mathlib.Omega.{arith}
use lib.ListN.{replicate}
use Rattle.codec.specs.Sheet.{Answer, got, refused}
use Rattle.commands.specs.Command.{blank_command}
use Rattle.commands.specs.Reading.{read_command}
use Rattle.commands.specs.declared.DirectCommands.{DirectCommands}
use Rattle.commands.proofs.Examples.{disarm, m1, m1_read}
use Rattle.blocks.specs.Block.{block_number, Record, records_of}
use Rattle.blocks.specs.Laid.{block_of}
use Rattle.blocks.proofs.Laid.{laid-sound, laid-number}
use Rattle.images.specs.Values.{payload_laid}
use Rattle.images.specs.Record.{record_image}
use Rattle.replay.specs.Events.{record_event, damaged_event}
use Rattle.replay.specs.Step.{new_replay, sound, step, opens, step_of}
use Rattle.crsf.specs.Log.{ReplaysOut}

-- a slice of n bytes
abbrev room : ℕ → List ℕ
room n = replicate n 7

-- a refusal changes no byte
abbrev Refuses : ℕ → List ℕ → List ℕ → Type 0
Refuses n s e = (position : ℕ) (block : List ℕ) → ReplaysOut position block n s s e e

-- an event of 79 bytes is 3, before the 5 of what is no replay
pub event_79 : Refuses 3 [] (room 79)
event_79 position block = record { word = refl; state = refl; event = refl }

-- a replay of 8 bytes, and one whose started is 2
pub replay_8 : Refuses 5 (replicate 8 0) (room 80)
replay_8 position block = record { word = refl; state = refl; event = refl }

pub replay_started_2 : Refuses 5 (2 ∷ replicate 6 0) (room 80)
replay_started_2 position block = record { word = refl; state = refl; event = refl }

-- one beyond its limits: a place of 5
pub replay_place_5 : Refuses 5 (1 ∷ 0 ∷ 0 ∷ 0 ∷ 3 ∷ 0 ∷ 5 ∷ []) (room 80)
replay_place_5 position block = record { word = refl; state = refl; event = refl }

-- a damaged block: it goes by the caller's position, and has one event; a new replay stays new; the byte behind the event keeps its own
pub damaged_by_position : (b : List ℕ) → records_of b ≡ refused 9 0
    → ReplaysOut 0x0102 b 0 (replicate 7 0) (replicate 7 0) (room 81)
    (3 ∷ 0 ∷ 0 ∷ 0 ∷ 1 ∷ 2 ∷ 0 ∷ 0 ∷ 9 ∷ 0 ∷ (record_image blank_command ++ 7 ∷ []))
unfolding payload_laid
damaged_by_position b e =
    let h : step_of new_replay 0x0102 b ≡ step new_replay (damaged_event 0x0102 9) =
    ap (λ (a : Answer (List Record)). opens new_replay 0x0102 (block_number b) a) e in
    record { word = rw h refl; state = rw h refl; event = rw h refl }

-- a block of M1 twice: there is more behind the first, whose place is 6; the state is started, of block 0, and at place 12
abbrev twice : List ℕ
twice = block_of 0 (m1 ∷ m1 ∷ [])

twice-first : (position : ℕ) → step_of new_replay position twice ≡ step (sound 0 12) (record_event 0 6 (got disarm))
twice-first position =
    ap (λ (a : Answer (List Record)). opens new_replay position (block_number twice) a)
    (laid-sound 0 (m1 ∷ m1 ∷ []) (omega arith) ((omega arith, omega arith), ((omega arith, omega arith), tt)) (omega arith))
    ∙ ap (λ (n : ℕ). step (sound n 12) (record_event n 6 (read_command m1)))
    (laid-number 0 (m1 ∷ m1 ∷ []) (omega arith) ((omega arith, omega arith), ((omega arith, omega arith), tt)) (omega arith))
    ∙ ap (λ (a : Answer DirectCommands). step (sound 0 12) (record_event 0 6 a)) m1_read

pub more_behind_first : (position : ℕ) → ReplaysOut position twice 0 (replicate 7 0) (1 ∷ 0 ∷ 0 ∷ 0 ∷ 0 ∷ 0 ∷ 12 ∷ []) (room 80)
    (1 ∷ 1 ∷ 0 ∷ 0 ∷ 0 ∷ 0 ∷ 0 ∷ 6 ∷ 0 ∷ 0 ∷ record_image disarm)
unfolding payload_laid
more_behind_first position =
    let h = twice-first position in
    record { word = rw h refl; state = rw h refl; event = rw h refl }

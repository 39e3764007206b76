-- Wrong answers that the contracts of the public functions rule out: the definition that the contract names, worked out for an input
-- where the wrong answer would be another. That no other answer is allowed there is in OneAnswer.antt. Assumes nothing.
use Prim.Native.Nat.{ℕ, ◌<◌}
use mathlib.Core.Bool.{false}
use mathlib.Core.List.{List, [], ◌∷◌}
use mathlib.Core.Path.{◌≡◌, refl, ap, ◌∙◌}
use native.Mathlib.Omega.{arith}
use lib.Dec.{lit<}
use Rattle.codec.specs.Sheet.{Answer, got, refused}
use Rattle.commands.specs.Reading.{read_command}
use Rattle.commands.specs.declared.DirectCommands.{DirectCommands}
use Rattle.commands.proofs.Examples.{disarm, m1, m1_read}
use Rattle.blocks.specs.Block.{block_number, Record, records_of}
use Rattle.blocks.specs.Walk.{Standing}
use Rattle.blocks.specs.Laid.{block_of, placed_from}
use Rattle.blocks.proofs.Laid.{laid-sound, laid-number}
use Rattle.blocks.proofs.RuledOut.{two_records, first_of_two, behind-used}
use Rattle.replay.specs.Events.{record_event, damaged_event, gap_event, back_event, nothing_event}
use Rattle.replay.specs.Log.{Before, none, after, ordered}
use Rattle.replay.specs.Step.{new_replay, sound, before_of, step, beyond, entering, opens, goes_on, step_of}
use Rattle.replay.specs.Through.{between}
use Rattle.replay.specs.declared.Replay.{Replay}
use Rattle.replay.proofs.AnyBlocks.{step-between, before-between, step-inside}

-- ---- Replay::new
-- no sound block has come, not even one of number 0
pub new-unstarted : before_of new_replay ≡ none
new-unstarted = refl

-- a new block is to come
pub new-between : new_replay.place ≡ 0
new-between = refl

-- ---- Replay::next: a new block
-- block n, with M1 and no other record
abbrev block : ℕ → List ℕ
block n = block_of n (m1 ∷ [])

abbrev only : List Record
only = placed_from 6 (m1 ∷ [])

opened : (l : Before) (position n : ℕ) → n < 4294967296 → step_of (between l) position (block n) ≡ entering (ordered l n) n only
opened l position n low =
    let s = between l in
    step-between l position (block n)
    ∙ ap (λ (a : Answer (List Record)). opens s position (block_number (block n)) a)
    (laid-sound n (m1 ∷ []) low ((omega arith, omega arith), tt) (omega arith))
    ∙ ap (λ (m : ℕ). opens s position m (got only)) (laid-number n (m1 ∷ []) low ((omega arith, omega arith), tt) (omega arith))
    ∙ ap (λ (k : Before). entering (ordered k n) n only) (before-between l)

in_order : (n : ℕ) → entering [] n only ≡ step (sound n 0) (record_event n 6 (got disarm))
in_order n = ap (λ (a : Answer DirectCommands). step (sound n 0) (record_event n 6 a)) m1_read

-- the first one is not reported, and nor is the next one. A record's place is that of its length byte, and not its payload's 7
pub first_silent : (position : ℕ) → step_of new_replay position (block 7) ≡ step (sound 7 0) (record_event 7 6 (got disarm))
first_silent position = opened none position 7 (lit< tt) ∙ in_order 7

pub next_silent : (position : ℕ) → step_of (sound 6 0) position (block 7) ≡ step (sound 7 0) (record_event 7 6 (got disarm))
next_silent position = opened (after 6) position 7 (lit< tt) ∙ in_order 7

-- an equal number is not in order; its records come next, and are not skipped
pub equal_back : (position : ℕ) → step_of (sound 7 0) position (block 7) ≡ step (sound 7 6) (back_event 7)
equal_back position = opened (after 7) position 7 (lit< tt)

-- a higher one is a gap, and no step back; its records come next
pub gap_then_records : (position : ℕ) → step_of (sound 5 0) position (block 7) ≡ step (sound 7 6) (gap_event 7)
gap_then_records position = opened (after 5) position 7 (lit< tt)

-- 0 is not one above the highest number
pub highest_then_0 : (position : ℕ) → step_of (sound 4294967295 0) position (block 0) ≡ step (sound 0 6) (back_event 0)
highest_then_0 position = opened (after 4294967295) position 0 (lit< tt)

-- a block of no records, in order: nothing is told of it but its number
pub no-records : (position : ℕ) → step_of (sound 6 0) position (block_of 7 []) ≡ step (sound 7 0) (nothing_event 7)
no-records position =
    step-between (after 6) position (block_of 7 [])
    ∙ ap (λ (a : Answer (List Record)). opens (sound 6 0) position (block_number (block_of 7 [])) a) (laid-sound 7 [] (lit< tt) tt (omega arith))
    ∙ ap (λ (m : ℕ). opens (sound 6 0) position m (got [])) (laid-number 7 [] (lit< tt) tt (omega arith))

-- a damaged block goes by its position, and its number is not remembered: the state stays, started or not
pub damaged_stays : (l : Before) (position k p : ℕ) (b : List ℕ) → records_of b ≡ refused k p
    → step_of (between l) position b ≡ step (between l) (damaged_event position k)
damaged_stays l position k p b e =
    step-between l position b ∙ ap (λ (a : Answer (List Record)). opens (between l) position (block_number b) a) e

-- ---- Replay::next: a block that goes on
-- another block, of number 7, whatever its check: its record and its number, and the replay keeps its own
pub another_block : (position check : ℕ) → step_of (sound 3 6) position (two_records check)
    ≡ step (sound 3 11) (record_event 7 6 (read_command (1 ∷ 2 ∷ 3 ∷ 4 ∷ [])))
another_block position check =
    step-inside 3 6 position (two_records check) (omega arith) (omega arith)
    ∙ ap (λ (a : Answer Standing). goes_on (sound 3 6) (two_records check) a) (first_of_two check)

-- ---- Replay::next: 5, and the state as it was
-- no record stands at its place
pub none_there : (position check : ℕ) → step_of (sound 3 16) position (two_records check) ≡ beyond (sound 3 16)
none_there position check =
    step-inside 3 16 position (two_records check) (omega arith) (omega arith)
    ∙ ap (λ (a : Answer Standing). goes_on (sound 3 16) (two_records check) a) (behind-used check)

-- a place below 6 or above 511, whatever the block
pub place_5 : (position : ℕ) (b : List ℕ) → step_of (sound 3 5) position b ≡ beyond (sound 3 5)
place_5 position b = refl

pub place_512 : (position : ℕ) (b : List ℕ) → step_of (sound 3 512) position b ≡ beyond (sound 3 512)
place_512 position b = refl

-- not started, and a number or a place
abbrev unstarted : ℕ → ℕ → Replay
unstarted n at = record { started = false; number = n; place = at }

pub number-unstarted : (position : ℕ) (b : List ℕ) → step_of (unstarted 3 0) position b ≡ beyond (unstarted 3 0)
number-unstarted position b = refl

pub place-unstarted : (position : ℕ) (b : List ℕ) → step_of (unstarted 0 6) position b ≡ beyond (unstarted 0 6)
place-unstarted position b = refl

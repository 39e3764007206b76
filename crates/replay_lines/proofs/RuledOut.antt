-- Wrong answers that the contracts of the public functions rule out: the definition that the contract names, worked out for an input
-- where the wrong answer would be another. That no other answer is allowed there is in OneAnswer.antt. Assumes nothing.
use Rattle.std.specs.Prelude.{Err}
use Prim.Native.Nat.{ℕ}
use mathlib.Core.Bool.{Bool, false}
use mathlib.Core.List.{List, [], ◌∷◌}
use mathlib.Core.Path.{◌≡◌, refl, ap, ◌∙◌}
use native.Mathlib.Omega.{arith}
use borrow.Author.Tests.{lt-ltb}
use lib.ListN.{length, replicate}
use Rattle.codec.specs.Pick.{pick}
use Rattle.codec.specs.Sheet.{Answer, refused}
use Rattle.codec.specs.Told.{WritesAll}
use Rattle.codec.specs.declared.refusal.Refusal.TheVariants.{BufferOverflow}
use Rattle.commands.specs.Reading.{read_command}
use Rattle.commands.specs.declared.DirectCommands.{DirectCommands}
use Rattle.commands.proofs.Laid.{payload-length}
use Rattle.commands.proofs.Examples.{frequency, m3, m3_read}
use Rattle.blocks.specs.Block.{records_of}
use Rattle.replay.specs.Events.{record_event, nothing_event}
use Rattle.replay.specs.Step.{new_replay, sound}
use Rattle.replay.specs.Through.{through}
use Rattle.replay.specs.declared.Replay.{Replay}
use Rattle.replay_lines.specs.Lines.{listed, text_in, state_after}
use Rattle.replay_lines.specs.Text.{text_of, read_text, end_text}

-- ---- list_block (and must-fail/line_over_line, first_line_alone, state_stays, number_first, back_for_gap, block_for_place, one_id,
-- place_for_length, number_twice, room_for_101, untried)
-- a damaged block is named by its position, then its number: "damaged 7 1", of one that is not 512 bytes
pub block_damaged : text_in (through new_replay 7 []) ≡ 100 ∷ 97 ∷ 109 ∷ 97 ∷ 103 ∷ 101 ∷ 100 ∷ 32 ∷ 55 ∷ 32 ∷ 49 ∷ 10 ∷ []
unfolding records_of
block_damaged = refl

-- and it is skipped: the block after it comes after the sound one before it
pub block-skipped : state_after new_replay (through (sound 5 0) 7 []) ≡ sound 5 0
unfolding records_of
block-skipped = refl

-- a command has its block before its place, its id in two digits and its written length: "12 6 read 08 7", of M3
pub block_read : text_of (record_event 12 6 (read_command m3))
    ≡ 49 ∷ 50 ∷ 32 ∷ 54 ∷ 32 ∷ 114 ∷ 101 ∷ 97 ∷ 100 ∷ 32 ∷ 48 ∷ 56 ∷ 32 ∷ 55 ∷ 10 ∷ []
block_read =
    ap (λ (a : Answer DirectCommands). text_of (record_event 12 6 a)) m3_read
    ∙ ap (λ (n : ℕ). read_text 12 6 8 n) (payload-length (frequency 5800))

-- a refused record has the reader's number before the payload's place: "12 6 refused 2 3"
pub block_refused : text_of (record_event 12 6 (refused 2 3))
    ≡ 49 ∷ 50 ∷ 32 ∷ 54 ∷ 32 ∷ 114 ∷ 101 ∷ 102 ∷ 117 ∷ 115 ∷ 101 ∷ 100 ∷ 32 ∷ 50 ∷ 32 ∷ 51 ∷ 10 ∷ []
block_refused = refl

-- a block in order without records has no line
pub block_silent : text_of (nothing_event 12) ≡ []
block_silent = refl

-- less room than any block needs is 3, before all else: one byte less
pub block_no_room : (s : Replay) (position : ℕ) (b t : List ℕ) → length t ≡ 6527 → listed s position b t ≡ refused 3 0
unfolding listed
block_no_room s position b t h = ap (λ (z : Bool). pick z (refused 3 0) (through s position b)) (lt-ltb (length t) 6528 (omega arith))

-- a state beyond its limits is 5: not started, and a number
pub block-beyond : through (record { started = false; number = 7; place = 0 }) 0 [] ≡ refused 5 0
block-beyond = refl

-- ---- put_end (and must-fail/end_in_capitals)
-- "end 10"
pub end_counts : end_text 10 ≡ 101 ∷ 110 ∷ 100 ∷ 32 ∷ 49 ∷ 48 ∷ 10 ∷ []
end_counts = refl

-- no line is half written: "end 0" and its end are 6 bytes
pub end_no_room : WritesAll (end_text 0) (Err BufferOverflow) (replicate 5 7) (replicate 5 7)
end_no_room = (refl, refl)

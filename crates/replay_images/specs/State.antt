-- The C boundary's image of a replay, the state kept between events (include/crsf.h). Assumes nothing.
use Rattle.std.specs.Prelude.{Result, Ok, Err}
use Rattle.codec.specs.declared.refusal.Refusal.{Refusal}
use Rattle.std.specs.Prelude.{ℕ, List, ◌∷◌, ◌++◌, length, take, drop, get_or, leb, eqb}
use Rattle.codec.specs.Pick.{pick}
use Rattle.codec.specs.Digits.{number_of, bytes_of}
use Rattle.codec.specs.Sheet.{Answer, got, refused}
use Rattle.codec.specs.Refusals.{refusal_number}
use Rattle.codec.specs.Told.{bit}
use Rattle.replay.specs.declared.Replay.{Replay}

-- 7 bytes: started (1, 0 or 1); number of the last sound block (4); place of the next record's length byte (2)
abbrev pub state_image : Replay → List ℕ
state_image s = bit s.started ∷ (bytes_of 4 s.number ++ bytes_of 2 s.place)

-- AN IMAGE HANDED IN: each part at its place
abbrev pub state_at : List ℕ → Replay
state_at s = record { started = eqb (get_or s 0 0) 1; number = number_of (take 4 (drop 1 s)); place = number_of (take 2 (drop 5 s)) }

-- another length is 5, and so is a flag out of range
abbrev pub state_from : List ℕ → Answer Replay
state_from s = pick (eqb (length s) 7) (pick (leb (get_or s 0 0) 1) (got (state_at s)) (refused 5 0)) (refused 5 0)

-- what an answer tells
abbrev pub told_state : (Result Replay Refusal) → Answer Replay
told_state (Ok s) = got s
told_state (Err r) = refused (refusal_number r) 0

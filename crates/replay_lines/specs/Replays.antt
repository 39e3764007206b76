-- A log handed in block by block, at positions from 0, and its text. Assumes nothing.
use Rattle.std.specs.Prelude.{ℕ, suc, List, [], ◌∷◌, ◌++◌, ◌≡◌, length}
use Rattle.replay.specs.Log.{Handed, handed, none, events_of, log_events}
use Rattle.replay.specs.Step.{before_of}
use Rattle.replay.specs.Through.{between, last_of}
use Rattle.replay.specs.declared.Replay.{Replay}
use Rattle.replay_lines.specs.Text.{text_of_all}

-- blocks at positions from one on
abbrev pub placed : ℕ → List (List ℕ) → List Handed
placed k [] = []
placed k (b ∷ bs) = handed k b ∷ placed (suc k) bs

-- THE text of a log's events
abbrev pub log_text : List (List ℕ) → List ℕ
log_text bs = text_of_all (log_events (placed 0 bs))

-- the text of a block's events, and the state behind it
abbrev pub block_text : Replay → ℕ → List ℕ → List ℕ
block_text s position b = text_of_all (events_of (before_of s) (handed position b ∷ []))

abbrev pub behind_block : Replay → ℕ → List ℕ → Replay
behind_block s position b = between (last_of (before_of s) (handed position b ∷ []))

-- the texts of blocks one after the other, each after the state behind those before it
abbrev pub block_texts : Replay → ℕ → List (List ℕ) → List ℕ
block_texts s k [] = []
block_texts s k (b ∷ bs) = block_text s k b ++ block_texts (behind_block s k b) (suc k) bs

-- a state after so many blocks, whatever they held
pub record After (k : ℕ) (s : Replay) : Type 0 where
  pub blocks : List (List ℕ)
  pub count : length blocks ≡ k
  pub state : s ≡ between (last_of none (placed 0 blocks))

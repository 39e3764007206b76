-- The lines of a block's events. Assumes nothing.
use Rattle.std.specs.Prelude.{Result, ℕ, ◌+◌, ◌*◌, ◌≤◌, List, [], ◌≡◌, length, ltb}
use Rattle.std.proofs.lemmas.List.Edits.{sets}
use Rattle.codec.specs.Pick.{pick}
use Rattle.codec.specs.Sheet.{Answer, got, refused}
use Rattle.codec.specs.Refusals.{Gives, number_in, value_in}
use Rattle.codec.specs.declared.refusal.Refusal.{Refusal}
use Rattle.text.specs.Putting.{PutsBehind}
use Rattle.replay.specs.Step.{Stepped, blank_event, step_of}
use Rattle.replay.specs.Through.{Replayed, replayed, through}
use Rattle.replay.specs.declared.Event.{Event}
use Rattle.replay.specs.declared.Replay.{Replay}
use Rattle.replay_lines.specs.Text.{longest_text, text_of, text_of_all}
use Rattle.replay_lines.specs.declared.Lines.{Lines}

-- what any block's events need: "used bytes (2, at most 505)" hold at most 101 records of 5 bytes and more, and one line comes before them
-- (proofs/Stepping.antt)
abbrev pub most_text : ℕ
most_text = longest_text * 102

-- the events of a block from a state on, in a text t. Less room than any block needs is 3, before all else; a state beyond its limits, or at
-- a place from which the block does not go on, is 5.
unfoldable pub listed : Replay → ℕ → List ℕ → List ℕ → Answer Replayed
listed s position b t = pick (ltb (length t) most_text) (refused 3 0) (through s position b)

-- their text; with a number there is none, and the state is as it was
abbrev pub text_in : Answer Replayed → List ℕ
text_in (got (replayed es s)) = text_of_all es
text_in (refused n p) = []

abbrev pub state_after : Replay → Answer Replayed → Replay
state_after s (got (replayed es s')) = s'
state_after s (refused n p) = s

-- the state after them and the length that go with it, from a state s on
abbrev pub lines_of : Replay → Replayed → Lines
lines_of s x = record { state = state_after s (got x); len = length (text_in (got x)) }

-- LISTING what comes of a state s, in the text t, answers r and leaves t': the text at the front, and the rest keeps its bytes; where it is
-- refused, all of t does, and the state stays with the caller as it was
pub record Lists (s : Replay) (a : Answer Replayed) (r : Result Lines Refusal) (t t' : List ℕ) : Type 0 where
  pub gives : Gives (lines_of s) a r
  pub fits : length (text_in a) ≤ length t
  pub leaves : t' ≡ sets t 0 (text_in a)

-- the events of the block b: all of t is their room
abbrev pub ListsBlock : Replay → ℕ → List ℕ → Result Lines Refusal → List ℕ → List ℕ → Type 0
ListsBlock s position b r t t' = Lists s (listed s position b t) r t t'

-- ---- For contracts of private functions, nobody has to believe what follows.
-- where the first step does not refuse, none does
abbrev pub OnceOn : Replay → ℕ → List ℕ → Type 0
OnceOn s position b = (e : Event) → (step_of s position b).says ≡ got e → number_in (through s position b) ≡ 0

-- a text put behind the text that waits, and no longer than any
pub record PutsText (w : List ℕ) (at r : ℕ) (t t' : List ℕ) : Type 0 where
  pub put : PutsBehind w at r t t'
  pub longest : length w ≤ longest_text

-- a step's text, and the state after it
abbrev pub step_text : Stepped → List ℕ
step_text x = text_of (value_in blank_event x.says)

abbrev pub behind_step : Stepped → ℕ → Event → Lines
behind_step x len e = record { state = x.state; len = len }

pub record PutsStep (x : Stepped) (at : ℕ) (r : Result Lines Refusal) (t t' : List ℕ) : Type 0 where
  pub put : ℕ
  pub gives : Gives (behind_step x (at + put)) x.says r
  pub puts : PutsText (step_text x) at put t t'

-- A chunk's lines as text, in parts: each has as many lines as a lent text has room for. Assumes nothing.
use Rattle.std.specs.Prelude.{ℕ, zero, suc, ◌-◌, ◌≤◌, ◌<◌, Bool, true, false, List, [], ◌∷◌, ◌++◌, map, ◌≡◌, length, ltb, Result, Ok, Err}
use Rattle.std.proofs.lemmas.List.Edits.{sets}
use Rattle.codec.specs.Pick.{pick}
use Rattle.codec.specs.Sheet.{Answer, got, refused}
use Rattle.codec.specs.Refusals.{refusal_number, value_in}
use Rattle.codec.specs.declared.refusal.Refusal.{Refusal}
use Rattle.listing.specs.Text.{longest_text, text_of}
use Rattle.listing.specs.Step.{step_of, closing}
use Rattle.listing.specs.Chunks.{lines_in, state_in, chunk, joined}
use Rattle.listing.specs.declared.line.Line.{Line}
use Rattle.listing.specs.declared.Listing.{Listing}
use Rattle.listing.specs.declared.Stop.{Stop}
use Rattle.listing.specs.declared.Stop.TheVariants.{Used, Full}
use Rattle.listing.specs.declared.Part.{Part}

-- whether the chunk is used up, or a number
abbrev pub told_stop : Result Stop Refusal → Answer Bool
told_stop (Ok Used) = got true
told_stop (Ok Full) = got false
told_stop (Err r) = refused (refusal_number r) 0

-- a part: its text, the state and the place behind it, and whether the chunk is used up
pub record Filled : Type 0 where
  pub text : List ℕ
  pub state : Listing
  pub at : ℕ
  pub used : Answer Bool

abbrev pub nothing : Listing → ℕ → Answer Bool → Filled
nothing s at u = record { text = []; state = s; at = at; used = u }

abbrev pub behind : List ℕ → Filled → Filled
behind w f = record { text = w ++ f.text; state = f.state; at = f.at; used = f.used }

-- by what a step says: its line, or that there is none
abbrev pub by_line : {A : Type 0} → Answer (List Line) → (Line → A) → (Answer Bool → A) → A
by_line (got []) line none = none (got true)
by_line (got (l ∷ ls)) line none = line l
by_line (refused n p) line none = none (refused n p)

-- line by line: one whose text has no room is left to the next part. (No text is empty, so the room bounds the lines.)
abbrev pub fill_from : ℕ → Listing → List ℕ → ℕ → ℕ → Filled
fill_from zero s i at room = nothing s at (got false)
fill_from (suc most) s i at room =
    by_line (step_of s i at).says
    (λ l. pick (ltb room (length (text_of l))) (nothing s at (got false))
    (behind (text_of l) (fill_from most (step_of s i at).state i (step_of s i at).at (room - length (text_of l)))))
    (λ u. nothing (step_of s i at).state (step_of s i at).at u)

-- THE part from a place of a chunk on, with so much room
abbrev pub filled : Listing → List ℕ → ℕ → ℕ → Filled
filled s i at room = fill_from (suc room) s i at room

-- FILLING the text t with a part answers r and leaves t': behind the part's text the rest keeps its bytes
pub record Fills (f : Filled) (r : Part) (t t' : List ℕ) : Type 0 where
  pub state : r.state ≡ f.state
  pub place : r.at ≡ f.at
  pub count : r.len ≡ length f.text
  pub stop : told_stop r.stop ≡ f.used
  pub leaves : t' ≡ sets t 0 f.text

-- with THE part from a place of the chunk i on: all of t is its room
abbrev pub FillsFrom : Listing → List ℕ → ℕ → Part → List ℕ → List ℕ → Type 0
FillsFrom s i at r t t' = Fills (filled s i at (length t)) r t t'

-- a part that stops for want of room has moved on, in a text that holds the longest line
abbrev pub Moves : ℕ → List ℕ → Part → List ℕ → Type 0
Moves at i r t = longest_text ≤ length t → told_stop r.stop ≡ got false → (at < r.at) × (r.at ≤ length i)

-- the parts of a chunk one after the other, the k-th behind those before it
abbrev pub parts : ℕ → Listing → List ℕ → ℕ → Filled
parts room s i zero = nothing s 0 (got false)
parts room s i (suc k) = filled (parts room s i k).state i (parts room s i k).at room

abbrev pub text_of_parts : ℕ → Listing → List ℕ → ℕ → List ℕ
text_of_parts room s i zero = []
text_of_parts room s i (suc k) = text_of_parts room s i k ++ (parts room s i (suc k)).text

-- the text of lines; of those of a chunk, and of chunks; of what closes the listing
abbrev pub text_of_lines : List Line → List ℕ
text_of_lines ls = joined (map text_of ls)

abbrev pub text_of_chunk : Listing → List ℕ → List ℕ
text_of_chunk s i = text_of_lines (lines_in (chunk s i))

abbrev pub text_of_chunks : Listing → List (List ℕ) → List ℕ
text_of_chunks s [] = []
text_of_chunks s (c ∷ cs) = text_of_chunk s c ++ text_of_chunks (state_in (chunk s c)) cs

abbrev pub text_of_closing : Listing → List ℕ
text_of_closing s = text_of_lines (value_in [] (closing s))

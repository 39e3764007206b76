-- One step of the listing over a chunk, and the state that is kept between chunks. Assumes nothing.
use Rattle.std.specs.Prelude.{ℕ, ◌+◌, ◌-◌, Bool, false, List, [], ◌∷◌, ◌++◌, length, take, drop, get_or, replicate, ltb, leb, eqb, Option, Some, None, Result, Ok, Err}
use Rattle.std.proofs.lemmas.List.Edits.{sets}
use Rattle.codec.specs.Pick.{pick}
use Rattle.codec.specs.Sheet.{Answer, got, refused}
use Rattle.codec.specs.Refusals.{refusal_number}
use Rattle.codec.specs.declared.refusal.Refusal.{Refusal}
use Rattle.commands.specs.Reading.{read_command}
use Rattle.listing.specs.Listing.{line_of}
use Rattle.listing.specs.declared.line.Line.{Line}
use Rattle.listing.specs.declared.line.Line.TheVariants.{Cut, End}
use Rattle.listing.specs.declared.Listing.{Listing}
use Rattle.listing.specs.declared.Step.{Step}

-- what a step tells: the state after it, the place where the next goes on, and its lines, or a number
pub record Stepped : Type 0 where
  pub state : Listing
  pub at : ℕ
  pub says : Answer (List Line)

abbrev pub lines_of : Option Line → List Line
lines_of None = []
lines_of (Some l) = l ∷ []

abbrev pub told_step : Step → Stepped
told_step x = record { state = x.state; at = x.at; says = got (lines_of x.line) }

-- a refused one leaves the state and the place as they were
abbrev pub told_next : Listing → ℕ → Result Step Refusal → Stepped
told_next s at (Ok x) = told_step x
told_next s at (Err r) = record { state = s; at = at; says = refused (refusal_number r) 0 }

-- a count that can be raised is below this
abbrev pub most_records : ℕ
most_records = 18446744073709551615

-- what a length byte can say
abbrev pub longest_record : ℕ
longest_record = 255

-- a state's own limits: a count that can be raised; between records both numbers 0, else fewer bytes held than wanted
abbrev pub in_limits : Listing → Bool
in_limits s =
    pick (leb most_records s.count) false
    (pick (ltb longest_record s.wanted) false
    (pick (eqb s.wanted 0) (eqb s.held 0) (ltb s.held s.wanted)))

-- "The largest length is 60.": of a longer payload no byte matters
abbrev pub most_kept : ℕ
most_kept = 60

-- record k, of n payload bytes, none of which has come; n is 0 between records
abbrev pub opened : ℕ → ℕ → Listing
opened k n = record { count = k; wanted = n; held = 0; bytes = replicate most_kept 0 }

-- with more of its bytes
abbrev pub kept_with : Listing → List ℕ → Listing
kept_with s t = record {
  count = s.count;
  wanted = s.wanted;
  held = s.held + length t;
  bytes = pick (ltb most_kept s.wanted) s.bytes (sets s.bytes s.held t);
}

-- its line, with the last of its bytes
abbrev pub line_with : Listing → List ℕ → Line
line_with s t =
    line_of s.count (pick (ltb most_kept s.wanted) (refused 1 0) (read_command (take s.held s.bytes ++ t)))

-- a record that goes on at a place of a chunk: to its end, or to the chunk's
abbrev pub go_on : Listing → List ℕ → ℕ → Stepped
go_on s i at =
    pick (ltb (length i - at) (s.wanted - s.held))
    (record { state = kept_with s (drop at i); at = length i; says = got [] })
    (record {
      state = opened (s.count + 1) 0;
      at = at + (s.wanted - s.held);
      says = got (line_with s (take (s.wanted - s.held) (drop at i)) ∷ []);
    })

-- THE step. "A state handed in beyond its own limits .. is 5, before all else, and comes back as it was."
abbrev pub step_of : Listing → List ℕ → ℕ → Stepped
step_of s i at =
    pick (in_limits s)
    (pick (leb (length i) at) (record { state = s; at = at; says = got [] })
    (pick (eqb s.wanted 0) (go_on (opened s.count (get_or i at 0)) i (at + 1)) (go_on s i at)))
    (record { state = s; at = at; says = refused 5 0 })

-- the input has ended
abbrev pub closing : Listing → Answer (List Line)
closing s =
    pick (in_limits s)
    (pick (eqb s.wanted 0) (got (End s.count ∷ [])) (got (Cut s.count ∷ [])))
    (refused 5 0)

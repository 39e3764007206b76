-- Wrong answers that the contracts of the public functions rule out: the definition that the contract names, worked out for an input
-- where the wrong answer would be another. That no other answer is allowed there is in OneAnswer.antt. Assumes nothing.
use Rattle.std.specs.Prelude.{Err}
use Prim.Native.Nat.{ℕ}
use mathlib.Core.List.{[], ◌∷◌}
use mathlib.Core.Bool.{true, false}
use mathlib.Core.Path.{◌≡◌, refl}
use lib.ListN.{replicate}
use Rattle.codec.specs.Sheet.{got, refused}
use Rattle.codec.specs.Told.{WritesAll}
use Rattle.codec.specs.declared.refusal.Refusal.TheVariants.{BufferOverflow}
use Rattle.listing.specs.Text.{text_of}
use Rattle.listing.specs.Parts.{filled, nothing, behind}
use Rattle.listing.specs.Step.{opened, step_of, closing}
use Rattle.listing.specs.declared.line.Line.TheVariants.{Refused, Cut, End}
use Rattle.listing.specs.declared.Listing.{Listing}

-- ---- Listing::new
-- the count starts at 0
pub new-count : (opened 0 0).count ≡ 0
new-count = refl

-- and between records: an input that ends there is not cut
pub new-between : closing (opened 0 0) ≡ got (End 0 ∷ [])
new-between = refl

-- ---- Listing::next (and must-fail/count_stays)
-- record 3, of so many bytes, so many of which have come
abbrev inside : ℕ → ℕ → Listing
inside wanted held = record { count = 3; wanted = wanted; held = held; bytes = replicate 60 0 }

-- a record is not read across its end: one of no bytes ends behind its length byte
pub next-stops : (step_of (opened 0 0) (0 ∷ 5 ∷ []) 0).at ≡ 1
next-stops = refl

-- nor across the chunk's: two of its five bytes have come, and no line is given
pub next_waits : step_of (opened 3 0) (5 ∷ 8 ∷ 9 ∷ []) 0
    ≡ record { state = record { count = 3; wanted = 5; held = 2; bytes = 8 ∷ 9 ∷ replicate 58 0 }; at = 3; says = got [] }
next_waits = refl

-- a state beyond its limits is not mended: more bytes held than wanted
pub next-beyond : step_of (inside 5 6) (1 ∷ []) 0 ≡ record { state = inside 5 6; at = 0; says = refused 5 0 }
next-beyond = refl

-- ---- Listing::fill (and must-fail/line_over_line, line_skipped, line_twice, cut_forgotten)
-- "0 refused 1" and its end are 12 bytes: with room for 11 nothing of it is put, and its record is left to the next part
pub fill_no_room : filled (opened 0 0) (61 ∷ replicate 61 0) 0 11 ≡ nothing (opened 0 0) 0 (got false)
fill_no_room = refl

-- with room for 12 it is the part, and the chunk is used up
pub fill_all : filled (opened 0 0) (61 ∷ replicate 61 0) 0 12 ≡ behind (text_of (Refused 0 1)) (nothing (opened 1 0) 62 (got true))
fill_all = refl

-- a state beyond its limits is refused before the room is looked at
pub fill_beyond : filled (inside 5 6) (1 ∷ []) 0 0 ≡ nothing (inside 5 6) 0 (refused 5 0)
fill_beyond = refl

-- ---- Listing::finish
-- an input that stops inside a record does not end
pub finish_cut : closing (inside 5 2) ≡ got (Cut 3 ∷ [])
finish_cut = refl

-- a state beyond its limits has no line
pub finish_beyond : closing (inside 256 0) ≡ refused 5 0
finish_beyond = refl

-- ---- line::render (and must-fail/record_for_number, no_space)
-- no line is half written: "end 0" and its end are 6 bytes
pub render_no_room : WritesAll (text_of (End 0)) (Err BufferOverflow) (replicate 5 7) (replicate 5 7)
render_no_room = (refl, refl)

-- A part of a listing behind the text that is there. Assumes nothing.
use Prim.Native.Nat.{ℕ, ◌+◌, ◌-◌, ◌≤◌}
use mathlib.Core.List.{List}
use native.Mathlib.Omega.{arith}
use lib.ListN.{length, take, drop, length-take, length-drop}
use Rattle.listing.specs.Parts.{FillsFrom}
use Rattle.listing.specs.declared.Listing.{Listing}
use Rattle.listing.specs.declared.Part.{Part}
use Rattle.listing.proofs.Parts.{part-text}

pub part_fits : (s : Listing) (chunk : List ℕ) (r : Part) (len : ℕ) (t t' : List ℕ) → len ≤ length t
    → FillsFrom s chunk 0 r (take (length t - len) (drop len t)) t' → len + r.len ≤ length t
part_fits s chunk r len t t' h fills =
    let left = take (length t - len) (drop len t) in
    let fits = part-text s chunk 0 r left t' fills in
    let room : length left ≤ length t - len = simp (length-take, length-drop) (omega arith) in
    omega (arith, fits.0)

-- A turn of the loop over a chunk's parts. Assumes nothing.
use Rattle.std.specs.Prelude.{Ok}
use Prim.Native.Nat.{ℕ, suc, ◌+◌, ◌-◌, ◌<◌, ◌≤◌}
use mathlib.Core.Bool.{false}
use mathlib.Core.List.{List}
use mathlib.Core.Path.{◌≡◌, ap, sym, subst, ◌∙◌}
use native.Mathlib.Omega.{arith}
use native.Mathlib.Numerals.{add-one}
use lib.ListN.{length}
use lib.Seq.{length-sets}
use Rattle.codec.specs.Sheet.{got}
use Rattle.listing.specs.Text.{longest_text}
use Rattle.listing.specs.Chunks.{state_in, chunk}
use Rattle.listing.specs.Parts.{told_stop, FillsFrom, Moves, filled, parts, text_of_parts, text_of_chunk}
use Rattle.listing.specs.declared.Listing.{Listing}
use Rattle.listing.specs.declared.Part.{Part}
use Rattle.listing.specs.declared.Stop.TheVariants.{Full}
use Rattle.listing.proofs.Parts.{SoFar, next-part, so_far_turn, so_far-ends}
use Rattle.text.specs.Putting.{Front}
use Rattle.crsf_list.specs.Handed.{part_text}

module _ {room : ℕ} {s₀ s : Listing} {i t t' : List ℕ} {at k : ℕ} {r : Part} (e : length t ≡ room)
    (g : SoFar room s₀ i k s at) (h : FillsFrom s i at r t t') where
  here : SoFar (length t) s₀ i k s at
  here = subst (λ (n : ℕ). SoFar n s₀ i k s at) (sym e) g

  -- what is handed to be written
  pub part-handed : Front r.len t' (part_text (length t') s₀ i k)
  part-handed =
      let p = next-part here h in
      let l : length t' ≡ length t = ap length h.leaves ∙ length-sets t 0 (filled s i at (length t)).text in
      record { fits = omega (arith, p.0); bytes = p.1 ∙ ap (λ (n : ℕ). (parts n s₀ i (suc k)).text) (sym l) }

  -- where a part ended for want of room, the next one goes on
  pub part-next : Moves at i r t → longest_text ≤ room → r.stop ≡ Ok Full → SoFar room s₀ i (k + 1) r.state r.at
  part-next m l f =
      rw (add-one k)
      (subst (λ (n : ℕ). SoFar n s₀ i (suc k) r.state r.at) e
      (so_far_turn here h (ap told_stop f) m (omega arith)))

  pub part-less : Moves at i r t → longest_text ≤ room → r.stop ≡ Ok Full → length i - r.at < length i - at
  part-less m l f = let n = m (omega arith) (ap told_stop f) in omega (arith, n.0, n.1)

  -- else it was the chunk's last
  pub part-last : (told_stop r.stop ≡ got false → ⊥)
      → (r.state ≡ state_in (chunk s₀ i)) × (text_of_parts room s₀ i (suc k) ≡ text_of_chunk s₀ i)
  part-last f =
      let ends = so_far-ends here h f in
      (ends.0, subst (λ (n : ℕ). text_of_parts n s₀ i (suc k) ≡ text_of_chunk s₀ i) e ends.1)

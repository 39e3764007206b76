-- A whole text put behind the text that waits. Assumes nothing.
use Prim.Native.Nat.{ℕ, ◌+◌, ◌<◌, ◌≤◌}
use mathlib.Core.Bool.{Bool, true, false}
use mathlib.Core.List.{List}
use mathlib.Core.Path.{◌≡◌, refl, ap, sym, ◌∙◌}
use native.Mathlib.Omega.{arith}
use borrow.Author.Tests.{lt-ltb, le-ltb, ltb-true, ltb-false}
use lib.ListN.{length}
use lib.Seq.{sets}
use lib.Dec.{ltb}
use Rattle.codec.specs.Pick.{pick}
use Rattle.codec.specs.Writing.{put_at}
use Rattle.codec.proofs.Writes.{put-fits, put-not, length-put}
use Rattle.text.specs.Putting.{PutsBehind}

module _ (w : List ℕ) (at : ℕ) (s : List ℕ) where
  -- a place beyond the end has no room for any text; the empty one's length is 0 too
  pub behind-not : length s < at + length w → PutsBehind w at 0 s s
  behind-not h = record { count = rw (lt-ltb (length s) (at + length w) h); leaves = sym (put-not s at w h) }

  pub behind-put : (s' : List ℕ) → at + length w ≤ length s → s' ≡ put_at s at w → PutsBehind w at (length w) s s'
  behind-put s' h e = record { count = rw (le-ltb (length s) (at + length w) h); leaves = e }

-- what is counted is there
pub behind-fits : {w : List ℕ} {at k : ℕ} {s s' : List ℕ} → PutsBehind w at k s s' → at ≤ length s → at + k ≤ length s'
behind-fits {w} {at} {k} {s} {s'} p h = by (ltb (length s) (at + length w)) refl p.count
  where
    same : length s' ≡ length s
    same = ap length p.leaves ∙ length-put s at w

    by : (b : Bool) → ltb (length s) (at + length w) ≡ b → k ≡ pick b 0 (length w) → at + k ≤ length s'
    by true g f = omega (arith, same)
    by false g f = omega (arith, same, ltb-false (length s) (at + length w) g)

-- of a text that is not empty, 0 tells that it had no room, and any other number that it had
module _ {w : List ℕ} {at k : ℕ} {s s' : List ℕ} (p : PutsBehind w at k s s') (some : 0 < length w) where
  pub behind_none : k ≡ 0 → (length s < at + length w) × (s' ≡ s)
  behind_none e = by (ltb (length s) (at + length w)) refl (sym e ∙ p.count)
    where
      by : (b : Bool) → ltb (length s) (at + length w) ≡ b → 0 ≡ pick b 0 (length w) → (length s < at + length w) × (s' ≡ s)
      by true g f =
          let r = ltb-true (length s) (at + length w) g in
          (r, p.leaves ∙ put-not s at w r)
      by false g f = absurd (omega arith)

  pub behind-some : (k ≡ 0 → ⊥) → (k ≡ length w) × ((at + k ≤ length s) × (s' ≡ sets s at w))
  behind-some e = by (ltb (length s) (at + length w)) refl p.count
    where
      by : (b : Bool) → ltb (length s) (at + length w) ≡ b → k ≡ pick b 0 (length w)
          → (k ≡ length w) × ((at + k ≤ length s) × (s' ≡ sets s at w))
      by true g f = absurd (e f)
      by false g f =
          let r = ltb-false (length s) (at + length w) g in
          (f, (omega arith, p.leaves ∙ put-fits s at w r))

-- An item that was read is there; a text by its first byte. Assumes nothing.
use Prim.Native.Nat.{ℕ, ◌+◌, ◌-◌, ◌<◌, ◌≤◌}
use mathlib.Core.Bool.{Bool, true, false}
use mathlib.Core.List.{List, []}
use mathlib.Core.Path.{◌≡◌, refl}
use native.Mathlib.Omega.{arith}
use lib.ListN.{length, get_or, drop, length-drop}
use lib.Dec.{ltb}
use borrow.Author.Tests.{lt-ltb, ltb-false}
use Rattle.codec.specs.Pick.{pick}
use Rattle.codec.specs.Sheet.{Field, packed, text, Answer, got, refused}
use Rattle.codec.specs.Reading.{read_item}
use Rattle.codec.proofs.Texts.{before-zero, before_more}

-- ---- texts
pub empty_text : (s : List ℕ) (at : ℕ) → at < length s → get_or s at 0 ≡ 0 → read_item (text 0 0) (drop at s) ≡ got []
unfolding read_item
empty_text s at h e =
    let l : 0 < length (drop at s) = rw length-drop (omega arith) in
    rw (before-zero s at h e, lt-ltb 0 (length (drop at s)) l)

-- a text that does not begin with 00 is not empty
pub label_text : (most : ℕ) (s : List ℕ) (at : ℕ) → at < length s → (get_or s at 0 ≡ 0 → ⊥) → read_item (text 1 most)
    (drop at s) ≡ read_item (text 0 most) (drop at s)
unfolding read_item
label_text most s at h e = rw (before_more s at h e)

-- ---- bytes that were read are there
there-by : (w : ℕ) (fs : List Field) (s v : List ℕ) (a : Bool) (x : Answer (List ℕ)) → ltb (length s) w ≡ a → pick a (refused 1 0) x ≡ got v → w ≤ length s
there-by w fs s v true x e h = let z : ◌≡◌ {A = ℕ} 0 1 = cc in absurd (omega arith)
there-by w fs s v false x e h = ltb-false (length s) w e

pub packed-there : (w : ℕ) (fs : List Field) (s : List ℕ) (at : ℕ) (v : List ℕ) → 0 < w → read_item (packed w fs) (drop at s) ≡ got v → at + w ≤ length s
unfolding read_item
packed-there w fs s at v p h =
    let k = there-by w fs (drop at s) v (ltb (length (drop at s)) w) _ refl h in
    let l : w ≤ length s - at = rw length-drop at k in omega arith

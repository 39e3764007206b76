-- What reading an item at a place comes to, once over all packed items. Assumes nothing.
use Prim.Native.Nat.{ℕ, zero, suc, ◌+◌, ◌*◌, ◌^◌, ◌<◌, ◌≤◌}
use mathlib.Core.Bool.{Bool, true, false}
use mathlib.Core.List.{List, [], ◌∷◌}
use mathlib.Core.Path.{◌≡◌, refl, ◌∙◌}
use native.Mathlib.Omega.{arith}
use native.Mathlib.Nat.{mod-eq_of_lt, div-one}
use lib.ListN.{length, take, drop, length-drop}
use lib.Dec.{ltb, eqb}
use borrow.Author.Tests.{le-ltb, lt-ltb}
use Rattle.codec.proofs.Writes.{test_true, test_false}
use Rattle.codec.specs.Pick.{pick}
use Rattle.codec.specs.Digits.{split, number_of}
use Rattle.codec.specs.Sheet.{Field, field, packed, widths, Answer, got, refused, number}
use Rattle.codec.specs.Told.{bit}
use Rattle.codec.specs.Reading.{within, read_item}

pub item-short : (w : ℕ) (fs : List Field) (s : List ℕ) (at : ℕ) → 0 < w → length s < at + w → read_item (packed w fs) (drop at s) ≡ refused 1 0
unfolding read_item
item-short w fs s at p h = rw (lt-ltb (length (drop at s)) w (rw length-drop (omega arith)))

-- its fields are those of the number n, and are judged
abbrev pub judged : List Field → ℕ → Answer (List ℕ)
judged fs n = pick (within fs (split (widths fs) n)) (got (split (widths fs) n)) (refused 2 0)

pub item_is : (w : ℕ) (fs : List Field) (s : List ℕ) (at n : ℕ) → at + w ≤ length s → n ≡ number_of (take w (drop at s))
    → read_item (packed w fs) (drop at s) ≡ judged fs n
unfolding read_item
item_is w fs s at n h e = rw (le-ltb (length (drop at s)) w (rw length-drop (omega arith)), ← e)

-- of one field: the number itself
pub number_is_lem : (w lo hi : ℕ) (s : List ℕ) (at n : ℕ) → at + w ≤ length s → (n ≡ number_of (take w (drop at s))) × (n < 2 ^ (8 * w))
    → read_item (number w lo hi) (drop at s) ≡ pick (ltb n lo) (refused 2 0) (pick (ltb hi n) (refused 2 0) (got (n ∷ [])))
number_is_lem w lo hi s at n h e =
    item_is w (field (8 * w) lo hi ∷ []) s at n h e.0 ∙ rw (div-one n, mod-eq_of_lt e.1) (by (ltb n lo) (ltb hi n))
  where
    by : (a b : Bool) → pick (pick a false (pick b false true)) (got (n ∷ [])) (refused 2 0) ≡ pick a (refused 2 0) (pick b (refused 2 0) (got (n ∷ [])))
    by true b = refl
    by false true = refl
    by false false = refl

-- no number is below a least value of 0
pub ltb-zero : (v : ℕ) → ltb v 0 ≡ false
ltb-zero v = le-ltb v 0 (omega arith)

-- the number of one field is its value
pub alone : (v : ℕ) → v * 1 + 0 ≡ v
alone v = omega arith

-- ---- the ways through `read_number`: too short, and its number judged
pub number_missing : (w lo hi : ℕ) (s : List ℕ) (at n : ℕ) (t : Bool) → (n ≡ w) × ((0 < n) × (n ≤ 4)) → t ≡ ltb (length s) (at + n) → t ≡ true
    → read_item (number w lo hi) (drop at s) ≡ refused 1 0
number_missing w lo hi s at n t h e f =
    item-short w (field (8 * w) lo hi ∷ []) s at (rw (← h.0) h.1.0) (rw (← h.0) (test_true (length s) (at + n) t e f))

pub number-there : (w lo hi : ℕ) (s : List ℕ) (at n x : ℕ) (t : Bool) → n ≡ w → t ≡ ltb (length s) (at + n) → t ≡ false
    → (x ≡ number_of (take n (drop at s))) × (x < 2 ^ (8 * n))
    → read_item (number w lo hi) (drop at s) ≡ pick (ltb x lo) (refused 2 0) (pick (ltb hi x) (refused 2 0) (got (x ∷ [])))
number-there w lo hi s at n x t h e f g =
    number_is_lem w lo hi s at x (rw (← h) (test_false (length s) (at + n) t e f)) (rw (← h) g.0, rw (← h) g.1)

-- ---- a flag
pub flag-bit : (n : ℕ) → n ≤ 1 → bit (eqb n 1) ≡ n
flag-bit zero h = refl
flag-bit (suc n) h = let e : n ≡ 0 = omega arith in rw e

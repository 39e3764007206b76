-- What is written reads back, once over all sheets. Assumes nothing.
use Prim.Native.Nat.{ℕ, ◌+◌, ◌*◌, ◌/◌, ◌%◌, ◌^◌, ◌<◌, ◌≤◌}
use mathlib.Core.Bool.{Bool, true, false}
use mathlib.Core.List.{List, [], ◌∷◌, ◌++◌, append_assoc}
use mathlib.Core.Path.{◌≡◌, refl, ap}
use native.Mathlib.Omega.{arith}
use native.Mathlib.Nat.{lt_of_lt_of_le}
use lib.ListN.{length, length-append}
use lib.Seq.{take_at, drop-append_seam}
use lib.Dec.{leb, ltb, eqb}
use lib.Pow.{pow_mono}
use borrow.Author.Tests.{le-ltb, lt-ltb, ltb-true, ltb-false, leb-true, eqb-true}
use Rattle.codec.specs.Pick.{pick}
use Rattle.codec.specs.Digits.{sum, join, bytes_of}
use Rattle.codec.specs.Sheet.{Field, field, Item, packed, text, Row, row, widths, got, and_then, size_of, said, byte}
use Rattle.codec.specs.Reading.{within, before0, shorter, read_item, read_items, read_row, read_body}
use Rattle.codec.specs.Writing.{nonzero, ok_item, item_bytes, write_items, ok_items, items_of, write_body}
use Rattle.codec.specs.Sound.{sound_fields, sound_item, sound_items, sound_rows, has_row}
use Rattle.codec.proofs.Digits.{Fit, join_lt, split-join, length-bytes_of, number-bytes}

-- a test that was passed
pub both : (a b : Bool) → pick a b false ≡ true → (a ≡ true) × (b ≡ true)
both true b h = (refl, h)
both false b h = let z : ◌≡◌ {A = ℕ} 0 1 = cc in absurd (omega arith)

pub joined : (a b : Bool) → a ≡ true → b ≡ true → pick a b false ≡ true
joined a b p q = rw (p, q)

pub passed : (a b : Bool) → pick a false b ≡ true → (a ≡ false) × (b ≡ true)
passed false b h = (refl, h)
passed true b h = let z : ◌≡◌ {A = ℕ} 0 1 = cc in absurd (omega arith)

pub fits : (fs : List Field) (vs : List ℕ) → sound_fields fs ≡ true → within fs vs ≡ true → Fit (widths fs) vs
fits [] [] s h = tt
fits [] (v ∷ vs) s h = let z : ◌≡◌ {A = ℕ} 0 1 = cc in absurd (omega arith)
fits (field b lo hi ∷ fs) [] s h = let z : ◌≡◌ {A = ℕ} 0 1 = cc in absurd (omega arith)
fits (field b lo hi ∷ fs) (v ∷ vs) s h =
    let t = both (ltb hi (2 ^ b)) (sound_fields fs) s in
    let p = passed (ltb v lo) (pick (ltb hi v) false (within fs vs)) h in
    let q = passed (ltb hi v) (within fs vs) p.1 in
    (omega (arith, ltb-true hi (2 ^ b) t.0, ltb-false hi v q.0), fits fs vs t.1 q.1)

-- the number of a packed item fits its bytes
pub fits-bytes : (w : ℕ) (fs : List Field) (v : List ℕ) → sound_item (packed w fs) ≡ true → within fs v ≡ true → join (widths fs) v < 2 ^ (8 * w)
fits-bytes w fs v s h =
    let t = both (leb (sum (widths fs)) (8 * w)) (sound_fields fs) s in
    lt_of_lt_of_le (join_lt (widths fs) v (fits fs v t.1 h)) (pow_mono (leb-true (sum (widths fs)) (8 * w) t.0))

before_text : (v post : List ℕ) → nonzero v ≡ true → before0 ((v ++ 0 ∷ []) ++ post) ≡ v
before_text [] post h = refl
before_text (b ∷ v) post h = let p = passed (eqb b 0) (nonzero v) h in rw p.0 (ap (λ (l : List ℕ). b ∷ l) (before_text v post p.1))

pub size_is : (i : Item) (v : List ℕ) → length (item_bytes i v) ≡ size_of i v
size_is (packed w fs) v = length-bytes_of w (join (widths fs) v)
size_is (text least most) v = length-append v (0 ∷ [])

-- an item reads back, whatever follows it
pub item_back : (i : Item) (v post : List ℕ) → sound_item i ≡ true → ok_item i v ≡ true → read_item i (item_bytes i v ++ post) ≡ got v
unfolding read_item
item_back (packed w fs) v post s h =
    let n = join (widths fs) v in
    let l = length-bytes_of w n in
    let t = both (leb (sum (widths fs)) (8 * w)) (sound_fields fs) s in
    let k : w ≤ length (bytes_of w n ++ post) = rw (length-append, l) (omega arith) in
    rw (
      le-ltb (length (bytes_of w n ++ post)) w k,
      take_at (bytes_of w n) post w l,
      number-bytes w n (fits-bytes w fs v s h),
      split-join (widths fs) v (fits fs v t.1 h),
      h,
    )
item_back (text least most) v post s h =
    let u = passed (shorter least v) (pick (leb (length v) most) (nonzero v) false) h in
    let t = both (leb (length v) most) (nonzero v) u.1 in
    let m = leb-true (length v) most t.0 in
    let k : length v < length ((v ++ 0 ∷ []) ++ post) = simp length-append (omega arith) in
    rw (before_text v post t.1, lt-ltb (length v) (length ((v ++ 0 ∷ []) ++ post)) k, le-ltb most (length v) m, u.0)

-- so do the items of a sheet
pub items_back : (is : List Item) (vs : List (List ℕ)) (pre post : List ℕ) → sound_items is ≡ true → ok_items is vs ≡ true
    → read_items is (pre ++ (write_items is vs ++ post)) (length pre) ≡ got vs
items_back [] [] pre post s h = refl
items_back [] (v ∷ vs) pre post s h = let z : ◌≡◌ {A = ℕ} 0 1 = cc in absurd (omega arith)
items_back (i ∷ is) [] pre post s h = let z : ◌≡◌ {A = ℕ} 0 1 = cc in absurd (omega arith)
items_back (i ∷ is) (v ∷ vs) pre post s h =
    let t = both (sound_item i) (sound_items is) s in
    let o = both (ok_item i v) (ok_items is vs) h in
    let b = item_bytes i v in
    let l : length pre + size_of i v ≡ length (pre ++ b) = rw (length-append, size_is) in
    let e : pre ++ ((b ++ write_items is vs) ++ post) ≡ (pre ++ b) ++ (write_items is vs ++ post) = simp append_assoc in
    rw (
      append_assoc b (write_items is vs) post,
      drop-append_seam pre (b ++ (write_items is vs ++ post)),
      item_back i v (write_items is vs ++ post) t.0 o.0,
      ← append_assoc b (write_items is vs) post,
      e,
      l,
      items_back is vs (pre ++ b) post t.1 o.1,
    )

-- a sub-command that has a row reads that row's items
abbrev RowOf : List Row → List ℕ → ℕ → Type 0
RowOf rs s sub = read_row rs s sub ≡ and_then (read_items (items_of rs sub) s 1) (λ vs. got (said sub vs))

row_by : (k : ℕ) (is : List Item) (rs : List Row) (s : List ℕ) (sub : ℕ) (t : Bool) → eqb sub k ≡ t
    → pick t true (has_row rs sub) ≡ true → (has_row rs sub ≡ true → RowOf rs s sub) → RowOf (row k is ∷ rs) s sub
row_by k is rs s sub true e h go = rw (e, eqb-true sub k e)
row_by k is rs s sub false e h go = rw e (go h)

pub row_of_lem : (rs : List Row) (s : List ℕ) (sub : ℕ) → has_row rs sub ≡ true → RowOf rs s sub
row_of_lem [] s sub h = let z : ◌≡◌ {A = ℕ} 0 1 = cc in absurd (omega arith)
row_of_lem (row k is ∷ rs) s sub h = row_by k is rs s sub (eqb sub k) refl h (row_of_lem rs s sub)

pick-sound : (t : Bool) (is js : List Item) → sound_items is ≡ true → sound_items js ≡ true → sound_items (pick t is js) ≡ true
pick-sound true is js p q = p
pick-sound false is js p q = q

pub sound-of : (rs : List Row) (sub : ℕ) → sound_rows rs ≡ true → sound_items (items_of rs sub) ≡ true
sound-of [] sub h = refl
sound-of (row k is ∷ rs) sub h =
    let t = both (ltb k 256) (pick (sound_items is) (sound_rows rs) false) h in
    let u = both (sound_items is) (sound_rows rs) t.1 in
    pick-sound (eqb sub k) is (items_of rs sub) u.0 (sound-of rs sub u.1)

byte_back : (x : ℕ) (post : List ℕ) → x < 256 → read_item byte (x ∷ post) ≡ got (x ∷ [])
byte_back x post h =
    let e : (x * 1 + 0) / 1 % 256 ≡ x = omega arith in
    rw e at (item_back byte (x ∷ []) post refl (rw (le-ltb x 0 (omega arith), le-ltb 255 x (omega arith))))

-- and so does a body
pub body_back : (rs : List Row) (sub : ℕ) (vs : List (List ℕ)) (post : List ℕ) → sound_rows rs ≡ true → has_row rs sub ≡ true → sub < 256
    → ok_items (items_of rs sub) vs ≡ true → read_body rs (write_body rs (said sub vs) ++ post) ≡ got (said sub vs)
body_back rs sub vs post s r l h =
    let w = write_items (items_of rs sub) vs ++ post in
    rw (byte_back sub w l, row_of_lem rs (sub ∷ w) sub r, items_back (items_of rs sub) vs (sub ∷ []) post (sound-of rs sub s) h)

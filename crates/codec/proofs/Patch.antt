-- The patch theorem, once over all sheets. Assumes nothing.
use Prim.Native.Nat.{ℕ, zero, suc, ◌+◌, ◌*◌, ◌/◌, ◌%◌, ◌^◌, ◌<◌, ◌≤◌}
use mathlib.Core.Bool.{true, false}
use mathlib.Core.List.{List, [], ◌∷◌, ◌++◌}
use mathlib.Core.Path.{◌≡◌, refl, ap, sym, ◌∙◌}
use native.Mathlib.Omega.{arith}
use lib.ListN.{length, take, drop, get_or, set, length-append, length-set}
use lib.Seq.{sets, sets-eq, set-append_left, take_at, drop_at, drop-append-add}
use lib.Dec.{ltb, leb}
use Rattle.codec.specs.Pick.{pick}
use Rattle.codec.specs.Digits.{sum, join, split, number_of, bytes_of}
use Rattle.codec.specs.Sheet.{Field, field, Item, packed, text, widths, size_of}
use Rattle.codec.specs.Reading.{within}
use Rattle.codec.specs.Writing.{ok_item, ok_items, item_bytes, write_items}
use Rattle.codec.specs.Sound.{sound_item, sound_items, sound_fields}
use Rattle.codec.specs.Edit.{set_value, place_of, below, replaced, in_field}
use Rattle.codec.proofs.Digits.{Fit, split-join, length-bytes_of, number-bytes}
use Rattle.codec.proofs.Back.{both, passed, fits, fits-bytes, size_is}

-- one digit replaced: what is taken away and what is added
digit_moves : (bs vs : List ℕ) (j n : ℕ) → Fit bs vs → j < length bs
    → join bs (set vs j n) + get_or vs j 0 * 2 ^ below bs j ≡ join bs vs + n * 2 ^ below bs j
digit_moves [] vs j n h l = absurd (omega arith)
digit_moves (b ∷ bs) [] j n h l = absurd h
digit_moves (b ∷ bs) (v ∷ vs) zero n h l = omega arith
digit_moves (b ∷ bs) (v ∷ vs) (suc j) n h l = omega (arith, digit_moves bs vs j n h.1 (omega arith))

digit_at : (bs : List ℕ) (x j : ℕ) → j < length bs → get_or (split bs x) j 0 ≡ x / 2 ^ below bs j % 2 ^ get_or bs j 0
digit_at [] x j l = absurd (omega arith)
digit_at (b ∷ bs) x zero l = refl
digit_at (b ∷ bs) x (suc j) l = digit_at bs x j (omega arith)

pub join-set : (bs vs : List ℕ) (j n : ℕ) → Fit bs vs → j < length bs
    → join bs (set vs j n) ≡ replaced (2 ^ below bs j) (2 ^ get_or bs j 0) (join bs vs) n
join-set bs vs j n h l =
    let o : join bs vs / 2 ^ below bs j % 2 ^ get_or bs j 0 ≡ get_or vs j 0 = sym (digit_at bs (join bs vs) j l)
    ∙ ap (λ (d : List ℕ). get_or d j 0) (split-join bs vs h) in
    let p = digit_moves bs vs j n h l in
    let q = digit_moves bs vs j 0 h l in
    rw o (omega arith)

-- stores behind a seam, and before one
set_right : (a l : List ℕ) (i b : ℕ) → set (a ++ l) (length a + i) b ≡ a ++ set l i b
set_right [] l i b = let e : 0 + i ≡ i = omega arith in rw e
set_right (x ∷ a) l i b = let e : suc (length a) + i ≡ suc (length a + i) = omega arith in rw e (ap (λ (q : List ℕ). x ∷ q) (set_right a l i b))

pub sets_right : (a l bs : List ℕ) (i : ℕ) → sets (a ++ l) (length a + i) bs ≡ a ++ sets l i bs
sets_right a l [] i = refl
sets_right a l (b ∷ bs) i = let e : suc (length a + i) ≡ length a + suc i = omega arith in rw (set_right a l i b, e) (sets_right a (set l i b) bs (suc i))

pub sets-left : (l post bs : List ℕ) (i : ℕ) → i + length bs ≤ length l → sets (l ++ post) i bs ≡ sets l i bs ++ post
sets-left l post [] i h = refl
sets-left l post (b ∷ bs) i h = rw (set-append_left l post i b (omega arith)) (sets-left (set l i b) post bs (suc i) (rw length-set (omega arith)))

-- an item replaced by one of the same size
pub items-set : (is : List Item) (vs : List (List ℕ)) (i : ℕ) (v : List ℕ) → length is ≡ length vs → i < length is
    → size_of (get_or is i (text 0 0)) v ≡ size_of (get_or is i (text 0 0)) (get_or vs i [])
    → write_items is (set vs i v) ≡ sets (write_items is vs) (place_of is vs i) (item_bytes (get_or is i (text 0 0)) v)
items-set [] vs i v l h s = absurd (omega arith)
items-set (t ∷ is) [] i v l h s = absurd (omega arith)
items-set (t ∷ is) (u ∷ vs) zero v l h s =
    let w = write_items is vs in
    let e : length (item_bytes t u) ≡ 0 + length (item_bytes t v) = omega (arith, size_is t u, size_is t v) in
    let r : 0 + length (item_bytes t v) ≤ length (item_bytes t u ++ w) = rw length-append (omega arith) in
    sym (sets-eq (item_bytes t v) (item_bytes t u ++ w) 0 r ∙ ap (λ (q : List ℕ). item_bytes t v ++ q) (drop_at (item_bytes t u) w (0 + length (item_bytes t v)) e))
items-set (t ∷ is) (u ∷ vs) (suc i) v l h s =
    rw (
      ← (size_is t u),
      sets_right (item_bytes t u) (write_items is vs) (item_bytes (get_or is i (text 0 0)) v)
          (place_of is vs i),
      items-set is vs i v (omega arith) (omega arith) s,
    )

-- what stands at an item's place
pub ok_length : (is : List Item) (vs : List (List ℕ)) → ok_items is vs ≡ true → length is ≡ length vs
ok_length [] [] h = refl
ok_length [] (v ∷ vs) h = let z : ◌≡◌ {A = ℕ} 0 1 = cc in absurd (omega arith)
ok_length (i ∷ is) [] h = let z : ◌≡◌ {A = ℕ} 0 1 = cc in absurd (omega arith)
ok_length (i ∷ is) (v ∷ vs) h = ap suc (ok_length is vs (both (ok_item i v) (ok_items is vs) h).1)

item_ok : (is : List Item) (vs : List (List ℕ)) (i : ℕ) → i < length is → sound_items is ≡ true → ok_items is vs ≡ true
    → (sound_item (get_or is i (text 0 0)) ≡ true) × (ok_item (get_or is i (text 0 0)) (get_or vs i []) ≡ true)
item_ok [] vs i h s o = absurd (omega arith)
item_ok (t ∷ is) [] i h s o = let z : ◌≡◌ {A = ℕ} 0 1 = cc in absurd (omega arith)
item_ok (t ∷ is) (v ∷ vs) zero h s o = ((both (sound_item t) (sound_items is) s).0, (both (ok_item t v) (ok_items is vs) o).0)
item_ok (t ∷ is) (v ∷ vs) (suc i) h s o = item_ok is vs i (omega arith) (both (sound_item t) (sound_items is) s).1 (both (ok_item t v) (ok_items is vs) o).1

item-at : (is : List Item) (vs : List (List ℕ)) (i w : ℕ) → length is ≡ length vs → i < length is
    → length (item_bytes (get_or is i (text 0 0)) (get_or vs i [])) ≡ w
    → take w (drop (place_of is vs i) (write_items is vs)) ≡ item_bytes (get_or is i (text 0 0)) (get_or vs i [])
item-at [] vs i w l h e = absurd (omega arith)
item-at (t ∷ is) [] i w l h e = absurd (omega arith)
item-at (t ∷ is) (v ∷ vs) zero w l h e = take_at (item_bytes t v) (write_items is vs) w e
item-at (t ∷ is) (v ∷ vs) (suc i) w l h e =
    rw (← (size_is t v), drop-append-add (item_bytes t v) (write_items is vs) (place_of is vs i)) (item-at is vs i w (omega arith) (omega arith) e)

-- THE patch theorem: the sheet with field j of item i equal to n is written as the old bytes with that item's number changed
pub patch : (is : List Item) (vs : List (List ℕ)) (i j n w : ℕ) (fs : List Field)
    → sound_items is ≡ true → ok_items is vs ≡ true → i < length is → get_or is i (text 0 0) ≡ packed w fs → j < length (widths fs)
    → write_items is (set_value vs i j n)
    ≡ sets (write_items is vs) (place_of is vs i)
    (bytes_of w (replaced (2 ^ below (widths fs) j) (2 ^ get_or (widths fs) j 0) (number_of (take w (drop (place_of is vs i) (write_items is vs)))) n))
patch is vs i j n w fs s o h e l =
    let v = get_or vs i [] in
    let bs = widths fs in
    let t = item_ok is vs i h s o in
    let so : sound_item (packed w fs) ≡ true = rw e at t.0 in
    let wi : within fs v ≡ true = rw e at t.1 in
    let len = ok_length is vs o in
    let at : take w (drop (place_of is vs i) (write_items is vs)) ≡ bytes_of w (join bs v) = rw e
    at (item-at is vs i w len h (rw e (length-bytes_of w (join bs v)))) in
    let x : number_of (take w (drop (place_of is vs i) (write_items is vs))) ≡ join bs v = ap number_of at ∙ number-bytes w (join bs v) (fits-bytes w fs v so wi) in
    let k : size_of (get_or is i (text 0 0)) (set v j n) ≡ size_of (get_or is i (text 0 0)) v = rw e in
    rw (x, ← (join-set bs v j n (fits fs v (both (leb (sum bs) (8 * w)) (sound_fields fs) so).1 wi) l)) (rw e at (items-set is vs i (set v j n) len h k))

-- the edited values are in range where n is in its field's
within-set : (fs : List Field) (vs : List ℕ) (j n : ℕ) → j < length fs → within fs vs ≡ true
    → in_field (get_or fs j (field 0 0 0)) n ≡ true → within fs (set vs j n) ≡ true
within-set [] vs j n l h k = absurd (omega arith)
within-set (f ∷ fs) [] j n l h k = let z : ◌≡◌ {A = ℕ} 0 1 = cc in absurd (omega arith)
within-set (field b lo hi ∷ fs) (v ∷ vs) zero n l h k =
    let p = passed (ltb v lo) (pick (ltb hi v) false (within fs vs)) h in
    let q = passed (ltb hi v) (within fs vs) p.1 in
    let r = passed (ltb n lo) (pick (ltb hi n) false true) k in
    let t = passed (ltb hi n) true r.1 in
    rw (r.0, t.0) q.1
within-set (field b lo hi ∷ fs) (v ∷ vs) (suc j) n l h k =
    let p = passed (ltb v lo) (pick (ltb hi v) false (within fs vs)) h in
    let q = passed (ltb hi v) (within fs vs) p.1 in
    rw (p.0, q.0) (within-set fs vs j n (omega arith) q.1 k)

pub ok_set : (is : List Item) (vs : List (List ℕ)) (i : ℕ) (v : List ℕ) → i < length is → ok_items is vs ≡ true
    → ok_item (get_or is i (text 0 0)) v ≡ true → ok_items is (set vs i v) ≡ true
ok_set [] vs i v h o k = absurd (omega arith)
ok_set (t ∷ is) [] i v h o k = let z : ◌≡◌ {A = ℕ} 0 1 = cc in absurd (omega arith)
ok_set (t ∷ is) (u ∷ vs) zero v h o k = rw k (both (ok_item t u) (ok_items is vs) o).1
ok_set (t ∷ is) (u ∷ vs) (suc i) v h o k = let b = both (ok_item t u) (ok_items is vs) o in rw b.0 (ok_set is vs i v (omega arith) b.1 k)

pub patch_ok : (is : List Item) (vs : List (List ℕ)) (i j n w : ℕ) (fs : List Field)
    → ok_items is vs ≡ true → sound_items is ≡ true → i < length is → get_or is i (text 0 0) ≡ packed w fs → j < length fs
    → in_field (get_or fs j (field 0 0 0)) n ≡ true
    → ok_items is (set_value vs i j n) ≡ true
patch_ok is vs i j n w fs o s h e l k =
    ok_set is vs i (set (get_or vs i []) j n) h o (rw e (within-set fs (get_or vs i []) j n l (rw e at (item_ok is vs i h s o).1) k))

pub place-room : (is : List Item) (vs : List (List ℕ)) (i : ℕ) → length is ≡ length vs → i < length is
    → place_of is vs i + size_of (get_or is i (text 0 0)) (get_or vs i []) ≤ length (write_items is vs)
place-room [] vs i l h = absurd (omega arith)
place-room (t ∷ is) [] i l h = absurd (omega arith)
place-room (t ∷ is) (v ∷ vs) zero l h = rw (length-append, size_is) (omega arith)
place-room (t ∷ is) (v ∷ vs) (suc i) l h = rw (length-append, size_is) (omega (arith, place-room is vs i (omega arith) (omega arith)))

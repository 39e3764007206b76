-- What a layout that serves a command tells of each field number: none, or a row, with the item and the place that it stands for. Assumes
-- nothing.
use Prim.Native.Nat.{ℕ, zero, suc, ◌+◌, ◌-◌, ◌<◌, ◌≤◌}
use mathlib.Core.Bool.{Bool, true}
use mathlib.Core.List.{List, [], ◌∷◌}
use mathlib.Core.Path.{◌≡◌, refl, ap, sym, ◌∙◌}
use native.Mathlib.Omega.{arith}
use lib.ListN.{length, take, drop, get_or}
use lib.Dec.{leb}
use borrow.Author.Tests.{leb-true, lt-ltb}
use Rattle.codec.specs.Pick.{pick}
use Rattle.codec.specs.Sheet.{Field, field, Item, packed, text, Answer, got, refused, and_then, widths}
use Rattle.codec.specs.Edit.{place_of, below, in_field}
use Rattle.codec.proofs.Back.{both}
use Rattle.codec.proofs.There.{and_got}
use Rattle.codec.proofs.Patch.{ok_length}
use Rattle.families.specs.Payload.{family_id}
use Rattle.commands.specs.declared.DirectCommands.{DirectCommands}
use Rattle.commands.proofs.Promised.{Sound}
use Rattle.edits.specs.Fields.{Spot, spot}
use Rattle.edits.specs.Record.{sub_of, items_in, values_in}
use Rattle.edits.specs.Edit.{field_of, field_at, spot_of, with_field, set_field}
use Rattle.edits.specs.Table.{Origin, Start, Near, Far, Entry, origin_at, row_of, item_row, sizes, no_texts, straight_to, straight_by, origin_of, anchor, placed_row, sheet_row, searched, rows_of}
use Rattle.edits.specs.Opened.{Serves}
use Rattle.edits.specs.declared.layout.Layout.{Layout}
use Rattle.edits.proofs.With.{FieldIn, items_ok, field-of}
use Rattle.edits.proofs.Step.{packed-there}

-- ---- places without texts between
straight-place : (is : List Item) (vs : List (List ℕ)) (i : ℕ) → length is ≡ length vs → i < length is
    → no_texts (take i is) ≡ true → place_of is vs i ≡ sizes (take i is)
straight-place [] vs i e h t = absurd (omega arith)
straight-place (u ∷ is) [] i e h t = absurd (omega arith)
straight-place (u ∷ is) (v ∷ vs) zero e h t = refl
straight-place (packed w fs ∷ is) (v ∷ vs) (suc i) e h t = ap (λ (x : ℕ). w + x) (straight-place is vs i (omega arith) (omega arith) t)
straight-place (text least most ∷ is) (v ∷ vs) (suc i) e h t = let z : ◌≡◌ {A = ℕ} 0 1 = cc in absurd (omega arith)

place-from : (is : List Item) (vs : List (List ℕ)) (a i : ℕ) → length is ≡ length vs → i < length is → a ≤ i
    → no_texts (take (i - a) (drop a is)) ≡ true
    → place_of is vs i ≡ place_of is vs a + sizes (take (i - a) (drop a is))
place-from [] vs a i e h l t = absurd (omega arith)
place-from (u ∷ is) [] a i e h l t = absurd (omega arith)
place-from (u ∷ is) (v ∷ vs) zero i e h l t =
    let k : i - 0 ≡ i = omega arith in
    let g = straight-place (u ∷ is) (v ∷ vs) i e h (rw k at t) in
    rw k (omega (arith, g))
place-from (u ∷ is) (v ∷ vs) (suc a) zero e h l t = absurd (omega arith)
place-from (u ∷ is) (v ∷ vs) (suc a) (suc i) e h l t =
    let k : suc i - suc a ≡ i - a = omega arith in
    let g = place-from is vs a i (omega arith) (omega arith) (omega arith) (rw k at t) in
    rw k (omega (arith, g))

-- ---- a row that is found
-- the item that a field's place counts from, and the bytes from there to item i
abbrev start : DirectCommands → ℕ → ℕ
start c f = anchor (origin_of f) (family_id c.payload) (sub_of c.payload) (items_in c)

abbrev between : DirectCommands → ℕ → ℕ → ℕ
between c f i = sizes (take (i - start c f) (drop (start c f) (items_in c)))

pub record Found (c : DirectCommands) (s : Layout) (f : ℕ) (r : Entry) : Type 0 where
  pub item : ℕ
  pub index : ℕ
  pub bits : ℕ
  pub low : ℕ
  pub high : ℕ
  pub stands : spot_of c f ≡ got (spot item index)
  pub at : FieldIn (items_in c) item index (field bits low high)
  pub told : r ≡ row_of f (origin_of f) (between c f item) at.wide (below (widths at.all) index) (field bits low high)
  pub placed : origin_at (origin_of f) s.near s.far + between c f item ≡ place_of (items_in c) (values_in c) item

origin-place : (c : DirectCommands) (s : Layout) → Serves c s → (o : Origin)
    → origin_at o s.near s.far ≡ place_of (items_in c) (values_in c) (anchor o (family_id c.payload) (sub_of c.payload) (items_in c))
origin-place c s v Start = refl
origin-place c s v Near = v.near
origin-place c s v Far = v.far

straight_is : (is : List Item) (a i j : ℕ) (x : Answer Spot) (y : Answer Entry) (r : Entry) → x ≡ got (spot i j) → y ≡ got r
    → straight_by is a x y ≡ true → straight_to is a i ≡ true
straight_is is a i j x y r e f h = rw (e, f) at h

module _ {c : DirectCommands} {s : Layout} (f : ℕ) (z : Sound c) (v : Serves c s) where
  found_at : (r : Entry) (i j : ℕ) (t : Item) → spot_of c f ≡ got (spot i j)
      → sheet_row (family_id c.payload) (sub_of c.payload) (items_in c) f ≡ got r
      → get_or (items_in c) i (text 0 0) ≡ t → item_row f (origin_of f) (between c f i) t j ≡ got r → Found c s f r
  found_at r i j (text least most) e h k g = let x : ◌≡◌ {A = ℕ} 0 1 = cc in absurd (omega arith)
  found_at r i j (packed w fs) e h k g =
      let q = and_got (field_of (packed w fs) j) (λ d. got (row_of f (origin_of f) (between c f i) w (below (widths fs) j) d)) r g in
      let d = field-of w j fs q.0 q.1.0 in
      by q.0 d.0 d.1 q.1.1
    where
      inside : i < length (items_in c)
      inside = packed-there (items_in c) i w fs k

      at_place : origin_at (origin_of f) s.near s.far + between c f i ≡ place_of (items_in c) (values_in c) i
      at_place =
          let a = start c f in
          let o = straight_is (items_in c) a i j (spot_of c f)
          (sheet_row (family_id c.payload) (sub_of c.payload) (items_in c) f) r e h (v.direct f) in
          let b = both (leb a i) (no_texts (take (i - a) (drop a (items_in c)))) o in
          let p = place-from (items_in c) (values_in c) a i (ok_length (items_in c) (values_in c) (items_ok c z)) inside
          (leb-true a i b.0) b.1 in
          ap (λ (x : ℕ). x + between c f i) (origin-place c s v (origin_of f)) ∙ sym p

      by : (d : Field) → j < length fs → get_or fs j (field 0 0 0) ≡ d
          → got (row_of f (origin_of f) (between c f i) w (below (widths fs) j) d) ≡ got r → Found c s f r
      by (field b lo hi) l d m =
          let n : r ≡ row_of f (origin_of f) (between c f i) w (below (widths fs) j) (field b lo hi) = sym (cc) in
          record {
            item = i;
            index = j;
            bits = b;
            low = lo;
            high = hi;
            stands = e;
            at = record { wide = w; all = fs; holds = k; inside = inside; within = l; this = d };
            told = n;
            placed = at_place;
          }

  pub found : (r : Entry) → searched (rows_of s.first s.end) f ≡ got r → Found c s f r
  found r h =
      let y = v.rows f ∙ h in
      let g = and_got (spot_of c f) (λ x. placed_row f (origin_of f) (items_in c) (start c f) x) r y in
      by g.0 g.1.0 y g.1.1
    where
      by : (x : Spot) → spot_of c f ≡ got x → sheet_row (family_id c.payload) (sub_of c.payload) (items_in c) f ≡ got r
          → placed_row f (origin_of f) (items_in c) (start c f) x ≡ got r → Found c s f r
      by (spot i j) e y g = found_at r i j (get_or (items_in c) i (text 0 0)) e y refl g

  pub field_found : {r : Entry} (x : Found c s f r) → field_at c (spot x.item x.index) ≡ got (field x.bits x.low x.high)
  field_found x =
      let fs = x.at.all in
      ap (λ (t : Item). field_of t x.index) x.at.holds
      ∙ ap (λ (t : Bool). pick t (got (get_or fs x.index (field 0 0 0))) (refused 7 0)) (lt-ltb x.index (length fs) x.at.within)
      ∙ ap (λ (d : Field). got d) x.at.this

  -- what an edit of it answers
  pub set_found : {r : Entry} (x : Found c s f r) (n : ℕ)
      → set_field c f n ≡ pick (in_field (field x.bits x.low x.high) n)
      (got (with_field c (spot x.item x.index) n)) (refused 8 0)
  set_found x n =
      ap (λ (a : Answer Spot). and_then a
      (λ y. and_then (field_at c y) (λ d. pick (in_field d n) (got (with_field c y n)) (refused 8 0)))) x.stands
      ∙ ap (λ (a : Answer Field). and_then a (λ d. pick (in_field d n) (got (with_field c (spot x.item x.index) n))
      (refused 8 0))) (field_found x)

  -- none
  no_item : (t : Item) (o : Origin) (at j : ℕ) → item_row f o at t j ≡ refused 7 0 → field_of t j ≡ refused 7 0
  no_item (text least most) o at j h = refl
  no_item (packed w fs) o at j h = by (field_of (packed w fs) j) h
    where
      by : (a : Answer Field) → and_then a (λ d. got (row_of f o at w (below (widths fs) j) d)) ≡ refused 7 0 → a ≡ refused 7 0
      by (got d) g = let x : ◌≡◌ {A = ℕ} 0 1 = cc in absurd (omega arith)
      by (refused k l) g = cc

  pub set_none : (n : ℕ) → searched (rows_of s.first s.end) f ≡ refused 7 0 → set_field c f n ≡ refused 7 0
  set_none n h = by (spot_of c f) refl (v.rows f ∙ h)
    where
      by : (a : Answer Spot) → spot_of c f ≡ a → and_then a (λ x. placed_row f (origin_of f) (items_in c) (start c f) x) ≡ refused 7 0
          → and_then a (λ x. and_then (field_at c x) (λ d. pick (in_field d n) (got (with_field c x n)) (refused 8 0))) ≡ refused 7 0
      by (refused k l) e g = cc
      by (got (spot i j)) e g = rw (no_item (get_or (items_in c) i (text 0 0)) (origin_of f) (between c f i) j g)

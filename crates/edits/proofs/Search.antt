-- A field's row in the table and among those of a command, and what every row keeps. Assumes nothing.
use Prim.Native.Nat.{ℕ, zero, suc, ◌+◌, ◌-◌, ◌<◌, ◌≤◌}
use mathlib.Core.Bool.{Bool, true, false}
use mathlib.Core.List.{List, [], ◌∷◌, ◌++◌}
use mathlib.Core.Logic.{◌⊎◌, inl, inr}
use mathlib.Core.Path.{◌≡◌, refl, ap, sym, subst, ◌∙◌}
use native.Mathlib.Omega.{arith}
use lib.ListN.{length, take, drop, get_or}
use lib.Dec.{ltb, leb, eqb}
use borrow.Author.Tests.{ltb-true, ltb-false, leb-true, eqb-true, eqb-false, eq-eqb, ne_eqb, lt-ltb}
use Rattle.std.specs.List.{position_or_len}
use Rattle.std.specs.Prelude.{Some, None, cond, not}
use Rattle.std.proofs.lemmas.Option.{cond_some}
use Rattle.std.proofs.lemmas.Option.{none-some}
use Rattle.codec.specs.Pick.{pick}
use Rattle.codec.specs.Sheet.{Answer, got, refused}
use Rattle.codec.proofs.Back.{both, passed}
use Rattle.edits.specs.Table.{Entry, table, no_row, searched, rows_of, located, row_told, row_for, index_found, is_among}
use Rattle.edits.specs.declared.layout.Layout.{Layout}
use Rattle.edits.specs.declared.table.FieldRow.{FieldRow}

-- ---- rows without a number
abbrev Lacks : ℕ → List Entry → Type 0
Lacks f [] = Unit {0}
Lacks f (e ∷ es) = (eqb f e.number ≡ false) × Lacks f es

lacks_none : (f : ℕ) (l : List Entry) → Lacks f l → searched l f ≡ refused 7 0
lacks_none f [] h = refl
lacks_none f (e ∷ l) h = rw h.0 (lacks_none f l h.1)

lacks_take : (f n : ℕ) (l : List Entry) → Lacks f l → Lacks f (take n l)
lacks_take f zero l h = tt
lacks_take f (suc n) [] h = tt
lacks_take f (suc n) (e ∷ l) h = (h.0, lacks_take f n l h.1)

lacks_drop : (f n : ℕ) (l : List Entry) → Lacks f l → Lacks f (drop n l)
lacks_drop f zero l h = h
lacks_drop f (suc n) [] h = tt
lacks_drop f (suc n) (e ∷ l) h = lacks_drop f n l h.1

-- ---- the search over two lists
past : (f : ℕ) (l m : List Entry) → Lacks f l → searched (l ++ m) f ≡ searched m f
past f [] m h = refl
past f (e ∷ l) m h = rw h.0 (past f l m h.1)

there : (f : ℕ) (e : Entry) (l m : List Entry) → searched l f ≡ got e → searched (l ++ m) f ≡ got e
there f e [] m h = let z : ◌≡◌ {A = ℕ} 0 1 = cc in absurd (omega arith)
there f e (d ∷ l) m h = by (eqb f d.number) h (there f e l m)
  where
    by : (t : Bool) → pick t (got d) (searched l f) ≡ got e → (searched l f ≡ got e → searched (l ++ m) f ≡ got e)
        → pick t (got d) (searched (l ++ m) f) ≡ got e
    by true h go = h
    by false h go = go h

-- ---- rows of which one, at place k, has the number
abbrev Sole : ℕ → List Entry → ℕ → Type 0
Sole f [] k = ⊥
Sole f (e ∷ l) zero = (eqb f e.number ≡ true) × Lacks f l
Sole f (e ∷ l) (suc k) = (eqb f e.number ≡ false) × Sole f l k

sole_taken : (f n k : ℕ) (l : List Entry) → Sole f l k → k < n → searched (take n l) f ≡ got (get_or l k no_row)
sole_taken f zero k l h a = absurd (omega arith)
sole_taken f (suc n) k [] h a = absurd h
sole_taken f (suc n) zero (e ∷ l) h a = rw h.0
sole_taken f (suc n) (suc k) (e ∷ l) h a = rw h.0 (sole_taken f n k l h.1 (omega arith))

sole_in : (f n j k : ℕ) (l : List Entry) → Sole f l k → j ≤ k → k < j + n → searched (take n (drop j l)) f ≡ got (get_or l k no_row)
sole_in f n zero k l h a b = sole_taken f n k l h (omega arith)
sole_in f n (suc j) k [] h a b = absurd h
sole_in f n (suc j) zero (e ∷ l) h a b = absurd (omega arith)
sole_in f n (suc j) (suc k) (e ∷ l) h a b = sole_in f n j k l h.1 (omega arith) (omega arith)

sole_behind : (f j k : ℕ) (l : List Entry) → Sole f l k → k < j → Lacks f (drop j l)
sole_behind f zero k l h a = absurd (omega arith)
sole_behind f (suc j) k [] h a = tt
sole_behind f (suc j) zero (e ∷ l) h a = lacks_drop f j l h.1
sole_behind f (suc j) (suc k) (e ∷ l) h a = sole_behind f j k l h.1 (omega arith)

sole_before : (f n j k : ℕ) (l : List Entry) → Sole f l k → j + n ≤ k → Lacks f (take n (drop j l))
sole_before f zero j k l h a = tt
sole_before f (suc n) zero k [] h a = tt
sole_before f (suc n) zero zero (e ∷ l) h a = absurd (omega arith)
sole_before f (suc n) zero (suc k) (e ∷ l) h a = (h.0, sole_before f n zero k l h.1 (omega arith))
sole_before f (suc n) (suc j) k [] h a = tt
sole_before f (suc n) (suc j) zero (e ∷ l) h a = absurd (omega arith)
sole_before f (suc n) (suc j) (suc k) (e ∷ l) h a = sole_before f (suc n) j k l h.1 (omega arith)

-- ---- rows whose numbers differ
abbrev away : ℕ → List Entry → Bool
away f [] = true
away f (e ∷ l) = pick (eqb f e.number) false (away f l)

abbrev apart : List Entry → Bool
apart [] = true
apart (e ∷ l) = pick (away e.number l) (apart l) false

away_lacks : (f : ℕ) (l : List Entry) → away f l ≡ true → Lacks f l
away_lacks f [] h = tt
away_lacks f (e ∷ l) h = let p = passed (eqb f e.number) (away f l) h in (p.0, away_lacks f l p.1)

-- what the search tells of a number: one row has it, or none
abbrev has : ℕ → Entry → Bool
has f e = eqb e.number f

abbrev Told : ℕ → List Entry → ℕ → Type 0
Told f l k = ((k < length l) × Sole f l k) ⊎ ((k ≡ length l) × Lacks f l)

told : (f : ℕ) (l : List Entry) → apart l ≡ true → Told f l (position_or_len (has f) l)
told f [] h = inr (refl, tt)
told f (e ∷ l) h = by (eqb e.number f) refl (told f l (both (away e.number l) (apart l) h).1)
  where
    lacks : eqb e.number f ≡ true → Lacks f l
    lacks g = subst (λ (n : ℕ). Lacks n l) (eqb-true e.number f g) (away_lacks e.number l (both (away e.number l) (apart l) h).0)

    on : (k : ℕ) → eqb f e.number ≡ false → Told f l k → Told f (e ∷ l) (suc k)
    on k g (inl (a, b)) = inl (omega arith, (g, b))
    on k g (inr (a, b)) = inr (omega arith, (g, b))

    by : (t : Bool) → eqb e.number f ≡ t → Told f l (position_or_len (has f) l)
        → Told f (e ∷ l) (cond (not t) (1 + position_or_len (has f) l) 0)
    by true g go = inl (omega arith, (eq-eqb f e.number (sym (eqb-true e.number f g)), lacks g))
    by false g go =
        let n : suc (position_or_len (has f) l) ≡ 1 + position_or_len (has f) l = omega arith in
        subst (Told f (e ∷ l)) n (on (position_or_len (has f) l) (ne_eqb f e.number (λ x. eqb-false e.number f g (sym x))) go)

-- ---- what every row keeps
pub record Fine (e : Entry) : Type 0 where
  pub some : 0 < e.width
  pub few : e.width ≤ 4
  pub counts : 0 < e.unit
  pub values : 0 < e.many

abbrev fine : Entry → Bool
fine e = pick (ltb 0 e.width) (pick (leb e.width 4) (pick (ltb 0 e.unit) (ltb 0 e.many) false) false) false

abbrev all_fine : List Entry → Bool
all_fine [] = true
all_fine (e ∷ l) = pick (fine e) (all_fine l) false

fine-at : (l : List Entry) (k : ℕ) → all_fine l ≡ true → k < length l → fine (get_or l k no_row) ≡ true
fine-at [] k h a = absurd (omega arith)
fine-at (e ∷ l) zero h a = (both (fine e) (all_fine l) h).0
fine-at (e ∷ l) (suc k) h a = fine-at l k (both (fine e) (all_fine l) h).1 (omega arith)

fine_is : (e : Entry) → fine e ≡ true → Fine e
fine_is e h =
    let a = both (ltb 0 e.width) _ h in
    let b = both (leb e.width 4) _ a.1 in
    let c = both (ltb 0 e.unit) _ b.1 in
    record {
      some = ltb-true 0 e.width a.0;
      few = leb-true e.width 4 b.0;
      counts = ltb-true 0 e.unit c.0;
      values = ltb-true 0 e.many c.1;
    }

-- ---- a command's rows: rows 0 and 1, and those from first up to end
abbrev Of : List Entry → ℕ → ℕ → List Entry
Of l first end = take 2 l ++ take (end - first) (drop first l)

among : (i first end : ℕ) → is_among i first end ≡ true → (i < 2) ⊎ ((2 ≤ i) × ((first ≤ i) × (i < end)))
among i first end h = by (ltb i 2) (ltb i first) refl refl h
  where
    by : (s t : Bool) → ltb i 2 ≡ s → ltb i first ≡ t → pick s true (pick t false (ltb i end)) ≡ true
        → (i < 2) ⊎ ((2 ≤ i) × ((first ≤ i) × (i < end)))
    by true t a b g = inl (ltb-true i 2 a)
    by false true a b g = let z : ◌≡◌ {A = ℕ} 0 1 = cc in absurd (omega arith)
    by false false a b g = inr (ltb-false i 2 a, (ltb-false i first b, ltb-true i end g))

outside : (i first end : ℕ) → is_among i first end ≡ false → (2 ≤ i) × ((i < first) ⊎ ((first ≤ i) × (end ≤ i)))
outside i first end h = by (ltb i 2) (ltb i first) refl refl h
  where
    by : (s t : Bool) → ltb i 2 ≡ s → ltb i first ≡ t → pick s true (pick t false (ltb i end)) ≡ false
        → (2 ≤ i) × ((i < first) ⊎ ((first ≤ i) × (end ≤ i)))
    by true t a b g = let z : ◌≡◌ {A = ℕ} 0 1 = cc in absurd (omega arith)
    by false true a b g = (ltb-false i 2 a, inl (ltb-true i first b))
    by false false a b g = (ltb-false i 2 a, inr (ltb-false i first b, ltb-false i end g))

found_in : (f k first end : ℕ) (l : List Entry) → Sole f l k → (k < 2) ⊎ ((2 ≤ k) × ((first ≤ k) × (k < end)))
    → searched (Of l first end) f ≡ got (get_or l k no_row)
found_in f k first end l h (inl a) = there f (get_or l k no_row) (take 2 l) (take (end - first) (drop first l)) (sole_taken f 2 k l h a)
found_in f k first end l h (inr (a, (b, c))) =
    past f (take 2 l) (take (end - first) (drop first l)) (sole_before f 2 0 k l h a) ∙ sole_in f (end - first) first k l h b (omega arith)

lacking : (f k first end : ℕ) (l : List Entry) → Sole f l k → (k < first) ⊎ ((first ≤ k) × (end ≤ k))
    → Lacks f (take (end - first) (drop first l))
lacking f k first end l h (inl a) = lacks_take f (end - first) (drop first l) (sole_behind f first k l h a)
lacking f k first end l h (inr (a, b)) = sole_before f (end - first) first k l h (omega arith)

found_out : (f first end : ℕ) (l : List Entry) → Lacks f (take 2 l) → Lacks f (take (end - first) (drop first l))
    → searched (Of l first end) f ≡ refused 7 0
found_out f first end l a b =
    past f (take 2 l) (take (end - first) (drop first l)) a ∙ lacks_none f (take (end - first) (drop first l)) b

-- ---- the table: two computed tests
all-fine : all_fine table ≡ true
all-fine = refl

all_apart : apart table ≡ true
all_apart = refl

told-table : (f : ℕ) → Told f table (position_or_len (has f) table)
told-table f = told f table all_apart

-- ---- the row of an index that was found, where a command has it and where not; and of none
module _ (f : ℕ) (s : Layout) where
  at_place : (n i : ℕ) → Told f table n → Some i ≡ cond (ltb n 32) (Some n) None → (i < 32) × Sole f table i
  at_place n i (inl (a, b)) h =
      let e : n ≡ i = (cond_some (ltb n 32) n i (sym h)).1 in
      (omega (arith, e, a), subst (Sole f table) e b)
  at_place n i (inr (a, b)) h =
      let e = ltb-true n 32 (cond_some (ltb n 32) n i (sym h)).0 in
      absurd (omega (arith, e, a))

  pub index_small : (i : ℕ) → Some i ≡ index_found f → i < 32
  index_small i h = (at_place (position_or_len (has f) table) i (told-table f) h).0

  sole : (i : ℕ) → Some i ≡ index_found f → Sole f table i
  sole i h = (at_place (position_or_len (has f) table) i (told-table f) h).1

  pub row_in_lem : (i : ℕ) → Some i ≡ index_found f → is_among i s.first s.end ≡ true
      → Some (located (get_or table i no_row) s.near s.far) ≡ row_for f s
  row_in_lem i h m =
      sym (ap (λ (a : Answer Entry). row_told a s.near s.far) (found_in f i s.first s.end table (sole i h) (among i s.first s.end m)))

  pub row_out : (i : ℕ) → Some i ≡ index_found f → is_among i s.first s.end ≡ false → None ≡ row_for f s
  row_out i h m =
      let u = outside i s.first s.end m in
      sym (ap (λ (a : Answer Entry). row_told a s.near s.far)
      (found_out f s.first s.end table (sole_before f 2 0 i table (sole i h) u.0) (lacking f i s.first s.end table (sole i h) u.1)))

  pub row_none : None ≡ index_found f → None ≡ row_for f s
  row_none h = by (position_or_len (has f) table) (told-table f) h
    where
      by : (n : ℕ) → Told f table n → None ≡ cond (ltb n 32) (Some n) None → None ≡ row_for f s
      by n (inl (a, b)) g = absurd (none-some n (g ∙ ap (λ (t : Bool). cond t (Some n) None) (lt-ltb n 32 a)))
      by n (inr (a, b)) g =
          sym (ap (λ (x : Answer Entry). row_told x s.near s.far)
          (found_out f s.first s.end table (lacks_take f 2 table b)
          (lacks_take f (s.end - s.first) (drop s.first table) (lacks_drop f s.first table b))))

-- ---- what a row tells of the search over a command's rows
abbrev AllFine : List Entry → Type 0
AllFine [] = Unit {0}
AllFine (e ∷ l) = Fine e × AllFine l

fine-all : (l : List Entry) → all_fine l ≡ true → AllFine l
fine-all [] h = tt
fine-all (e ∷ l) h = let g = both (fine e) (all_fine l) h in (fine_is e g.0, fine-all l g.1)

fine_take : (n : ℕ) (l : List Entry) → AllFine l → AllFine (take n l)
fine_take zero l h = tt
fine_take (suc n) [] h = tt
fine_take (suc n) (e ∷ l) h = (h.0, fine_take n l h.1)

fine_drop : (n : ℕ) (l : List Entry) → AllFine l → AllFine (drop n l)
fine_drop zero l h = h
fine_drop (suc n) [] h = tt
fine_drop (suc n) (e ∷ l) h = fine_drop n l h.1

fine_append : (l m : List Entry) → AllFine l → AllFine m → AllFine (l ++ m)
fine_append [] m h g = g
fine_append (e ∷ l) m h g = (h.0, fine_append l m h.1 g)

fine_rows : (first end : ℕ) → AllFine (rows_of first end)
fine_rows first end =
    let h = fine-all table all-fine in
    fine_append (take 2 table) (take (end - first) (drop first table)) (fine_take 2 table h) (fine_take (end - first) (drop first table) (fine_drop first table h))

-- a row that was told: its entry
abbrev pub RowIn : List Entry → ℕ → ℕ → ℕ → FieldRow → Type 0
RowIn l f near far r = (e : Entry) × ((searched l f ≡ got e) × ((r ≡ located e near far) × Fine e))

told_some : (l : List Entry) (f near far : ℕ) (r : FieldRow) → AllFine l → Some r ≡ row_told (searched l f) near far → RowIn l f near far r
told_some [] f near far r h g = absurd (none-some r (sym g))
told_some (e ∷ l) f near far r h g = by (eqb f e.number) (told_some l f near far r h.1) g
  where
    by : (t : Bool) → (Some r ≡ row_told (searched l f) near far → RowIn l f near far r)
        → Some r ≡ row_told (pick t (got e) (searched l f)) near far
        → (d : Entry) × ((pick t (got e) (searched l f) ≡ got d) × ((r ≡ located d near far) × Fine d))
    by true go g = (e, (refl, ((cond_some true r _ g).1, h.0)))
    by false go g = go g

told_none : (l : List Entry) (f near far : ℕ) → None ≡ row_told (searched l f) near far → searched l f ≡ refused 7 0
told_none [] f near far g = refl
told_none (e ∷ l) f near far g = by (eqb f e.number) (told_none l f near far) g
  where
    by : (t : Bool) → (None ≡ row_told (searched l f) near far → searched l f ≡ refused 7 0)
        → None ≡ row_told (pick t (got e) (searched l f)) near far → pick t (got e) (searched l f) ≡ refused 7 0
    by true go g = absurd (none-some (located e near far) g)
    by false go g = go g

pub row-some : (f : ℕ) (s : Layout) (r : FieldRow) → Some r ≡ row_for f s → RowIn (rows_of s.first s.end) f s.near s.far r
row-some f s r h = told_some (rows_of s.first s.end) f s.near s.far r (fine_rows s.first s.end) h

pub row-none : (f : ℕ) (s : Layout) → None ≡ row_for f s → searched (rows_of s.first s.end) f ≡ refused 7 0
row-none f s h = told_none (rows_of s.first s.end) f s.near s.far h

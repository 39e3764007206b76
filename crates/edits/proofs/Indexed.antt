-- The rows of the code's table, and the index of a field's. Assumes nothing.
use Prim.Native.Nat.{ℕ, zero, suc, ◌+◌, ◌<◌, ◌≤◌, ◌^◌}
use mathlib.Core.Bool.{Bool, true, false}
use mathlib.Core.List.{List, [], ◌∷◌, map}
use mathlib.Core.Path.{◌≡◌, refl, ap, ap₂, sym, ◌∙◌}
use native.Mathlib.Omega.{arith}
use lib.ListN.{length, get_or}
use lib.Dec.{leb, ltb, eqb}
use borrow.Author.Tests.{leb-true}
use Rattle.std.specs.List.{position_or_len}
use Rattle.std.specs.Prelude.{Some, None, cond, not, position}
use Rattle.codec.specs.Pick.{pick}
use Rattle.codec.proofs.Back.{both}
use Rattle.edits.specs.Table.{Origin, Start, Near, Far, Entry, entry_with, table, no_row, origin_at, located, place_from, place_in, row_from, InPayload, index_found, no_line}
use Rattle.edits.specs.declared.table.Place.{Place}
use Rattle.edits.specs.declared.table.Place.TheVariants.{Start as AtStart, Near as AtNear, Far as AtFar}
use Rattle.edits.specs.declared.table.Field.{Field}
use Rattle.edits.specs.declared.table.FieldRow.{FieldRow}
use Rattle.edits.specs.declared.table.TheConstants.{FIELDS}

-- ---- a row of the code's table as an entry
abbrev origin_in : Place → Origin
origin_in (AtStart n) = Start
origin_in (AtNear n) = Near
origin_in (AtFar n) = Far

abbrev behind : Place → ℕ
behind (AtStart n) = n
behind (AtNear n) = n
behind (AtFar n) = n

abbrev pub entry_in : Field → Entry
entry_in x = entry_with x.0 x.1 x.2 x.3 (behind x.4) (origin_in x.4) x.5 x.6

place_is : (p : Place) (near far : ℕ) → place_from p near far ≡ origin_at (origin_in p) near far + behind p
place_is (AtStart n) near far = omega arith
place_is (AtNear n) near far = refl
place_is (AtFar n) near far = refl

row_in : (x : Field) (near far : ℕ) → row_from x near far ≡ located (entry_in x) near far
row_in x near far = rw (place_is x.4 near far)

at_entry : (t : List Field) (k : ℕ) (d : Field) → k < length t → entry_in (get_or t k d) ≡ get_or (map entry_in t) k no_row
at_entry [] k d h = absurd (omega arith)
at_entry (x ∷ t) zero d h = refl
at_entry (x ∷ t) (suc k) d h = at_entry t k d (omega arith)

-- ---- the code's table is the table
fields_same : map entry_in FIELDS ≡ table
fields_same = refl

pub row_at_lem : (k : ℕ) (d : Field) (near far : ℕ) → k < 32
    → row_from (get_or FIELDS k d) near far ≡ located (get_or table k no_row) near far
row_at_lem k d near far h =
    row_in (get_or FIELDS k d) near far
    ∙ ap (λ (e : Entry). located e near far) (at_entry FIELDS k d h ∙ ap (λ (l : List Entry). get_or l k no_row) fields_same)

-- ---- every place is small
abbrev small : List Entry → Bool
small [] = true
small (e ∷ l) = pick (leb e.place 60) (small l) false

small-at : (l : List Entry) (k : ℕ) → small l ≡ true → (get_or l k no_row).place ≤ 60
small-at [] k h = omega arith
small-at (e ∷ l) zero h = leb-true e.place 60 (both (leb e.place 60) (small l) h).0
small-at (e ∷ l) (suc k) h = small-at l k (both (leb e.place 60) (small l) h).1

small-table : small table ≡ true
small-table = refl

near_far : (o : Origin) (near far : ℕ) → InPayload near → InPayload far → origin_at o near far ≤ 60
near_far Start near far a b = omega arith
near_far Near near far a b = a
near_far Far near far a b = b

pub place_small : (k : ℕ) (d : Field) (near far : ℕ) → k < 32 → InPayload near → InPayload far → place_in (get_or FIELDS k d) near far < 2 ^ 64
place_small k d near far h a b =
    let e = get_or table k no_row in
    let g : place_in (get_or FIELDS k d) near far ≡ origin_at e.origin near far + e.place = ap (λ (x : FieldRow). x.place) (row_at_lem k d near far h) in
    let l = near_far e.origin near far a b in
    let m = small-at table k small-table in
    omega (arith, g, l, m)

-- ---- the search by number
abbrev pub code_has : ℕ → Field → Bool
code_has f x = eqb x.0 f

abbrev has : ℕ → Entry → Bool
has f e = eqb e.number f

length_same : (t : List Field) → length t ≡ length (map entry_in t)
length_same [] = refl
length_same (x ∷ t) = ap suc (length_same t)

first_same : (f : ℕ) (t : List Field) → position_or_len (code_has f) t ≡ position_or_len (has f) (map entry_in t)
first_same f [] = refl
first_same f (x ∷ t) = ap (λ (n : ℕ). cond (not (eqb x.0 f)) (1 + n) 0) (first_same f t)

position_same : (f : ℕ) (t : List Field) → position (code_has f) t ≡ position (has f) (map entry_in t)
position_same f t =
    ap₂ (λ (m n : ℕ). cond (ltb m n) (Some m) None) (first_same f t) (length_same t)

pub found_same : (f : ℕ) → position (code_has f) FIELDS ≡ index_found f
found_same f = position_same f FIELDS ∙ ap (λ (l : List Entry). position (has f) l) fields_same

-- ---- a line by a match on its index
pub line_at : {i k : ℕ} → i ≡ k → get_or FIELDS k no_line ≡ get_or FIELDS i no_line
line_at h = ap (λ (n : ℕ). get_or FIELDS n no_line) (sym h)

-- the last arm: none of those below
abbrev pub NoneFrom : ℕ → ℕ → ℕ → Type 0 → Type 0
NoneFrom i k zero A = A
NoneFrom i k (suc n) A = NoneFrom i (k + 1) n (A × (i ≡ k → ⊥))

held : (i k n : ℕ) (A : Type 0) → NoneFrom i k n A → A
held i k zero A h = h
held i k (suc n) A h = (held i (k + 1) n (A × (i ≡ k → ⊥)) h).0

none_from : (i k n : ℕ) (A : Type 0) → NoneFrom i k n A → k ≤ i → k + n ≤ i
none_from i k zero A h a = omega arith
none_from i k (suc n) A h a =
    let ne : i ≡ k → ⊥ = (held i (k + 1) n (A × (i ≡ k → ⊥)) h).1 in
    let b : k + 1 + n ≤ i = none_from i (k + 1) n (A × (i ≡ k → ⊥)) h (omega (arith, ne)) in
    omega arith

pub last_line : (i : ℕ) → i < 32 → NoneFrom i 0 31 (Unit {0}) → get_or FIELDS 31 no_line ≡ get_or FIELDS i no_line
last_line i l h =
    let b : 0 + 31 ≤ i = none_from i 0 31 (Unit {0}) h (omega arith) in
    let e : i ≡ 31 = omega arith in
    line_at e

-- 01: "the command before it, with that one item equal to the new number and every other item as it was": for each of two fields of a
-- command, setting one leaves what the other reads. Assumes nothing.
use Prim.Native.Nat.{ℕ, zero, suc, ◌<◌}
use mathlib.Core.Bool.{Bool, true, false}
use mathlib.Core.List.{List, [], ◌∷◌}
use mathlib.Core.Path.{◌≡◌, refl, ap, ap₂, sym, subst, ◌∙◌}
use native.Mathlib.Omega.{arith}
use lib.ListN.{length, get_or, set}
use lib.Seq.{get_or-set_same, get_or-set_other}
use lib.Dec.{eqb, ltb}
use borrow.Author.Tests.{eq-eqb, eqb-true, eqb-false}
use Rattle.codec.specs.Pick.{pick}
use Rattle.codec.specs.Sheet.{Field, field, Item, packed, text, Answer, got, refused, and_then}
use Rattle.codec.specs.Edit.{set_value, in_field}
use Rattle.codec.specs.Reading.{within}
use Rattle.codec.specs.Writing.{ok_item, ok_items}
use Rattle.codec.proofs.Back.{both, passed}
use Rattle.codec.proofs.Patch.{ok_length}
use Rattle.families.specs.Payload.{family_id}
use Rattle.commands.specs.declared.DirectCommands.{DirectCommands}
use Rattle.commands.proofs.Promised.{Sound}
use Rattle.edits.specs.Fields.{Spot, spot, Standing, of, Listed, everywhere, listed, fields, item_in, spot_in}
use Rattle.edits.specs.Record.{sub_of, items_in, values_in}
use Rattle.edits.specs.Edit.{field_of, field_at, spot_of, with_field, set_field}
use Rattle.edits.specs.Demand.{number_at, reads_by, reads}
use Rattle.edits.specs.Table.{number_listed}
use Rattle.edits.proofs.With.{Changed, items_ok, field-there, spot_free, with_field_lem}

-- ---- where a row of 01's list has its field, in the command of a family and sub-command
abbrev gives : Listed → ℕ → ℕ → Answer Spot
gives (everywhere k i) id sub = got (spot i 0)
gives (listed k family at j) id sub = pick (eqb id family) (and_then (item_in at sub) (λ i. got (spot i j))) (refused 7 0)

-- ---- the test: no two rows have their field at the same place of a command
abbrev is_item : Answer ℕ → ℕ → Bool
is_item (got x) i = eqb x i
is_item (refused n p) i = false

abbrev any_item : List Standing → ℕ → Bool
any_item [] i = false
any_item (of k x ∷ l) i = pick (eqb x i) true (any_item l i)

abbrev meet : List Standing → List Standing → Bool
meet [] l = false
meet (of k i ∷ a) l = pick (is_item (item_in l k) i) true (meet a l)

abbrev clash : Listed → Listed → Bool
clash (everywhere k i) (everywhere l x) = eqb i x
clash (everywhere k i) (listed l family at y) = pick (eqb 0 y) (any_item at i) false
clash (listed k family at j) (everywhere l x) = pick (eqb j 0) (any_item at x) false
clash (listed k family at j) (listed l other at' y) = pick (eqb family other) (pick (eqb j y) (meet at at') false) false

abbrev clash_any : Listed → List Listed → Bool
clash_any a [] = false
clash_any a (b ∷ l) = pick (clash a b) true (clash_any a l)

abbrev apart : List Listed → Bool
apart [] = true
apart (a ∷ l) = pick (clash_any a l) false (apart l)

fields-apart : apart fields ≡ true
fields-apart = refl

false-true : false ≡ true → ⊥
false-true e = let z : ◌≡◌ {A = ℕ} 0 1 = cc in omega arith

-- ---- two rows at the same place clash
item_any : (l : List Standing) (sub i : ℕ) → item_in l sub ≡ got i → any_item l i ≡ true
item_any [] sub i e = let z : ◌≡◌ {A = ℕ} 0 1 = cc in absurd (omega arith)
item_any (of k x ∷ l) sub i e = by (eqb sub k) (eqb x i) refl (item_any l sub i) e
  where
    by : (t u : Bool) → eqb x i ≡ u → (item_in l sub ≡ got i → any_item l i ≡ true) → pick t (got x) (item_in l sub) ≡ got i
        → pick u true (any_item l i) ≡ true
    by t true p go g = refl
    by false false p go g = go g
    by true false p go g = let d : x ≡ i = cc in absurd (eqb-false x i p d)

items-meet : (a l : List Standing) (sub i : ℕ) → item_in a sub ≡ got i → item_in l sub ≡ got i → meet a l ≡ true
items-meet [] l sub i e h = let z : ◌≡◌ {A = ℕ} 0 1 = cc in absurd (omega arith)
items-meet (of k x ∷ a) l sub i e h = by (eqb sub k) refl (λ g. items-meet a l sub i g h) e
  where
    here : is_item (item_in l k) x ≡ true → pick (is_item (item_in l k) x) true (meet a l) ≡ true
    here p = rw p

    on : (t : Bool) → meet a l ≡ true → pick t true (meet a l) ≡ true
    on true p = refl
    on false p = p

    by : (t : Bool) → eqb sub k ≡ t → (item_in a sub ≡ got i → meet a l ≡ true) → pick t (got x) (item_in a sub) ≡ got i
        → pick (is_item (item_in l k) x) true (meet a l) ≡ true
    by true p go g =
        let d : x ≡ i = cc in
        let q : sub ≡ k = eqb-true sub k p in
        here (ap (λ (s : ℕ). is_item (item_in l s) x) (sym q) ∙ ap (λ (y : Answer ℕ). is_item y x) h ∙ eq-eqb i x (sym d))
    by false p go g = on (is_item (item_in l k) x) (go g)

-- what a row of a family gives
given : (family : ℕ) (at : List Standing) (y id sub i j : ℕ) → gives (listed 0 family at y) id sub ≡ got (spot i j)
    → (id ≡ family) × ((item_in at sub ≡ got i) × (y ≡ j))
given family at y id sub i j e = by (eqb id family) (item_in at sub) refl refl e
  where
    by : (t : Bool) (a : Answer ℕ) → eqb id family ≡ t → item_in at sub ≡ a → pick t (and_then a (λ x. got (spot x y)))
        (refused 7 0) ≡ got (spot i j)
        → (id ≡ family) × ((item_in at sub ≡ got i) × (y ≡ j))
    by true (got x) p q g = let d : x ≡ i = cc in let u : y ≡ j = cc in (eqb-true id family p, (q ∙ ap (λ (z : ℕ). got z) d, u))
    by true (refused n m) p q g = let z : ◌≡◌ {A = ℕ} 0 1 = cc in absurd (omega arith)
    by false a p q g = let z : ◌≡◌ {A = ℕ} 0 1 = cc in absurd (omega arith)

clashes : (a b : Listed) (id sub i j : ℕ) → gives a id sub ≡ got (spot i j) → gives b id sub ≡ got (spot i j) → clash a b ≡ true
clashes (everywhere k x) (everywhere l y) id sub i j e h = let d : x ≡ i = cc in let u : y ≡ i = cc in eq-eqb x y (d ∙ sym u)
clashes (everywhere k x) (listed l family at y) id sub i j e h =
    let g = given family at y id sub i j h in
    let d : x ≡ i = cc in
    let u : 0 ≡ j = cc in
    rw (eq-eqb 0 y (u ∙ sym g.1.1)) (item_any at sub x (g.1.0 ∙ ap (λ (z : ℕ). got z) (sym d)))
clashes (listed k family at y) (everywhere l x) id sub i j e h =
    let g = given family at y id sub i j e in
    let d : x ≡ i = cc in
    let u : 0 ≡ j = cc in
    rw (eq-eqb y 0 (g.1.1 ∙ sym u)) (item_any at sub x (g.1.0 ∙ ap (λ (z : ℕ). got z) (sym d)))
clashes (listed k family at y) (listed l other at' y') id sub i j e h =
    let g = given family at y id sub i j e in
    let g' = given other at' y' id sub i j h in
    rw (eq-eqb family other (sym g.0 ∙ g'.0), eq-eqb y y' (g.1.1 ∙ sym g'.1.1)) (items-meet at at' sub i g.1.0 g'.1.0)

-- ---- 01's list, one row after the other
found : (a : Listed) (l : List Listed) (id sub f : ℕ) → spot_in (a ∷ l) id sub f ≡ pick (eqb f (number_listed a))
    (gives a id sub) (spot_in l id sub f)
found (everywhere k i) l id sub f = refl
found (listed k family at j) l id sub f = refl

some-clash : (a : Listed) (l : List Listed) (id sub g i j : ℕ) → gives a id sub ≡ got (spot i j)
    → spot_in l id sub g ≡ got (spot i j) → clash_any a l ≡ true
some-clash a [] id sub g i j e h = let z : ◌≡◌ {A = ℕ} 0 1 = cc in absurd (omega arith)
some-clash a (b ∷ l) id sub g i j e h = by (eqb g (number_listed b)) (clash a b) refl (some-clash a l id sub g i j e)
    (sym (found b l id sub g) ∙ h)
  where
    by : (t u : Bool) → clash a b ≡ u → (spot_in l id sub g ≡ got (spot i j) → clash_any a l ≡ true)
        → pick t (gives b id sub) (spot_in l id sub g) ≡ got (spot i j) → pick u true (clash_any a l) ≡ true
    by t true p go x = refl
    by true false p go x = absurd (false-true (sym p ∙ clashes a b id sub i j e x))
    by false false p go x = go x

one_place : (l : List Listed) (id sub f g i j : ℕ) → apart l ≡ true → spot_in l id sub f ≡ got (spot i j)
    → spot_in l id sub g ≡ got (spot i j) → f ≡ g
one_place [] id sub f g i j t e h = let z : ◌≡◌ {A = ℕ} 0 1 = cc in absurd (omega arith)
one_place (a ∷ l) id sub f g i j t e h =
    by (eqb f (number_listed a)) (eqb g (number_listed a)) (clash_any a l) refl refl refl (one_place l id sub f g i j) t
    (sym (found a l id sub f) ∙ e) (sym (found a l id sub g) ∙ h)
  where
    never : clash_any a l ≡ false → clash_any a l ≡ true → f ≡ g
    never p q = absurd (false-true (sym p ∙ q))

    by : (u v c : Bool) → eqb f (number_listed a) ≡ u → eqb g (number_listed a) ≡ v → clash_any a l ≡ c
        → (apart l ≡ true → spot_in l id sub f ≡ got (spot i j) → spot_in l id sub g ≡ got (spot i j) → f ≡ g) → pick c false (apart l) ≡ true
        → pick u (gives a id sub) (spot_in l id sub f) ≡ got (spot i j) → pick v (gives a id sub)
        (spot_in l id sub g) ≡ got (spot i j) → f ≡ g
    by u v true p q r go s x y = let z : ◌≡◌ {A = ℕ} 0 1 = cc in absurd (omega arith)
    by true true false p q r go s x y = eqb-true f (number_listed a) p ∙ sym (eqb-true g (number_listed a) q)
    by true false false p q r go s x y = never r (some-clash a l id sub g i j x y)
    by false true false p q r go s x y = never r (some-clash a l id sub f i j y x)
    by false false false p q r go s x y = go s x y

-- ---- a value set, and read
set_here : (vs : List (List ℕ)) (i j n : ℕ) → i < length vs → j < length (get_or vs i []) → get_or (get_or (set_value vs i j n) i []) j 0 ≡ n
set_here vs i j n a b = ap (λ (v : List ℕ). get_or v j 0) (get_or-set_same vs i (set (get_or vs i []) j n) [] a)
    ∙ get_or-set_same (get_or vs i []) j n 0 b

set_there : (vs : List (List ℕ)) (i j n x y : ℕ) → i < length vs → (i ≡ x → j ≡ y → ⊥)
    → get_or (get_or (set_value vs i j n) x []) y 0 ≡ get_or (get_or vs x []) y 0
set_there vs i j n x y a d = by (eqb x i) (eqb y j) refl refl
  where
    by : (t u : Bool) → eqb x i ≡ t → eqb y j ≡ u → get_or (get_or (set_value vs i j n) x []) y 0 ≡ get_or (get_or vs x []) y 0
    by false u p q = ap (λ (v : List ℕ). get_or v y 0) (get_or-set_other vs i x (set (get_or vs i []) j n) [] (eqb-false x i p))
    by true true p q = absurd (d (sym (eqb-true x i p)) (sym (eqb-true y j q)))
    by true false p q =
        let e : x ≡ i = eqb-true x i p in
        ap (λ (k : ℕ). get_or (get_or (set_value vs i j n) k []) y 0) e ∙ ap (λ (v : List ℕ). get_or v y 0)
        (get_or-set_same vs i (set (get_or vs i []) j n) [] a)
        ∙ get_or-set_other (get_or vs i []) j y n 0 (eqb-false y j q) ∙ ap (λ (k : ℕ). get_or (get_or vs k []) y 0) (sym e)

-- a value in range has a number for each field of its item
within-long : (fs : List Field) (v : List ℕ) → within fs v ≡ true → length v ≡ length fs
within-long [] [] h = refl
within-long [] (x ∷ v) h = let z : ◌≡◌ {A = ℕ} 0 1 = cc in absurd (omega arith)
within-long (f ∷ fs) [] h = let z : ◌≡◌ {A = ℕ} 0 1 = cc in absurd (omega arith)
within-long (field b lo hi ∷ fs) (x ∷ v) h =
    let p = passed (ltb x lo) (pick (ltb hi x) false (within fs v)) h in
    ap suc (within-long fs v (passed (ltb hi x) (within fs v) p.1).1)

value_long : (is : List Item) (vs : List (List ℕ)) (i w : ℕ) (fs : List Field) → ok_items is vs ≡ true
    → get_or is i (text 0 0) ≡ packed w fs → i < length is
    → length (get_or vs i []) ≡ length fs
value_long [] vs i w fs o e l = absurd (omega arith)
value_long (t ∷ is) [] i w fs o e l = let z : ◌≡◌ {A = ℕ} 0 1 = cc in absurd (omega arith)
value_long (t ∷ is) (v ∷ vs) zero w fs o e l = within-long fs v
    (subst (λ (x : Item). ok_item x v ≡ true) e (both (ok_item t v) (ok_items is vs) o).0)
value_long (t ∷ is) (v ∷ vs) (suc i) w fs o e l = value_long is vs i w fs (both (ok_item t v) (ok_items is vs) o).1 e (omega arith)

-- ---- THE law: the field that is set reads the new number, every other what it read
abbrev pub ReadsAfter : DirectCommands → ℕ → ℕ → DirectCommands → Type 0
ReadsAfter c f n c' = (reads c' f ≡ got n) × ((g : ℕ) → (g ≡ f → ⊥) → reads c' g ≡ reads c g)

module _ (c : DirectCommands) (f n i j : ℕ) (d : Field) (z : Sound c) (e : spot_of c f ≡ got (spot i j))
    (g : field_at c (spot i j) ≡ got d) (r : in_field d n ≡ true) where
  abbrev c' : DirectCommands
  c' = with_field c (spot i j) n

  abbrev changes : Changed c (set_value (values_in c) i j n) c'
  changes = with_field_lem c i j n d z (spot_free c f i j e) g r

  -- a field stands where it stood, in the same item
  stands : (h : ℕ) → spot_of c' h ≡ spot_of c h
  stands h = ap₂ (λ (id sub : ℕ). spot_in fields id sub h) changes.family changes.sub

  same-field : (x y : ℕ) → field_at c' (spot x y) ≡ field_at c (spot x y)
  same-field x y = ap (λ (is : List Item). field_of (get_or is x (text 0 0)) y) changes.items

  there : (i < length (values_in c)) × (j < length (get_or (values_in c) i []))
  there =
      let t = field-there (items_in c) i j d g in
      let o = items_ok c z in
      let k = value_long (items_in c) (values_in c) i t.wide t.all o t.holds t.inside in
      (omega (arith, t.inside, ok_length (items_in c) (values_in c) o), omega (arith, k, t.within))

  new : reads c' f ≡ got n
  new =
      ap (λ (a : Answer Spot). reads_by c' a) (stands f ∙ e)
      ∙ ap (λ (a : Answer Field). and_then a (λ x. got (number_at c' (spot i j)))) (same-field i j ∙ g)
      ∙ ap (λ (vs : List (List ℕ)). got (get_or (get_or vs i []) j 0)) changes.values ∙ ap (λ (x : ℕ). got x)
      (set_here (values_in c) i j n there.0 there.1)

  other : (h : ℕ) → (h ≡ f → ⊥) → reads c' h ≡ reads c h
  other h ne = ap (λ (a : Answer Spot). reads_by c' a) (stands h) ∙ by (spot_of c h) refl
    where
      by : (a : Answer Spot) → spot_of c h ≡ a → reads_by c' a ≡ reads_by c a
      by (refused k l) p = refl
      by (got (spot x y)) p =
          ap₂ (λ (a : Answer Field) (m : ℕ). and_then a (λ q. got m)) (same-field x y)
          (ap (λ (vs : List (List ℕ)). get_or (get_or vs x []) y 0) changes.values
          ∙ set_there (values_in c) i j n x y there.0
          (λ q s. ne (one_place fields (family_id c.payload) (sub_of c.payload) h f i j fields-apart
          (p ∙ ap₂ (λ (u v : ℕ). got (spot u v)) (sym q) (sym s)) e)))

pub set_reads : (c : DirectCommands) → Sound c → (f n : ℕ) (c' : DirectCommands) → set_field c f n ≡ got c' → ReadsAfter c f n c'
set_reads c z f n c' h = by-spot (spot_of c f) refl h
  where
    by-range : (i j : ℕ) (d : Field) (t : Bool) → spot_of c f ≡ got (spot i j) → field_at c (spot i j) ≡ got d → in_field d n ≡ t
        → pick t (got (with_field c (spot i j) n)) (refused 8 0) ≡ got c' → ReadsAfter c f n c'
    by-range i j d true e g r q =
        let same : with_field c (spot i j) n ≡ c' = cc in
        subst (ReadsAfter c f n) same (new c f n i j d z e g r, other c f n i j d z e g r)
    by-range i j d false e g r q = let x : ◌≡◌ {A = ℕ} 0 1 = cc in absurd (omega arith)

    by_field : (i j : ℕ) (a : Answer Field) → spot_of c f ≡ got (spot i j) → field_at c (spot i j) ≡ a
        → and_then a (λ d. pick (in_field d n) (got (with_field c (spot i j) n)) (refused 8 0)) ≡ got c' → ReadsAfter c f n c'
    by_field i j (got d) e g q = by-range i j d (in_field d n) e g refl q
    by_field i j (refused k l) e g q = let x : ◌≡◌ {A = ℕ} 0 1 = cc in absurd (omega arith)

    by-spot : (a : Answer Spot) → spot_of c f ≡ a
        → and_then a (λ s. and_then (field_at c s) (λ d. pick (in_field d n) (got (with_field c s n)) (refused 8 0))) ≡ got c'
        → ReadsAfter c f n c'
    by-spot (got (spot i j)) e q = by_field i j (field_at c (spot i j)) e refl q
    by-spot (refused k l) e q = let x : ◌≡◌ {A = ℕ} 0 1 = cc in absurd (omega arith)

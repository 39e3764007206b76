-- Sheets one after the other. Assumes nothing.
use Prim.Native.Nat.{ℕ, ◌+◌, ◌≤◌}
use mathlib.Core.Bool.{Bool, true, false}
use mathlib.Core.List.{List, [], ◌∷◌, ◌++◌, append_assoc}
use mathlib.Core.Path.{◌≡◌, refl, ap, sym}
use native.Mathlib.Omega.{arith}
use lib.ListN.{length, length-append}
use lib.Dec.{ltb}
use native.Mathlib.Nat.{add-zero}
use borrow.Author.Tests.{lt-ltb, le-ltb, ltb-true, ltb-false}
use Rattle.codec.specs.Pick.{pick}
use Rattle.codec.specs.Sheet.{Item, size_of}
use Rattle.codec.specs.Reading.{end_of}
use Rattle.codec.specs.Writing.{ok_item, item_bytes, write_items, ok_items, stop_each}
use Rattle.codec.proofs.Back.{both, joined, size_is}

pub end_is_lem : (is : List Item) (vs : List (List ℕ)) (at : ℕ) → end_of is vs at ≡ at + length (write_items is vs)
end_is_lem [] vs at = omega arith
end_is_lem (i ∷ is) [] at = omega arith
end_is_lem (i ∷ is) (v ∷ vs) at = rw (length-append (item_bytes i v) (write_items is vs), size_is i v, end_is_lem is vs (at + size_of i v)) (omega arith)

pub ok_join : (is js : List Item) (xs ys : List (List ℕ)) → ok_items is xs ≡ true → ok_items js ys ≡ true → ok_items (is ++ js) (xs ++ ys) ≡ true
ok_join [] js [] ys g h = h
ok_join [] js (a ∷ xs) ys g h = let z : ◌≡◌ {A = ℕ} 0 1 = cc in absurd (omega arith)
ok_join (i ∷ is) js [] ys g h = let z : ◌≡◌ {A = ℕ} 0 1 = cc in absurd (omega arith)
ok_join (i ∷ is) js (a ∷ xs) ys g h = let o = both (ok_item i a) (ok_items is xs) g in rw o.0 (ok_join is js xs ys o.1 h)

pub ok_split : (is js : List Item) (vs : List (List ℕ)) → ok_items (is ++ js) vs ≡ true
    → (xs : List (List ℕ)) × ((ys : List (List ℕ)) × ((vs ≡ xs ++ ys) × ((ok_items is xs ≡ true) × (ok_items js ys ≡ true))))
ok_split [] js vs h = ([], (vs, (refl, (refl, h))))
ok_split (i ∷ is) js [] h = let z : ◌≡◌ {A = ℕ} 0 1 = cc in absurd (omega arith)
ok_split (i ∷ is) js (v ∷ vs) h =
    let o = both (ok_item i v) (ok_items (is ++ js) vs) h in
    let r = ok_split is js vs o.1 in
    (v ∷ r.0, (r.1.0, (ap (λ (l : List (List ℕ)). v ∷ l) r.1.1.0, (joined (ok_item i v) (ok_items is r.0) o.0 r.1.1.1.0, r.1.1.1.1))))

pub write_join : (is js : List Item) (xs ys : List (List ℕ)) → ok_items is xs ≡ true → write_items (is ++ js) (xs ++ ys) ≡ write_items is xs ++ write_items js ys
write_join [] js [] ys h = refl
write_join [] js (a ∷ xs) ys h = let z : ◌≡◌ {A = ℕ} 0 1 = cc in absurd (omega arith)
write_join (i ∷ is) js [] ys h = let z : ◌≡◌ {A = ℕ} 0 1 = cc in absurd (omega arith)
write_join (i ∷ is) js (a ∷ xs) ys h =
    let o = both (ok_item i a) (ok_items is xs) h in
    rw (write_join is js xs ys o.1) (sym (append_assoc (item_bytes i a) (write_items is xs) (write_items js ys)))

-- values that are in range, one for each item
pub data Each : List Item → List (List ℕ) → Type 0 where
  none : Each [] []
  one : {i : Item} {is : List Item} {v : List ℕ} {vs : List (List ℕ)} → ok_item i v ≡ true → Each is vs → Each (i ∷ is) (v ∷ vs)

pub each_of : (is : List Item) (vs : List (List ℕ)) → ok_items is vs ≡ true → Each is vs
each_of [] [] h = none
each_of [] (v ∷ vs) h = let z : ◌≡◌ {A = ℕ} 0 1 = cc in absurd (omega arith)
each_of (i ∷ is) [] h = let z : ◌≡◌ {A = ℕ} 0 1 = cc in absurd (omega arith)
each_of (i ∷ is) (v ∷ vs) h = let o = both (ok_item i v) (ok_items is vs) h in one o.0 (each_of is vs o.1)

-- items that are in range stop only at the room for all of them; then the rest decides
pub stop-join : (n room at : ℕ) (is js : List Item) (xs ys : List (List ℕ)) → ok_items is xs ≡ true → at ≤ room
    → stop_each n room at (is ++ js) (xs ++ ys)
    ≡ pick (ltb room (at + length (write_items is xs))) n (stop_each n room (at + length (write_items is xs)) js ys)
stop-join n room at [] js [] ys o h = rw (add-zero at, le-ltb room at h)
stop-join n room at [] js (x ∷ xs) ys o h = let z : ◌≡◌ {A = ℕ} 0 1 = cc in absurd (omega arith)
stop-join n room at (i ∷ is) js [] ys o h = let z : ◌≡◌ {A = ℕ} 0 1 = cc in absurd (omega arith)
stop-join n room at (i ∷ is) js (x ∷ xs) ys o h =
    let b = both (ok_item i x) (ok_items is xs) o in
    let e : at + length (item_bytes i x ++ write_items is xs) ≡ at + size_of i x + length (write_items is xs) = rw (length-append, size_is) (omega arith) in
    rw (b.0, e) (by (ltb room (at + size_of i x)) refl (stop-join n room (at + size_of i x) is js xs ys b.1))
  where
    by : (t : Bool) → ltb room (at + size_of i x) ≡ t
        → (at + size_of i x ≤ room → stop_each n room (at + size_of i x) (is ++ js) (xs ++ ys)
        ≡ pick (ltb room (at + size_of i x + length (write_items is xs))) n (stop_each n room (at + size_of i x + length (write_items is xs)) js ys))
        → pick t n (stop_each n room (at + size_of i x) (is ++ js) (xs ++ ys))
        ≡ pick (ltb room (at + size_of i x + length (write_items is xs))) n (stop_each n room (at + size_of i x + length (write_items is xs)) js ys)
    by true p go = let l = ltb-true room (at + size_of i x) p in rw (lt-ltb room (at + size_of i x + length (write_items is xs)) (omega arith))
    by false p go = go (ltb-false room (at + size_of i x) p)

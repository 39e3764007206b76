-- What the judging functions' branches cite. Assumes nothing.
use Prim.Native.Nat.{ℕ, suc, ◌+◌, ◌≤◌}
use mathlib.Core.List.{List, [], ◌∷◌, ◌++◌}
use lib.ListN.{length, length-append}
use mathlib.Core.Bool.{Bool, true, false}
use mathlib.Core.Path.{◌≡◌, refl}
use native.Mathlib.Omega.{arith}
use lib.Dec.{ltb, eqb}
use borrow.Author.Tests.{ltb-true, ltb-false, lt-ltb, le-ltb, eqb-true}
use Rattle.codec.specs.Pick.{pick}
use Rattle.codec.specs.Sheet.{Item, Row, Said, said, size_of, got}
use Rattle.codec.specs.Reading.{read_body}
use Rattle.codec.specs.Writing.{ok_item, ok_items, item_bytes, write_items, items_of, write_body, stop_each, stop_in_order, stop_values_first}
use Rattle.codec.specs.Sound.{known, has_row, sound_rows}
use Rattle.codec.proofs.Back.{size_is, both, body_back}

-- room for less is no further test
pub room_again : (room a b x : ℕ) → a ≤ b → pick (ltb room a) 3 (pick (ltb room b) 3 x) ≡ pick (ltb room b) 3 x
room_again room a b x h = by (ltb room a) refl
  where
    by : (t : Bool) → ltb room a ≡ t → pick t 3 (pick (ltb room b) 3 x) ≡ pick (ltb room b) 3 x
    by true e = let l = ltb-true room a e in rw (lt-ltb room b (omega arith))
    by false e = refl

-- a body that nothing stops is in range and has room
pub each_ok : (n room at : ℕ) (is : List Item) (vs : List (List ℕ)) → length is ≡ length vs → stop_each (suc n) room at is vs ≡ 0
    → (ok_items is vs ≡ true) × (at ≤ room → at + length (write_items is vs) ≤ room)
each_ok n room at [] [] l h = (refl, λ k. omega arith)
each_ok n room at [] (v ∷ vs) l h = absurd (omega arith)
each_ok n room at (i ∷ is) [] l h = absurd (omega arith)
each_ok n room at (i ∷ is) (v ∷ vs) l h = by (ok_item i v) (ltb room (at + size_of i v)) refl refl h (each_ok n room (at + size_of i v) is vs (omega arith))
  where
    by : (o t : Bool) → ok_item i v ≡ o → ltb room (at + size_of i v) ≡ t → pick o (pick t (suc n) (stop_each (suc n) room (at + size_of i v) is vs)) 2 ≡ 0
        → (stop_each (suc n) room (at + size_of i v) is vs ≡ 0
        → (ok_items is vs ≡ true) × (at + size_of i v ≤ room → at + size_of i v + length (write_items is vs) ≤ room))
        → (ok_items (i ∷ is) (v ∷ vs) ≡ true) × (at ≤ room → at + length (write_items (i ∷ is) (v ∷ vs)) ≤ room)
    by true true p q g go = absurd (omega arith)
    by true false p q g go =
        let r = go g in
        let k = ltb-false room (at + size_of i v) q in
        let m = r.1 (omega arith) in
        (rw p r.0, λ z. rw (length-append (item_bytes i v) (write_items is vs), size_is i v) (omega arith))
    by false t p q g go = absurd (omega arith)

pub in_order_ok : (rs : List Row) (room sub : ℕ) (vs : List (List ℕ)) → length (items_of rs sub) ≡ length vs → stop_in_order rs room (said sub vs) ≡ 0
    → (ok_items (items_of rs sub) vs ≡ true) × (length (write_body rs (said sub vs)) ≤ room)
in_order_ok rs room sub vs l h = by (ltb room 1) refl h
  where
    by : (t : Bool) → ltb room 1 ≡ t → pick t 3 (stop_each 3 room 1 (items_of rs sub) vs) ≡ 0
        → (ok_items (items_of rs sub) vs ≡ true) × (length (write_body rs (said sub vs)) ≤ room)
    by true e g = absurd (omega arith)
    by false e g = let r = each_ok 2 room 1 (items_of rs sub) vs l g in let k = ltb-false room 1 e in let m = r.1 (omega arith) in (r.0, omega arith)

pub values_first_ok : (rs : List Row) (room : ℕ) (sub : ℕ) (vs : List (List ℕ)) → stop_values_first rs room (said sub vs) ≡ 0
    → (ok_items (items_of rs sub) vs ≡ true) × (length (write_body rs (said sub vs)) ≤ room)
values_first_ok rs room sub vs h = by (ok_items (items_of rs sub) vs) (ltb room (length (write_body rs (said sub vs)))) refl refl h
  where
    by : (o t : Bool) → ok_items (items_of rs sub) vs ≡ o → ltb room (length (write_body rs (said sub vs))) ≡ t → ◌≡◌ {A = ℕ} (pick o (pick t 3 0) 2) 0
        → (ok_items (items_of rs sub) vs ≡ true) × (length (write_body rs (said sub vs)) ≤ room)
    by true true p q g = absurd (omega arith)
    by true false p q g = (p, ltb-false room (length (write_body rs (said sub vs))) q)
    by false t p q g = absurd (omega arith)

pub values_first_fits : (rs : List Row) (room : ℕ) (b : Said) → stop_values_first rs room b ≡ 0 → length (write_body rs b) ≤ room
values_first_fits rs room (said sub vs) h = (values_first_ok rs room sub vs h).1

-- THE round trip, over all sheets: what nothing stops reads back
pub back_values_first : (rs : List Row) (room : ℕ) (b : Said) (post : List ℕ) → sound_rows rs ≡ true → known rs b ≡ true
    → stop_values_first rs room b ≡ 0 → read_body rs (write_body rs b ++ post) ≡ got b
back_values_first rs room (said sub vs) post s k h =
    let k1 = both (has_row rs sub) (pick (ltb sub 256) (eqb (length (items_of rs sub)) (length vs)) false) k in
    let k2 = both (ltb sub 256) (eqb (length (items_of rs sub)) (length vs)) k1.1 in
    body_back rs sub vs post s k1.0 (ltb-true sub 256 k2.0) (values_first_ok rs room sub vs h).0

pub back_in_order : (rs : List Row) (room : ℕ) (b : Said) (post : List ℕ) → sound_rows rs ≡ true → known rs b ≡ true
    → stop_in_order rs room b ≡ 0 → read_body rs (write_body rs b ++ post) ≡ got b
back_in_order rs room (said sub vs) post s k h =
    let k1 = both (has_row rs sub) (pick (ltb sub 256) (eqb (length (items_of rs sub)) (length vs)) false) k in
    let k2 = both (ltb sub 256) (eqb (length (items_of rs sub)) (length vs)) k1.1 in
    body_back rs sub vs post s k1.0 (ltb-true sub 256 k2.0) (in_order_ok rs room sub vs (eqb-true (length (items_of rs sub)) (length vs) k2.1) h).0

pub in_order_fits : (rs : List Row) (room : ℕ) (b : Said) → known rs b ≡ true → stop_in_order rs room b ≡ 0 → length (write_body rs b) ≤ room
in_order_fits rs room (said sub vs) k h =
    let k1 = both (has_row rs sub) (pick (ltb sub 256) (eqb (length (items_of rs sub)) (length vs)) false) k in
    let k2 = both (ltb sub 256) (eqb (length (items_of rs sub)) (length vs)) k1.1 in
    (in_order_ok rs room sub vs (eqb-true (length (items_of rs sub)) (length vs) k2.1) h).1

-- where every value is in range, only the room for all bytes is looked at
pub each_room : (n room at : ℕ) (is : List Item) (vs : List (List ℕ)) → ok_items is vs ≡ true → at ≤ room
    → stop_each n room at is vs ≡ pick (ltb room (at + length (write_items is vs))) n 0
each_room n room at [] [] o h = rw (le-ltb room (at + 0) (omega arith))
each_room n room at [] (v ∷ vs) o h = let z : ◌≡◌ {A = ℕ} 0 1 = cc in absurd (omega arith)
each_room n room at (i ∷ is) [] o h = let z : ◌≡◌ {A = ℕ} 0 1 = cc in absurd (omega arith)
each_room n room at (i ∷ is) (v ∷ vs) o h =
    let b = both (ok_item i v) (ok_items is vs) o in
    let e : at + length (item_bytes i v ++ write_items is vs) ≡ at + size_of i v + length (write_items is vs) = rw (length-append, size_is) (omega arith) in
    rw (b.0, e) (by (ltb room (at + size_of i v)) refl (each_room n room (at + size_of i v) is vs b.1))
  where
    by : (t : Bool) → ltb room (at + size_of i v) ≡ t
        → (at + size_of i v ≤ room → stop_each n room (at + size_of i v) is vs ≡ pick (ltb room (at + size_of i v + length (write_items is vs))) n 0)
        → pick t n (stop_each n room (at + size_of i v) is vs) ≡ pick (ltb room (at + size_of i v + length (write_items is vs))) n 0
    by true p go = let l = ltb-true room (at + size_of i v) p in rw (lt-ltb room (at + size_of i v + length (write_items is vs)) (omega arith))
    by false p go = go (ltb-false room (at + size_of i v) p)

pub room-only : (rs : List Row) (room sub : ℕ) (vs : List (List ℕ)) → ok_items (items_of rs sub) vs ≡ true
    → stop_in_order rs room (said sub vs) ≡ pick (ltb room (length (write_body rs (said sub vs)))) 3 0
room-only rs room sub vs o = by (ltb room 1) refl
  where
    by : (t : Bool) → ltb room 1 ≡ t → pick t 3 (stop_each 3 room 1 (items_of rs sub) vs) ≡ pick (ltb room (length (write_body rs (said sub vs)))) 3 0
    by true p = let l = ltb-true room 1 p in rw (lt-ltb room (length (write_body rs (said sub vs))) (omega arith))
    by false p =
        let e : length (write_body rs (said sub vs)) ≡ 1 + length (write_items (items_of rs sub) vs) = omega arith in
        rw e (each_room 3 room 1 (items_of rs sub) vs o (ltb-false room 1 p))

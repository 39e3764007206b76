-- A body whose items are judged in turn, each by `values_first`, and then put. Assumes nothing.
use Rattle.std.specs.Prelude.{Ok, Err}
use Prim.Native.Nat.{ℕ, zero, suc, ◌+◌, ◌<◌, ◌≤◌}
use mathlib.Core.Bool.{Bool, true, false}
use mathlib.Core.List.{List, [], ◌∷◌, ◌++◌}
use mathlib.Core.Path.{◌≡◌, refl, ap, sym, ◌∙◌}
use native.Mathlib.Omega.{arith}
use lib.ListN.{length}
use lib.Seq.{sets}
use lib.Dec.{ltb}
use borrow.Author.Tests.{le-ltb, ltb-false}
use Rattle.codec.specs.Pick.{pick}
use Rattle.codec.specs.Digits.{bytes_of}
use Rattle.codec.specs.Sheet.{Item, Row, said, word, got, refused}
use Rattle.codec.specs.Writing.{ok_item, items_of, write_items, write_body, counted, stop_room, stop_each, stop_in_order, stop_values_first}
use Rattle.codec.specs.Refusals.{refusal_number}
use Rattle.codec.specs.Told.{Writes, WritesInOrder}
use Rattle.codec.specs.declared.refusal.Refusal.{Refusal}
use Rattle.codec.proofs.Items.{alone, ltb-zero}
use Rattle.codec.proofs.Stops.{room_again}
use Rattle.codec.proofs.Writes.{refusal_some, writes-count, writes-refused}

counted-some : (k n : ℕ) → 0 < k → counted k n ≡ refused k 0
counted-some zero n h = absurd (omega arith)
counted-some (suc k) n h = refl

-- a writer's two ends, by the number that stops it
pub writes-stop : (stop : ℕ) (w s : List ℕ) (r : Refusal) → stop ≡ refusal_number r → Writes stop w (Err r) s s
writes-stop stop w s r e = writes-refused stop w s r (rw e (sym (counted-some (refusal_number r) (length w) (refusal_some r))))

pub writes-all : (stop n : ℕ) (w s s' : List ℕ) → stop ≡ 0 → n ≡ length w → s' ≡ sets s 0 w → Writes stop w (Ok n) s s'
writes-all stop n w s s' e f g = writes-count stop n w s s' (rw (e, f)) g

-- an item that `values_first` refuses stops the whole; else what follows decides
pub item-stops : (o : Bool) (room end x : ℕ) (r : Refusal) → refused (refusal_number r) 0 ≡ counted (pick o (stop_room room end) 2) end
    → pick o (pick (ltb room end) 3 x) 2 ≡ refusal_number r
item-stops o room end x r h = by o (ltb room end) h
  where
    by : (o t : Bool) → refused (refusal_number r) 0 ≡ counted (pick o (pick t 3 0) 2) end → pick o (pick t 3 x) 2 ≡ refusal_number r
    by true true g = cc
    by true false g = let z : ◌≡◌ {A = ℕ} 0 1 = cc in absurd (omega arith)
    by false t g = cc

pub item-goes : (o : Bool) (room end x n : ℕ) → got n ≡ counted (pick o (stop_room room end) 2) end
    → (pick o (pick (ltb room end) 3 x) 2 ≡ x) × ((end ≤ room) × (n ≡ end))
item-goes o room end x n h = by o (ltb room end) refl h
  where
    by : (o t : Bool) → ltb room end ≡ t → got n ≡ counted (pick o (pick t 3 0) 2) end → (pick o (pick t 3 x) 2 ≡ x) × ((end ≤ room) × (n ≡ end))
    by true true e g = let z : ◌≡◌ {A = ℕ} 0 1 = cc in absurd (omega arith)
    by true false e g = (refl, (ltb-false room end e, cc))
    by false t e g = let z : ◌≡◌ {A = ℕ} 0 1 = cc in absurd (omega arith)

-- a body of one item that looks at its value first
values_one : (rs : List Row) (sub room n : ℕ) (i : Item) (v : List ℕ) → items_of rs sub ≡ i ∷ [] → length (write_body rs (said sub (v ∷ []))) ≡ n
    → stop_values_first rs room (said sub (v ∷ [])) ≡ pick (ok_item i v) (pick (ltb room n) 3 0) 2
values_one rs sub room n i v e f = rw (f, e) (by (ok_item i v) (ltb room n))
  where
    by : (o t : Bool) → ◌≡◌ {A = ℕ} (pick (pick o true false) (pick t 3 0) 2) (pick o (pick t 3 0) 2)
    by true t = refl
    by false t = refl

pub values-not : (rs : List Row) (sub n : ℕ) (i : Item) (v : List ℕ) (o : Bool) (s : List ℕ) (r : Refusal) → items_of rs sub ≡ i ∷ []
    → length (write_body rs (said sub (v ∷ []))) ≡ n → o ≡ ok_item i v → refused (refusal_number r) 0 ≡ counted (pick o (stop_room (length s) n) 2) n
    → Writes (stop_values_first rs (length s) (said sub (v ∷ []))) (write_body rs (said sub (v ∷ []))) (Err r) s s
values-not rs sub n i v o s r e f g h =
    writes-stop (stop_values_first rs (length s) (said sub (v ∷ []))) (write_body rs (said sub (v ∷ []))) s r
    (values_one rs sub (length s) n i v e f ∙ item-stops (ok_item i v) (length s) n 0 r (rw g at h))

pub values-all : (rs : List Row) (sub n m : ℕ) (i : Item) (v : List ℕ) (o : Bool) (s s' : List ℕ) → items_of rs sub ≡ i ∷ []
    → length (write_body rs (said sub (v ∷ []))) ≡ n → o ≡ ok_item i v → got m ≡ counted (pick o (stop_room (length s) n) 2) n
    → s' ≡ sets s 0 (write_body rs (said sub (v ∷ [])))
    → Writes (stop_values_first rs (length s) (said sub (v ∷ []))) (write_body rs (said sub (v ∷ []))) (Ok m) s s'
values-all rs sub n m i v o s s' e f g h p =
    let k = item-goes (ok_item i v) (length s) n 0 m (rw g at h) in
    writes-all (stop_values_first rs (length s) (said sub (v ∷ []))) m (write_body rs (said sub (v ∷ []))) s s'
    (values_one rs sub (length s) n i v e f ∙ k.0) (k.1.1 ∙ sym f) p

-- ---- items behind so many bytes that need room first, the first of them judged with those bytes: it stops the whole, or what follows decides
pub first_stops : (o : Bool) (room before end x stop : ℕ) (r : Refusal) → stop ≡ pick (ltb room before) 3 (pick o (pick (ltb room end) 3 x) 2)
    → refused (refusal_number r) 0 ≡ counted (pick (ltb room before) 3 (pick o (stop_room room end) 2)) end → stop ≡ refusal_number r
first_stops o room before end x stop r e h = e ∙ by (ltb room before) h
  where
    by : (t : Bool) → refused (refusal_number r) 0 ≡ counted (pick t 3 (pick o (stop_room room end) 2)) end
        → pick t 3 (pick o (pick (ltb room end) 3 x) 2) ≡ refusal_number r
    by true g = cc
    by false g = item-stops o room end x r g

pub first_goes : (o : Bool) (room before end x stop n : ℕ) → stop ≡ pick (ltb room before) 3 (pick o (pick (ltb room end) 3 x) 2)
    → got n ≡ counted (pick (ltb room before) 3 (pick o (stop_room room end) 2)) end → (stop ≡ x) × ((end ≤ room) × (n ≡ end))
first_goes o room before end x stop n e h = let k = by (ltb room before) h in (e ∙ k.0, k.1)
  where
    by : (t : Bool) → got n ≡ counted (pick t 3 (pick o (stop_room room end) 2)) end
        → (pick t 3 (pick o (pick (ltb room end) 3 x) 2) ≡ x) × ((end ≤ room) × (n ≡ end))
    by true g = let z : ◌≡◌ {A = ℕ} 0 1 = cc in absurd (omega arith)
    by false g = item-goes o room end x n g

-- "sub-command and time need room": then the items that follow decide
pub timed_stop : (rs : List Row) (room sub t : ℕ) (is : List Item) (vs : List (List ℕ)) → items_of rs sub ≡ word ∷ is → t < 65536
    → stop_in_order rs room (said sub ((t ∷ []) ∷ vs)) ≡ pick (ltb room 3) 3 (stop_each 3 room 3 is vs)
timed_stop rs room sub t is vs e h =
    rw (e, ltb-zero t, le-ltb 65535 t (omega arith), room_again room 1 3 (stop_each 3 room 3 is vs) (omega arith))

pub timed_all : (rs : List Row) (sub t n : ℕ) (is : List Item) (vs : List (List ℕ)) (s s' : List ℕ) → items_of rs sub ≡ word ∷ is
    → stop_in_order rs (length s) (said sub ((t ∷ []) ∷ vs)) ≡ 0 → n ≡ 3 + length (write_items is vs)
    → s' ≡ sets s 0 (sub ∷ (bytes_of 2 t ++ write_items is vs)) → WritesInOrder rs (said sub ((t ∷ []) ∷ vs)) (Ok n) s s'
timed_all rs sub t n is vs s s' e g f p =
    let w : write_body rs (said sub ((t ∷ []) ∷ vs)) ≡ sub ∷ (bytes_of 2 t ++ write_items is vs) = rw (e, alone t) in
    let k : length (write_body rs (said sub ((t ∷ []) ∷ vs))) ≡ 3 + length (write_items is vs) = ap length w ∙ omega arith in
    writes-all _ n (write_body rs (said sub ((t ∷ []) ∷ vs))) s s' g (f ∙ sym k) (rw w p)

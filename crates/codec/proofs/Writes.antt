-- Answers of the code: each tells one thing, and what is told fixes it. Assumes nothing.
use Rattle.std.specs.Prelude.{Result, Ok, Err}
use Prim.Native.Nat.{ℕ, zero, suc, ◌+◌, ◌-◌, ◌/◌, ◌%◌, ◌<◌, ◌≤◌}
use mathlib.Core.Bool.{Bool, true, false}
use mathlib.Core.List.{List, [], ◌∷◌, ◌++◌, append_assoc}
use mathlib.Core.Path.{◌≡◌, refl, ap, sym, ◌∙◌, subst}
use native.Mathlib.Omega.{arith}
use native.Mathlib.Nat.{div-one}
use lib.ListN.{length, take, drop}
use borrow.Rule.Slice.PartMut.{put_mid}
use Rattle.std.proofs.lemmas.List.Edits.{sets-eq}
use Rattle.std.proofs.lemmas.List.{drop-drop}
use lib.Seq.{sets, length-sets}
use lib.Dec.{ltb, eqb}
use borrow.Author.Tests.{le-ltb, lt-ltb, ltb-true, ltb-false}
use Rattle.codec.specs.Pick.{pick}
use Rattle.codec.specs.Digits.{bytes_of}
use Rattle.codec.specs.Sheet.{Row, said, Answer, got, refused, first}
use Rattle.codec.specs.Writing.{ok_items, items_of, write_body, counted, put_at, stop_room, stop_in_order, stop_values_first}
use Rattle.codec.specs.Refusals.{refusal_number, SetOut, numbered}
use Rattle.codec.specs.Told.{told_number, told_flag, told_written, written_out, count_out, Writes}
use Rattle.codec.specs.declared.refusal.Refusal.{Refusal}
use Rattle.codec.specs.declared.refusal.Refusal.TheVariants.{InvalidPayloadLength, InvalidPayload, BufferOverflow, FamilyLeftBehind, RecordNotMade, NotAsWritten, NoSuchField, NumberOutsideRange}
use Rattle.codec.proofs.Digits.{length-bytes_of}
use Rattle.codec.proofs.Loops.{sets_append}
use Rattle.codec.proofs.Stops.{room-only}

-- ---- the refusal of a number
abbrev pub refusal_of : ℕ → Refusal
refusal_of n =
    pick (eqb n 1) InvalidPayloadLength
    (pick (eqb n 2) InvalidPayload
    (pick (eqb n 3) BufferOverflow
    (pick (eqb n 4) FamilyLeftBehind
    (pick (eqb n 5) RecordNotMade
    (pick (eqb n 6) NotAsWritten
    (pick (eqb n 7) NoSuchField NumberOutsideRange))))))

pub refusal_back : (r : Refusal) → refusal_of (refusal_number r) ≡ r
refusal_back InvalidPayloadLength = refl
refusal_back InvalidPayload = refl
refusal_back BufferOverflow = refl
refusal_back FamilyLeftBehind = refl
refusal_back RecordNotMade = refl
refusal_back NotAsWritten = refl
refusal_back NoSuchField = refl
refusal_back NumberOutsideRange = refl

-- the number of a refusal is never 0
pub refusal_some : (r : Refusal) → 0 < refusal_number r
refusal_some InvalidPayloadLength = omega arith
refusal_some InvalidPayload = omega arith
refusal_some BufferOverflow = omega arith
refusal_some FamilyLeftBehind = omega arith
refusal_some RecordNotMade = omega arith
refusal_some NotAsWritten = omega arith
refusal_some NoSuchField = omega arith
refusal_some NumberOutsideRange = omega arith

-- ---- what is told fixes the answer
abbrev pub number_told : Answer (List ℕ) → Result ℕ Refusal
number_told (got v) = Ok (first v)
number_told (refused n p) = Err (refusal_of n)

pub number-told : (r : Result ℕ Refusal) → number_told (told_number r) ≡ r
number-told (Ok n) = refl
number-told (Err r) = ap Err (refusal_back r)

abbrev pub flag_told : Answer (List ℕ) → Result Bool Refusal
flag_told (got v) = Ok (eqb (first v) 1)
flag_told (refused n p) = Err (refusal_of n)

pub flag-told : (r : Result Bool Refusal) → flag_told (told_flag r) ≡ r
flag-told (Ok true) = refl
flag-told (Ok false) = refl
flag-told (Err r) = ap Err (refusal_back r)

abbrev pub written_told : Answer ℕ → Result ℕ Refusal
written_told (got n) = Ok n
written_told (refused n p) = Err (refusal_of n)

pub written-told : (r : Result ℕ Refusal) → written_told (told_written r) ≡ r
written-told (Ok n) = refl
written-told (Err r) = ap Err (refusal_back r)

-- number and count, and the answer that they are of
pub out_some : (r : Refusal) (n : ℕ) → written_out (Err r) ≡ count_out 0 n → ⊥
out_some r n e = let d : refusal_number r ≡ 0 = cc in omega (arith, refusal_some r)

pub out_told : (r : Result ℕ Refusal) (stop n : ℕ) → written_out r ≡ count_out stop n → told_written r ≡ counted stop n
out_told (Ok k) zero n e = let d : k ≡ n = cc in ap (λ (x : ℕ). got x) d
out_told (Ok k) (suc stop) n e = let z : ◌≡◌ {A = ℕ} 0 1 = cc in absurd (omega arith)
out_told (Err r) zero n e = absurd (out_some r n e)
out_told (Err r) (suc stop) n e = let d : refusal_number r ≡ suc stop = cc in ap (λ (x : ℕ). refused x 0) d

abbrev pub out_written : SetOut ℕ → Result ℕ Refusal
out_written (numbered zero n) = Ok n
out_written (numbered (suc k) n) = Err (refusal_of (suc k))

out_back : (r : Result ℕ Refusal) → out_written (written_out r) ≡ r
out_back (Ok n) = refl
out_back (Err InvalidPayloadLength) = refl
out_back (Err InvalidPayload) = refl
out_back (Err BufferOverflow) = refl
out_back (Err FamilyLeftBehind) = refl
out_back (Err RecordNotMade) = refl
out_back (Err NotAsWritten) = refl
out_back (Err NoSuchField) = refl
out_back (Err NumberOutsideRange) = refl

pub written_fixed : (x y : Result ℕ Refusal) (a : SetOut ℕ) → written_out x ≡ a → written_out y ≡ a → x ≡ y
written_fixed x y a e f = sym (out_back x) ∙ ap out_written (e ∙ sym f) ∙ out_back y

-- writing has one answer, and leaves one buffer
pub writes_one : (stop : ℕ) (w : List ℕ) (x y : Result ℕ Refusal) (s p q : List ℕ) → Writes stop w x s p → Writes stop w y s q → (x ≡ y) × (p ≡ q)
writes_one stop w x y s p q g h =
    (written_fixed x y (count_out stop (length w)) g.0 h.0, g.1 ∙ sym h.1)

-- ---- putting
pub put-fits : (s : List ℕ) (at : ℕ) (w : List ℕ) → at + length w ≤ length s → put_at s at w ≡ sets s at w
put-fits s at w h = rw (le-ltb (length s) (at + length w) h)

-- bytes copied over a part of s
pub put_part : (s : List ℕ) (at : ℕ) (w : List ℕ) {n : ℕ} → n ≡ length w → at + n ≤ length s → put_mid at (at + n - at) s w ≡ put_at s at w
put_part s at w {n} g h =
    let e : at + n - at ≡ length w = omega arith in
    let k : at + length w ≤ length s = rw (← g) h in
    rw (e, put-fits s at w k, sets-eq w s at k, drop-drop) (sym (append_assoc (take at s) w (drop (at + length w) s)))

pub put-not : (s : List ℕ) (at : ℕ) (w : List ℕ) → length s < at + length w → put_at s at w ≡ s
put-not s at w h = rw (lt-ltb (length s) (at + length w) h)

pub length-put : (s : List ℕ) (at : ℕ) (w : List ℕ) → length (put_at s at w) ≡ length s
length-put s at w = by (ltb (length s) (at + length w))
  where
    by : (t : Bool) → length (pick t s (sets s at w)) ≡ length s
    by true = refl
    by false = length-sets s at w

-- ---- the test whether bytes at a place go beyond a length
pub beyond_is : (len at n : ℕ) → n ≤ len → ltb (len - n) at ≡ ltb len (at + n)
beyond_is len at n h = by (ltb (len - n) at) refl
  where
    by : (t : Bool) → ltb (len - n) at ≡ t → t ≡ ltb len (at + n)
    by true e = let l = ltb-true (len - n) at e in sym (lt-ltb len (at + n) (omega arith))
    by false e = let l = ltb-false (len - n) at e in sym (le-ltb len (at + n) (omega arith))

pub test_true : (a b : ℕ) (t : Bool) → t ≡ ltb a b → t ≡ true → a < b
test_true a b t e h = ltb-true a b (sym e ∙ h)

pub test_false : (a b : ℕ) (t : Bool) → t ≡ ltb a b → t ≡ false → b ≤ a
test_false a b t e h = ltb-false a b (sym e ∙ h)

pub beyond-short : (len at n : ℕ) → len < n → true ≡ ltb len (at + n)
beyond-short len at n h = sym (lt-ltb len (at + n) (omega arith))

pub put_number_not : (s : List ℕ) (at n w v : ℕ) → n ≡ w → length s < at + n → put_at s at (bytes_of w v) ≡ s
put_number_not s at n w v e h = put-not s at (bytes_of w v) (rw (length-bytes_of w v, ← e) h)

abbrev four : ℕ → List ℕ
four v = v / 16777216 % 256 ∷ v / 65536 % 256 ∷ v / 256 % 256 ∷ v % 256 ∷ []

-- the last bytes of a number's four
digits_last : (n v : ℕ) → (0 < n) × (n ≤ 4) → take (4 - (4 - n)) (drop (4 - n) (four v)) ≡ bytes_of n v
digits_last zero v h = absurd (omega arith)
digits_last (suc zero) v h = rw div-one refl
digits_last (suc (suc zero)) v h = rw div-one refl
digits_last (suc (suc (suc zero))) v h = rw div-one refl
digits_last (suc (suc (suc (suc zero)))) v h = rw div-one refl
digits_last (suc (suc (suc (suc (suc n))))) v h = absurd (omega arith)

pub put_number_is : (s : List ℕ) (at n v : ℕ) (d : List ℕ) {w : ℕ} → (n ≡ w) × ((0 < n) × (n ≤ 4)) → at + n ≤ length s
    → d ≡ take (4 - (4 - n)) (drop (4 - n) (four v)) → put_mid at (at + n - at) s d ≡ put_at s at (bytes_of w v)
put_number_is s at n v d h g e =
    rw (e ∙ digits_last n v h.1) (subst (λ (j : ℕ). put_mid at (at + n - at) s (bytes_of n v) ≡ put_at s at (bytes_of j v)) h.0 (put_part s at (bytes_of n v) (sym (length-bytes_of n v)) g))

-- ---- a writer's two ends: it counts what it put, or leaves all as it was
pub free : (stop n m : ℕ) → got n ≡ counted stop m → (stop ≡ 0) × (n ≡ m)
free zero n m h = (refl, cc)
free (suc k) n m h = let z : ◌≡◌ {A = ℕ} 0 1 = cc in absurd (omega arith)

pub writes-count : (stop n : ℕ) (w s s' : List ℕ) → got n ≡ counted stop (length w) → s' ≡ sets s 0 w → Writes stop w (Ok n) s s'
writes-count zero n w s s' h e = let d : n ≡ length w = cc in (ap (λ (x : ℕ). numbered 0 x) d, e)
writes-count (suc k) n w s s' h e = let z : ◌≡◌ {A = ℕ} 0 1 = cc in absurd (omega arith)

pub writes-refused : (stop : ℕ) (w s : List ℕ) (r : Refusal) → refused (refusal_number r) 0 ≡ counted stop (length w) → Writes stop w (Err r) s s
writes-refused zero w s r h = let z : ◌≡◌ {A = ℕ} 0 1 = cc in absurd (omega arith)
writes-refused (suc k) w s r h = let d : refusal_number r ≡ suc k = cc in (ap (λ (x : ℕ). numbered x 0) d, refl)

-- where only the room is looked at
pub room-there : (room n : ℕ) → n ≤ room → stop_room room n ≡ 0
room-there room n h = rw (le-ltb room n h)

pub room-not : (room n : ℕ) → room < n → stop_room room n ≡ 3
room-not room n h = rw (lt-ltb room n h)

pub writes-room : (s w s' : List ℕ) → length w ≤ length s → s' ≡ sets s 0 w → Writes (stop_room (length s) (length w)) w (Ok (length w)) s s'
writes-room s w s' h e = writes-count (stop_room (length s) (length w)) (length w) w s s' (rw (room-there (length s) (length w) h)) e

pub writes_none : (s w : List ℕ) → length s < length w → Writes (stop_room (length s) (length w)) w (Err BufferOverflow) s s
writes_none s w h = writes-refused (stop_room (length s) (length w)) w s BufferOverflow (rw (room-not (length s) (length w) h))

-- ---- puts one behind the other
pub put_first : (s a : List ℕ) → length a ≤ length s → put_at s 0 a ≡ sets s 0 a
put_first s a h = put-fits s 0 a (omega arith)

pub put_next : (s a b : List ℕ) (n : ℕ) → n ≡ length a → n + length b ≤ length s → put_at (sets s 0 a) n b ≡ sets s 0 (a ++ b)
put_next s a b n e h =
    let f : 0 + length a ≡ n = omega arith in
    put-fits (sets s 0 a) n b (rw (length-sets s 0 a) h) ∙ sym (rw f at (sets_append a b s 0))

pub put-start : (s s' a : List ℕ) → length a ≤ length s → s' ≡ put_at s 0 a → s' ≡ sets s 0 a
put-start s s' a h e = e ∙ put_first s a h

pub put_on : (s s' s'' a b : List ℕ) (n : ℕ) → s' ≡ sets s 0 a → s'' ≡ put_at s' n b → n ≡ length a → n + length b ≤ length s → s'' ≡ sets s 0 (a ++ b)
put_on s s' s'' a b n g h e l = (rw g at h) ∙ put_next s a b n e l

-- ---- a family whose values are all in range looks at room only
pub in_room : (rs : List Row) (sub : ℕ) (vs : List (List ℕ)) (s s' : List ℕ) (n : ℕ) → ok_items (items_of rs sub) vs ≡ true
    → length (write_body rs (said sub vs)) ≡ n → n ≤ length s → s' ≡ sets s 0 (write_body rs (said sub vs))
    → Writes (stop_in_order rs (length s) (said sub vs)) (write_body rs (said sub vs)) (Ok n) s s'
in_room rs sub vs s s' n o e h g =
    let w = write_body rs (said sub vs) in
    rw (room-only rs (length s) sub vs o, ← e) (writes-room s w s' (rw e h) g)

pub no_room : (rs : List Row) (sub : ℕ) (vs : List (List ℕ)) (s : List ℕ) (n : ℕ) → ok_items (items_of rs sub) vs ≡ true
    → length (write_body rs (said sub vs)) ≡ n → length s < n
    → Writes (stop_in_order rs (length s) (said sub vs)) (write_body rs (said sub vs)) (Err BufferOverflow) s s
no_room rs sub vs s n o e h =
    rw (room-only rs (length s) sub vs o) (writes_none s (write_body rs (said sub vs)) (rw e h))

pub room-writes : (rs : List Row) (sub : ℕ) (vs : List (List ℕ)) (w s s' : List ℕ) (r : Result ℕ Refusal) → ok_items (items_of rs sub) vs ≡ true
    → write_body rs (said sub vs) ≡ w → Writes (stop_room (length s) (length w)) w r s s'
    → Writes (stop_in_order rs (length s) (said sub vs)) (write_body rs (said sub vs)) r s s'
room-writes rs sub vs w s s' r o e h =
    let b = write_body rs (said sub vs) in
    let f : stop_in_order rs (length s) (said sub vs) ≡ stop_room (length s) (length w) = room-only rs (length s) sub vs o
    ∙ ap (λ (x : List ℕ). stop_room (length s) (length x)) e in
    let g : length b ≡ length w = ap length e in
    (rw (f, g) h.0, rw (f, e) h.1)

-- ---- a family that looks at values first
pub values-writes : (rs : List Row) (sub : ℕ) (vs : List (List ℕ)) (w s s' : List ℕ) (r : Result ℕ Refusal) → ok_items (items_of rs sub) vs ≡ true
    → write_body rs (said sub vs) ≡ w → Writes (stop_room (length s) (length w)) w r s s'
    → Writes (stop_values_first rs (length s) (said sub vs)) (write_body rs (said sub vs)) r s s'
values-writes rs sub vs w s s' r o e h =
    let f : stop_values_first rs (length s) (said sub vs) ≡ stop_room (length s) (length w) = rw o (ap (λ (x : List ℕ). stop_room (length s) (length x)) e) in
    let g : length (write_body rs (said sub vs)) ≡ length w = ap length e in
    (rw (f, g) h.0, rw (f, e) h.1)

-- An ACK read, constructed, written, way by way; its round trip; what is accepted is made. Assumes nothing.
use Prim.Native.Nat.{ℕ, ◌+◌, ◌/◌, ◌%◌, ◌<◌, ◌≤◌}
use mathlib.Core.Bool.{Bool, true, false}
use mathlib.Core.List.{List, [], ◌∷◌, ◌++◌, append-nil}
use mathlib.Core.Path.{◌≡◌, refl, ap, sym, ◌∙◌}
use native.Mathlib.Omega.{arith}
use lib.ListN.{length, get_or, drop, take, set, length-set, length-append}
use lib.Seq.{sets, drop-cons}
use lib.Dec.{ltb, leb}
use borrow.Author.Tests.{le-ltb, le-leb, lt-leb, leb-true, leb-false, ltb-false}
use Rattle.codec.specs.Pick.{pick}
use Rattle.codec.specs.Digits.{number_of}
use Rattle.codec.specs.Sheet.{Answer, got, refused, text, byte, field, first}
use Rattle.codec.specs.Reading.{read_item, read_items}
use Rattle.codec.specs.Writing.{nonzero, ok_items, write_items, stop_room, counted, put_at}
use Rattle.codec.proofs.Items.{number_is_lem, item_is, item-short, ltb-zero}
use Rattle.codec.proofs.Packed.{byte-item, number_ok, number-over}
use Rattle.codec.proofs.Loops.{sets_append}
use Rattle.codec.proofs.Writes.{put-fits, length-put, free}
use Rattle.codec.proofs.Back.{items_back}
use Rattle.codec.proofs.There.{and_got, items-got}
use Rattle.codec.proofs.TextRange.{text_range}
use Rattle.families.specs.Text.{padded}
use Rattle.families.specs.Ack.{ack_items, ack_loose, action_ok, read_ack, ack_with, ack_says, stop_ack, new_ack, made_information}
use Rattle.families.specs.declared.ack.CommandAck.{CommandAck}
use Rattle.families.proofs.TextLaws.{made-padded}

-- ---- the action
pub action_in : (a : CommandAck) (t : List ℕ) → a.action ≤ 1 → action_ok (ack_says a t) ≡ true
action_in a t h = number_ok 1 0 1 a.action (omega arith) h

pub action_over : (a : CommandAck) (t : List ℕ) → 1 < a.action → action_ok (ack_says a t) ≡ false
action_over a t h = number-over 1 0 1 a.action h

pub action_test : (a : CommandAck) (t : List ℕ) → action_ok (ack_says a t) ≡ leb a.action 1
action_test a t = by (leb a.action 1) refl
  where
    by : (o : Bool) → leb a.action 1 ≡ o → action_ok (ack_says a t) ≡ o
    by true e = action_in a t (leb-true a.action 1 e)
    by false e = action_over a t (leb-false a.action 1 e)

-- ---- the ways through the constructor
pub new-long : (a : CommandAck) (t : List ℕ) → 52 < length t → new_ack a t ≡ refused 1 0
new-long a t h = rw (lt-leb (length t) 52 h)

pub new_action : (a : CommandAck) (t : List ℕ) → length t ≤ 52 → 1 < a.action → new_ack a t ≡ refused 2 0
new_action a t h l = rw (le-leb (length t) 52 h, action_over a t l)

pub new-zero : (a : CommandAck) (t : List ℕ) → length t ≤ 52 → a.action ≤ 1 → nonzero t ≡ false → new_ack a t ≡ refused 2 0
new-zero a t h l z = rw (le-leb (length t) 52 h, action_in a t l, z)

pub new-got : (a : CommandAck) (t : List ℕ) → length t ≤ 52 → a.action ≤ 1 → nonzero t ≡ true → new_ack a t ≡ got (ack_says a t)
new-got a t h l z = rw (le-leb (length t) 52 h, action_in a t l, z)

-- ---- the ways through reading: a byte that is there reads
byte-there : (s : List ℕ) (at : ℕ) → at < length s → get_or s at 0 < 256 → read_item byte (drop at s) ≡ got (get_or s at 0 ∷ [])
byte-there s at h l =
    let e : get_or s at 0 ≡ number_of (take 1 (drop at s)) = rw (drop-cons s at 0 h) (omega arith) in
    number_is_lem 1 0 255 s at (get_or s at 0) (omega arith) (e, l) ∙ rw (ltb-zero (get_or s at 0), le-ltb 255 (get_or s at 0) (omega arith))

byte-some : (s : List ℕ) (at : ℕ) → at < length s → (v : List ℕ) × (read_item byte (drop at s) ≡ got v)
byte-some s at h =
    let n = number_of (take 1 (drop at s)) in
    let m : n / 1 % 256 < 256 = omega arith in
    (n / 1 % 256 ∷ [], item_is 1 (field 8 0 255 ∷ []) s at n (omega arith) refl ∙ rw (ltb-zero (n / 1 % 256), le-ltb 255 (n / 1 % 256) (omega arith)))

pub ack_short : (s : List ℕ) → length s < 3 → read_ack s ≡ refused 1 0
ack_short [] h = rw (item-short 1 (field 8 0 255 ∷ []) [] 0 (omega arith) (omega arith))
ack_short (a ∷ []) h =
    let p = byte-some (a ∷ []) 0 (omega arith) in
    rw (p.1, item-short 1 (field 8 0 255 ∷ []) (a ∷ []) 1 (omega arith) (omega arith))
ack_short (a ∷ b ∷ []) h =
    let p = byte-some (a ∷ b ∷ []) 0 (omega arith) in
    let q = byte-some (a ∷ b ∷ []) 1 (omega arith) in
    rw (p.1, q.1, item-short 1 (field 8 0 255 ∷ []) (a ∷ b ∷ []) 2 (omega arith) (omega arith))
ack_short (a ∷ b ∷ c ∷ s) h = absurd (omega arith)

-- the first three bytes
abbrev pub ack_at : List ℕ → CommandAck
ack_at s = ack_with (get_or s 0 0) (get_or s 1 0) (get_or s 2 0)

abbrev pub Opens : List ℕ → Type 0
Opens s = (3 ≤ length s) × ((get_or s 0 0 < 256) × ((get_or s 1 0 < 256) × (get_or s 2 0 < 256)))

ack_then : (s t : List ℕ) → Opens s → read_item (text 0 52) (drop 3 s) ≡ got t
    → read_ack s ≡ pick (action_ok (ack_says (ack_at s) t)) (got (ack_says (ack_at s) t)) (refused 2 0)
ack_then s t o e =
    rw (byte-there s 0 (omega arith) o.1.0, byte-there s 1 (omega arith) o.1.1.0, byte-there s 2 (omega arith) o.1.1.1, e)

pub ack_open : (s : List ℕ) (n p : ℕ) → Opens s → refused n p ≡ read_item (text 0 52) (drop 3 s) → read_ack s ≡ refused n p
ack_open s n p o e =
    rw (byte-there s 0 (omega arith) o.1.0, byte-there s 1 (omega arith) o.1.1.0, byte-there s 2 (omega arith) o.1.1.1, ← e)

pub ack_action : (s t : List ℕ) → Opens s → got t ≡ read_item (text 0 52) (drop 3 s) → 1 < get_or s 2 0 → read_ack s ≡ refused 2 0
ack_action s t o e h = ack_then s t o (sym e) ∙ rw (action_over (ack_at s) t h)

pub ack_got : (s t : List ℕ) → Opens s → got t ≡ read_item (text 0 52) (drop 3 s) → get_or s 2 0 ≤ 1 → read_ack s ≡ got (ack_says (ack_at s) t)
ack_got s t o e h = ack_then s t o (sym e) ∙ rw (action_in (ack_at s) t h)

-- ---- writing
pub ack_bytes : (a : CommandAck) (t : List ℕ) → a.command_id < 256 → a.sub_command_id < 256 → a.action < 256
    → write_items ack_items (ack_says a t) ≡ a.command_id ∷ a.sub_command_id ∷ a.action ∷ (t ++ 0 ∷ []) ++ []
ack_bytes a t p q r = rw (ap first (byte-item a.command_id p), ap first (byte-item a.sub_command_id q), ap first (byte-item a.action r))

pub put_is : (a : CommandAck) (s s' t : List ℕ) → a.command_id < 256 → a.sub_command_id < 256 → a.action < 256 → length t + 4 ≤ length s
    → s' ≡ put_at (set (set (set s 0 a.command_id) 1 a.sub_command_id) 2 a.action) 3 t
    → set s' (3 + length t) 0 ≡ sets s 0 (write_items ack_items (ack_says a t))
put_is a s s' t p q r h e =
    let b = set (set (set s 0 a.command_id) 1 a.sub_command_id) 2 a.action in
    let l : length b ≡ length s = simp length-set in
    let f : s' ≡ sets b 3 t = e ∙ put-fits b 3 t (omega arith) in
    ap (λ (l : List ℕ). set l (3 + length t) 0) f
    ∙ sym (ap (sets s 0) (ack_bytes a t p q r) ∙ (ap (sets b 3) (append-nil (t ++ 0 ∷ [])) ∙ sets_append t (0 ∷ []) b 3))

-- a body that the first bytes and the information were put into is as long as before
abbrev pub Put : CommandAck → List ℕ → List ℕ → List ℕ → Type 0
Put a s s' t = s' ≡ put_at (set (set (set s 0 a.command_id) 1 a.sub_command_id) 2 a.action) 3 t

pub put-kept : (a : CommandAck) (s s' t : List ℕ) → Put a s s' t → length s' ≡ length s
put-kept a s s' t e =
    let b = set (set (set s 0 a.command_id) 1 a.sub_command_id) 2 a.action in
    let l : length b ≡ length s = simp length-set in
    ap length e ∙ (length-put b 3 t ∙ l)

pub put_in : (a : CommandAck) (s s' t : List ℕ) → length t + 4 ≤ length s → Put a s s' t → 3 + length t < length s'
put_in a s s' t h e = let k = put-kept a s s' t e in omega arith

pub put_same : (a : CommandAck) (s s' t : List ℕ) → Put a s s' t → length (set s' (3 + length t) 0) ≡ length s
put_same a s s' t e = length-set s' (3 + length t) 0 ∙ put-kept a s s' t e

pub ack_size : (a : CommandAck) (t : List ℕ) → length (write_items ack_items (ack_says a t)) ≡ length t + 4
ack_size a t = simp length-append (omega arith)

pub stop_is : (room : ℕ) (a : CommandAck) (t : List ℕ) → stop_ack room (ack_says a t) ≡ pick (leb a.action 1) (stop_room room (length t + 4)) 2
stop_is room a t = rw (action_test a t, ack_size a t)

pub told_is : (room : ℕ) (a : CommandAck) (t : List ℕ) (x : Answer ℕ) → x ≡ counted (pick (leb a.action 1) (stop_room room (length t + 4)) 2) (length t + 4)
    → x ≡ counted (stop_ack room (ack_says a t)) (length (write_items ack_items (ack_says a t)))
told_is room a t x h = rw (stop_is room a t, ack_size a t) h

pub room_of_lem : (o : Bool) (room n : ℕ) → pick o (stop_room room n) 2 ≡ 0 → (o ≡ true) × (n ≤ room)
room_of_lem o room n = by o (ltb room n) refl
  where
    by : (o t : Bool) → ltb room n ≡ t → ◌≡◌ {A = ℕ} (pick o (pick t 3 0) 2) 0 → (o ≡ true) × (n ≤ room)
    by true true e h = absurd (omega arith)
    by true false e h = (refl, ltb-false room n e)
    by false t e h = absurd (omega arith)

pub has_room : (room : ℕ) (a : CommandAck) (t : List ℕ) (n : ℕ) → got n ≡ counted (pick (leb a.action 1) (stop_room room (length t + 4)) 2) (length t + 4)
    → length t + 4 ≤ room
has_room room a t n h =
    (room_of_lem (leb a.action 1) room (length t + 4) (free (pick (leb a.action 1) (stop_room room (length t + 4)) 2) n (length t + 4) h).0).1

-- ---- laws: what the constructor makes is made
pub new_range : (a : CommandAck) (t : List ℕ) (vs : List (List ℕ)) → new_ack a t ≡ got vs
    → (vs ≡ ack_says a t) × ((a.action ≤ 1) × ((nonzero t ≡ true) × (length t ≤ 52)))
new_range a t vs h = by (leb (length t) 52) (leb a.action 1) (nonzero t) refl refl refl (rw (action_test a t) at h)
  where
    by : (x y z : Bool) → leb (length t) 52 ≡ x → leb a.action 1 ≡ y → nonzero t ≡ z
        → pick x (pick y (pick z (got (ack_says a t)) (refused 2 0)) (refused 2 0)) (refused 1 0) ≡ got vs
        → (vs ≡ ack_says a t) × ((a.action ≤ 1) × ((nonzero t ≡ true) × (length t ≤ 52)))
    by false y z p q r g = let z : ◌≡◌ {A = ℕ} 0 1 = cc in absurd (omega arith)
    by true false z p q r g = let z : ◌≡◌ {A = ℕ} 0 1 = cc in absurd (omega arith)
    by true true false p q r g = let z : ◌≡◌ {A = ℕ} 0 1 = cc in absurd (omega arith)
    by true true true p q r g = (cc, (leb-true a.action 1 q, (r, leb-true (length t) 52 p)))

abbrev pub information_in : List (List ℕ) → List ℕ
information_in vs = get_or vs 3 []

abbrev pub MadeIn : List (List ℕ) → Type 0
MadeIn vs = made_information (length (information_in vs)) (padded 55 (information_in vs)) ≡ true

pub new-made : (a : CommandAck) (t : List ℕ) (vs : List (List ℕ)) → new_ack a t ≡ got vs → MadeIn vs
new-made a t vs h = let r = new_range a t vs h in rw r.0 (made-padded 52 55 t r.1.1.0 r.1.1.1)

-- so is what reading gives
kept : (t : Bool) (ws vs : List (List ℕ)) → pick t (got ws) (refused 2 0) ≡ got vs → vs ≡ ws
kept true ws vs h = cc
kept false ws vs h = let z : ◌≡◌ {A = ℕ} 0 1 = cc in absurd (omega arith)

-- the text of the fourth item is in its range
pub loose_range : (s : List ℕ) (vs : List (List ℕ)) → read_items ack_loose s 0 ≡ got vs → (length (information_in vs) ≤ 52) × (nonzero (information_in vs) ≡ true)
loose_range s vs h =
    let a = items-got byte (byte ∷ byte ∷ text 0 52 ∷ []) s 0 vs h in
    let b = items-got byte (byte ∷ text 0 52 ∷ []) s 1 a.1.0 a.1.1.1.1 in
    let c = items-got byte (text 0 52 ∷ []) s 2 b.1.0 b.1.1.1.1 in
    let d = items-got (text 0 52) [] s 3 c.1.0 c.1.1.1.1 in
    fourth a.0 b.0 c.0 d.0 vs a.1.0 b.1.0 c.1.0 d.1.0 a.1.1.0 b.1.1.0 c.1.1.0
    d.1.1.0 (text_range 0 52 (drop 3 s) d.0 d.1.1.1.0)
  where
    fourth : (a b c d : List ℕ) (v w x y z : List (List ℕ)) → v ≡ a ∷ w → w ≡ b ∷ x → x ≡ c ∷ y → y ≡ d ∷ z → (length d ≤ 52) × (nonzero d ≡ true)
        → (length (information_in v) ≤ 52) × (nonzero (information_in v) ≡ true)
    fourth a b c d v w x y z p q r t h = rw (p, q, r, t) h

pub read_made : (s : List ℕ) (vs : List (List ℕ)) → read_ack s ≡ got vs → MadeIn vs
read_made s vs h =
    let p = and_got (read_items ack_loose s 0) (λ (ws : List (List ℕ)). pick (action_ok ws) (got ws) (refused 2 0)) vs h in
    let r = loose_range s p.0 p.1.0 in
    rw (kept (action_ok p.0) p.0 vs p.1.1) (made-padded 52 55 (information_in p.0) r.1 r.0)

-- ---- the round trip
pub ack_back : (room : ℕ) (a : CommandAck) (t post : List ℕ) → stop_ack room (ack_says a t) ≡ 0 → nonzero t ≡ true → length t ≤ 52
    → a.command_id < 256 → a.sub_command_id < 256 → read_ack (write_items ack_items (ack_says a t) ++ post) ≡ got (ack_says a t)
ack_back room a t post h z l p q =
    let r = room_of_lem (leb a.action 1) room (length t + 4) (sym (stop_is room a t) ∙ h) in
    let k = leb-true a.action 1 r.0 in
    let o : ok_items ack_loose (ack_says a t) ≡ true =
    rw (
      ltb-zero a.command_id,
      le-ltb 255 a.command_id (omega arith),
      ltb-zero a.sub_command_id,
      le-ltb 255 a.sub_command_id (omega arith),
      ltb-zero a.action,
      le-ltb 255 a.action (omega arith),
      le-leb (length t) 52 l,
      z,
    ) in
    let e : read_items ack_loose (write_items ack_items (ack_says a t) ++ post) 0 ≡ got (ack_says a t) = items_back ack_loose (ack_says a t) [] post refl o in
    rw (e, action_in a t k)

-- what was read: its items, their action in range
pub ack_read : (s : List ℕ) (vs : List (List ℕ)) → read_ack s ≡ got vs → (read_items ack_loose s 0 ≡ got vs) × (action_ok vs ≡ true)
ack_read s vs h =
    let p = and_got (read_items ack_loose s 0) (λ (ws : List (List ℕ)). pick (action_ok ws) (got ws) (refused 2 0)) vs h in
    by p.0 (action_ok p.0) refl p.1.0 p.1.1
  where
    by : (ws : List (List ℕ)) (t : Bool) → action_ok ws ≡ t → read_items ack_loose s 0 ≡ got ws → pick t (got ws) (refused 2 0) ≡ got vs
        → (read_items ack_loose s 0 ≡ got vs) × (action_ok vs ≡ true)
    by ws true e r g = let f : ws ≡ vs = cc in (rw f at r, rw f at e)
    by ws false e r g = let z : ◌≡◌ {A = ℕ} 0 1 = cc in absurd (omega arith)

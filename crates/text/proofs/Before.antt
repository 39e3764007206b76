-- Words put in front of what stands from a place on: a text that grows from its end to its start. Assumes nothing.
use Prim.Native.Nat.{ℕ, suc, ◌+◌, ◌-◌, ◌<◌, ◌≤◌}
use mathlib.Core.Bool.{Bool, true, false}
use mathlib.Core.List.{List, [], ◌∷◌, ◌++◌, append_assoc, append-nil}
use mathlib.Core.Path.{◌≡◌, refl, ap, sym, ◌∙◌}
use native.Mathlib.Omega.{arith}
use borrow.Author.Tests.{lt-ltb, le-ltb, le-leb, lt-leb, leb-true, leb-false}
use lib.ListN.{length, take, drop, set, length-append, length-drop, drop_of_length-le}
use lib.Seq.{sets, sets-eq, length-sets, drop_at, length-take-le, take_all}
use lib.Dec.{leb}
use Rattle.codec.specs.Pick.{pick}
use Rattle.codec.specs.Writing.{put_at}
use Rattle.codec.proofs.Writes.{put-fits}
use Rattle.codec.proofs.Loops.{sets_front}
use Rattle.text.specs.Putting.{room_before, PutsBefore, EndsWith}

-- ---- the room
pub room-there : (w : List ℕ) (at : ℕ) (t : List ℕ) → length w ≤ at → at ≤ length t → room_before w at t ≡ true
room-there w at t h l = rw (le-ltb at (length w) h, le-leb at (length t) l)

pub room-short : (w : List ℕ) (at : ℕ) (t : List ℕ) → at < length w → room_before w at t ≡ false
room-short w at t h = rw (lt-ltb at (length w) h)

pub room-beyond : (w : List ℕ) (at : ℕ) (t : List ℕ) → length w ≤ at → length t < at → room_before w at t ≡ false
room-beyond w at t h l = rw (le-ltb at (length w) h, lt-leb at (length t) l)

-- ---- putting
pub before-not : (w : List ℕ) (at : ℕ) (t : List ℕ) → room_before w at t ≡ false → PutsBefore w at at t t
before-not w at t e = record { start = rw e; leaves = rw e }

pub before-put : (w : List ℕ) (at : ℕ) (t t' : List ℕ) → length w ≤ at → at ≤ length t → t' ≡ put_at t (at - length w) w
    → PutsBefore w at (at - length w) t t'
before-put w at t t' h l e =
    let r = room-there w at t h l in record {
      start = rw r;
      leaves = rw r (e ∙ put-fits t (at - length w) w (omega arith));
    }

-- what is put starts no later than there
pub before-within : {w : List ℕ} {at r : ℕ} {t t' : List ℕ} → PutsBefore w at r t t' → r ≤ at
before-within {w} {at} {r} {t} p = by (room_before w at t) p.start
  where
    by : (b : Bool) → r ≡ pick b (at - length w) at → r ≤ at
    by true e = omega arith
    by false e = omega arith

front : (s w : List ℕ) (a at : ℕ) → a + length w ≡ at → at ≤ length s → drop a (sets s a w) ≡ w ++ drop at s
front s w a at k l =
    let f : a + length w ≤ length s = omega arith in
    let t : length (take a s) ≡ a = length-take-le a s (omega arith) in
    ap (λ (x : List ℕ). drop a x) (sets-eq w s a f)
    ∙ ap (λ (x : List ℕ). drop a x) (append_assoc (take a s) w (drop (a + length w) s))
    ∙ drop_at (take a s) (w ++ drop (a + length w) s) a t
    ∙ ap (λ (i : ℕ). w ++ drop i s) k

-- with room, the word stands in front of what stood there
module _ {w : List ℕ} {at r : ℕ} {t t' : List ℕ} (p : PutsBefore w at r t t') where
  module _ (h : length w ≤ at) (l : at ≤ length t) where
    pub before-start : r + length w ≡ at
    before-start = let e : r ≡ at - length w = rw (room-there w at t h l) at p.start in omega arith

    leaves_is : t' ≡ sets t r w
    leaves_is =
        let e : r ≡ at - length w = rw (room-there w at t h l) at p.start in
        (rw (room-there w at t h l) at p.leaves) ∙ ap (λ (i : ℕ). sets t i w) (sym e)

    pub before_same : length t' ≡ length t
    before_same = ap length leaves_is ∙ length-sets t r w

    pub before_front : drop r t' ≡ w ++ drop at t
    before_front = ap (λ (x : List ℕ). drop r x) leaves_is ∙ front t w r at before-start l

-- ---- a word in front of another, where both have room
sets-before : (w v t : List ℕ) (i j : ℕ) → i + length w ≡ j → sets (sets t j v) i w ≡ sets t i (w ++ v)
sets-before [] v t i j e = ap (λ (k : ℕ). sets t k v) (omega arith)
sets-before (x ∷ w) v t i j e = rw (sets_front v t i j x (omega arith)) (sets-before w v (set t i x) (suc i) j (omega arith))

pub before_two : {w v : List ℕ} {at m r : ℕ} {t t' t'' : List ℕ} → length (w ++ v) ≤ at → PutsBefore v at m t t' → PutsBefore w m r t' t''
    → PutsBefore (w ++ v) at r t t''
before_two {w} {v} {at} {m} {r} {t} {t'} {t''} h p q = by (leb at (length t)) refl
  where
    by : (b : Bool) → leb at (length t) ≡ b → PutsBefore (w ++ v) at r t t''
    by true e =
        let l = leb-true at (length t) e in
        let f : length v ≤ at = omega (arith, length-append w v) in
        let s = before-start p f l in
        let g : length w ≤ m = omega (arith, length-append w v) in
        let k : m ≤ length t' = omega (arith, before_same p f l) in
        let i = before-start q g k in
        let o : at - length (w ++ v) ≡ r = omega (arith, length-append w v) in record {
          start = rw (room-there (w ++ v) at t h l) (sym o);
          leaves = rw (room-there (w ++ v) at t h l, o)
              (leaves_is q g k ∙ ap (λ (x : List ℕ). sets x r w) (leaves_is p f l) ∙ sets-before w v t r m i);
        }
    by false e =
        let l = leb-false at (length t) e in
        let k = length-append w v in
        let a : m ≡ at = rw (room-beyond v at t (omega arith) l) at p.start in
        let b : t' ≡ t = rw (room-beyond v at t (omega arith) l) at p.leaves in
        let c : room_before w m t' ≡ false = rw (a, b) (room-beyond w at t (omega arith) l) in
        rw ((rw c at q.start) ∙ a, (rw c at q.leaves) ∙ b) (before-not (w ++ v) at t (room-beyond (w ++ v) at t h l))

-- ---- a text at the end of n bytes, which grows
pub record Grown (n : ℕ) (w : List ℕ) (r : ℕ) (t : List ℕ) : Type 0 where
  pub size : length t ≡ n
  pub ends : EndsWith w r t

-- its last word, up to the end
pub grown_first : {n r : ℕ} {w t t' : List ℕ} → length t ≡ n → PutsBefore w n r t t' → length w ≤ n → Grown n w r t'
grown_first {n} {r} {w} {t} {t'} e p h =
    let l : n ≤ length t = omega arith in record {
      size = before_same p h l ∙ e;
      ends = record {
        start = omega (arith, before-start p h l, before_same p h l);
        bytes = before_front p h l ∙ ap (λ (x : List ℕ). w ++ x) (drop_of_length-le t {i = n} (omega arith)) ∙ append-nil w;
      };
    }

-- and each word before it, where the text has room for all of them
pub grown_more : {n at r : ℕ} {v w t t' : List ℕ} → Grown n v at t → PutsBefore w at r t t' → length (w ++ v) ≤ n
    → Grown n (w ++ v) r t'
grown_more {n} {at} {r} {v} {w} {t} {t'} g p b =
    let h : length w ≤ at = omega (arith, length-append w v, g.size, g.ends.start) in
    let l : at ≤ length t = omega (arith, g.ends.start) in record {
      size = before_same p h l ∙ g.size;
      ends = record {
        start = omega (arith, length-append w v, before-start p h l, before_same p h l, g.ends.start);
        bytes = before_front p h l ∙ ap (λ (x : List ℕ). w ++ x) g.ends.bytes;
      };
    }

-- the text at the end of t: how long it is, and as a part of t
pub ends-length : (w : List ℕ) (r n : ℕ) (t : List ℕ) → length t ≡ n → drop r t ≡ w → length w ≡ n - r
ends-length w r n t l e = ap length (sym e) ∙ length-drop r t ∙ ap (λ (k : ℕ). k - r) l

pub ends-part : (w : List ℕ) (r n : ℕ) (t : List ℕ) → length t ≡ n → drop r t ≡ w → take (n - r) (drop r t) ≡ w
ends-part w r n t l e = take_all (n - r) (drop r t) (rw length-drop (omega arith)) ∙ e

-- a word by itself, up to the end
pub first_part : {n r : ℕ} {w t t' : List ℕ} → length t ≡ n → PutsBefore w n r t t' → length w ≤ n → take (n - r) (drop r t') ≡ w
first_part {n} {r} {w} {t} {t'} e p h = let g = grown_first e p h in ends-part w r n t' g.size g.ends.bytes

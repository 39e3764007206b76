-- An image handed out, or a refusal that leaves all as it was. Assumes nothing.
use Rattle.std.specs.Prelude.{Ok, Err}
use Prim.Native.Nat.{ℕ, ◌<◌, ◌≤◌}
use mathlib.Core.List.{List}
use mathlib.Core.Path.{◌≡◌, refl, ap, sym, ◌∙◌}
use native.Mathlib.Omega.{arith}
use lib.ListN.{length}
use borrow.Author.Tests.{le-ltb, lt-ltb}
use Rattle.codec.specs.Sheet.{Answer, got, refused, and_then}
use Rattle.codec.specs.Writing.{put_at}
use Rattle.codec.specs.Refusals.{refusal_number, Gives}
use Rattle.codec.specs.declared.refusal.Refusal.{Refusal}
use Rattle.codec.proofs.Refused.{Some}
use Rattle.codec.proofs.Outcomes.{gives_ok, gives_err}
use Rattle.codec.proofs.Writes.{put-fits}
use Rattle.images.specs.Word.{word}
use Rattle.crsf.specs.Handed.{HandsOut, ImageOut}

module _ {A : Type 0} (image : A → List ℕ) (size : ℕ) (s : List ℕ) (a : Answer A) (n : ℕ) where
  -- too short a slice is 3; where there is room, the answer decides
  pub short : length s < size → n ≡ word 3 0 0 → ImageOut size image a n s s
  short h e = rw (lt-ltb (length s) size h) (e, refl)

  pub in_room : (s' : List ℕ) → size ≤ length s → HandsOut image a n s s' → ImageOut size image a n s s'
  in_room s' h e = rw (le-ltb (length s) size h) e

-- ---- by the Result that gives an answer
-- refused: that number, place 0
pub turned_away : {A B : Type 0} (shown : A → B) (a : Answer A) (why : Refusal) → Some a → Gives shown a (Err why) → a ≡ refused (refusal_number why) 0
turned_away shown a why g e =
    let n = gives_err shown a why e in
    let z : n.0 ≡ 0 = (g (refusal_number why) n.0 n.1).1 in
    rw z at n.1

module _ {A B : Type 0} (image : A → List ℕ) (shown : A → B) (s : List ℕ) (a : Answer A) where
  pub refuses : Some a → (why : Refusal) (n : ℕ) → Gives shown a (Err why) → n ≡ word (refusal_number why) 0 0 → HandsOut image a n s s
  refuses g why n e f = rw (turned_away shown a why g e) (f, refl)

  -- a record: its image w is put
  pub hands : (x : B) (w s' : List ℕ) → Gives shown a (Ok x) → ((v : A) → x ≡ shown v → w ≡ image v) → length w ≤ length s → s' ≡ put_at s 0 w
      → HandsOut image a 0 s s'
  hands x w s' e f l p =
      let v = gives_ok shown a x e in
      let u = p ∙ put-fits s 0 w (omega arith) in
      rw v.1.0 (refl, rw (f v.0 v.1.1) at u)

-- ---- an image handed in comes first, and there is room for the other
module _ {A B : Type 0} (image : A → List ℕ) (size : ℕ) (s : List ℕ) (a : Answer B) (f : B → Answer A) (r : size ≤ length s) where
  pub stops : Some a → (why : Refusal) (n : ℕ) → Gives (λ b. b) a (Err why) → n ≡ word (refusal_number why) 0 0 → ImageOut size image (and_then a f) n s s
  stops g why n e w = in_room image size s (and_then a f) n s r (rw (turned_away (λ b. b) a why g e) (w, refl))

  pub goes_on : (x : B) (n : ℕ) (s' : List ℕ) → Gives (λ b. b) a (Ok x) → HandsOut image (f x) n s s' → ImageOut size image (and_then a f) n s s'
  goes_on x n s' e w =
      let v = gives_ok (λ b. b) a x e in
      let q : a ≡ got x = v.1.0 ∙ ap got (sym v.1.1) in
      in_room image size s (and_then a f) n s' r (rw q w)

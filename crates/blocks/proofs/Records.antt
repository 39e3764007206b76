-- Records one behind the other, as a walk from place to place finds them. Assumes nothing.
use Prim.Native.Nat.{ℕ, zero, suc, ◌+◌, ◌-◌, ◌<◌, ◌≤◌}
use mathlib.Core.Bool.{Bool, true, false}
use mathlib.Core.List.{List, [], ◌∷◌}
use mathlib.Core.Path.{◌≡◌, refl, ap, sym, ◌∙◌}
use native.Mathlib.Omega.{arith}
use native.Mathlib.Numerals.{add-one}
use borrow.Author.Tests.{lt-ltb, le-ltb, ltb-true, ltb-false}
use lib.ListN.{length, take, drop, get_or, length-drop}
use lib.Seq.{take-nil, take-take, drop-cons, drop-drop, length-take-le}
use lib.Dec.{ltb}
use Rattle.codec.specs.Pick.{pick}
use Rattle.codec.specs.Sheet.{Answer, got, refused, and_then}
use Rattle.codec.specs.Refusals.{value_in}
use Rattle.codec.proofs.There.{and_got}
use Rattle.blocks.specs.Block.{used_count, Record, records_from, records_in}
use Rattle.blocks.specs.Walk.{first_of, used_end, place_before, record_end, payload_in}
use Rattle.blocks.specs.Steps.{accepted, records_to, whole_from}

-- ---- an answer that was got passed its tests
pub met : {A : Type 0} (t : Bool) (a : Answer A) (n p : ℕ) (x : A) → pick t a (refused n p) ≡ got x → (t ≡ true) × (a ≡ got x)
met true a n p x h = (refl, h)
met false a n p x h = let z : ◌≡◌ {A = ℕ} 0 1 = cc in absurd (omega arith)

pub unmet : {A : Type 0} (t : Bool) (a : Answer A) (n p : ℕ) (x : A) → pick t (refused n p) a ≡ got x → (t ≡ false) × (a ≡ got x)
unmet false a n p x h = (refl, h)
unmet true a n p x h = let z : ◌≡◌ {A = ℕ} 0 1 = cc in absurd (omega arith)

-- ---- records do not depend on their bound
pub bound : (f g at : ℕ) (s : List ℕ) → length s < f → length s < g → records_from f at s ≡ records_from g at s
bound zero g at s h l = absurd (omega arith)
bound (suc f) zero at s h l = absurd (omega arith)
bound (suc f) (suc g) at [] h l = refl
bound (suc f) (suc g) at (n ∷ s) h l =
    let d : length (drop n s) ≤ length s = rw length-drop (omega arith) in
    ap (λ (a : Answer (List Record)).
    pick (ltb n 4) (refused 10 0)
    (pick (ltb 60 n) (refused 10 0)
    (pick (ltb (length s) n) (refused 10 0) (and_then a (λ rs. got (record { place = at; payload = take n s } ∷ rs))))))
    (bound f g (at + suc n) (drop n s) (omega arith) (omega arith))

-- ---- the bytes from a place to an end
abbrev pub part : List ℕ → ℕ → ℕ → List ℕ
part b end at = take (end - at) (drop at b)

pub drop-take : (n k : ℕ) (s : List ℕ) → drop n (take k s) ≡ take (k - n) (drop n s)
drop-take zero k s = let e : k ≡ k - 0 = omega arith in ap (λ (j : ℕ). take j s) e
drop-take (suc n) zero s = let e : 0 ≡ zero - suc n = omega arith in ap (λ (j : ℕ). take j (drop (suc n) s)) e
drop-take (suc n) (suc k) [] = sym (take-nil (suc k - suc n))
drop-take (suc n) (suc k) (x ∷ s) =
    let e : k - n ≡ suc k - suc n = omega arith in
    drop-take n k s ∙ ap (λ (j : ℕ). take j (drop n s)) e

module _ (b : List ℕ) (end : ℕ) (within : end ≤ length b) where
  part_length : (at : ℕ) → length (part b end at) ≡ end - at
  part_length at = length-take-le (end - at) (drop at b) (rw length-drop (omega arith))

  part_cons : (at : ℕ) → at < end → part b end at ≡ get_or b at 0 ∷ part b end (suc at)
  part_cons at h =
      let e : end - at ≡ suc (end - suc at) = omega arith in
      rw (e, drop-cons b at 0 (omega arith))

  part-drop : (at n : ℕ) → drop n (part b end at) ≡ part b end (at + n)
  part-drop at n =
      let e : end - at - n ≡ end - (at + n) = omega arith in
      drop-take n (end - at) (drop at b) ∙ rw (e, drop-drop n at b)

-- ---- a record, and those behind it
forked : (x y z : Bool) (a : Answer (List Record)) (e : ℕ) (go : ℕ → Answer (List Record)) → (z ≡ false → a ≡ go e)
    → pick x (refused 10 0) (pick y (refused 10 0) (pick z (refused 10 0) a))
    ≡ and_then (pick x (refused 10 0) (pick y (refused 10 0) (pick z (refused 10 0) (got e)))) go
forked true y z a e go h = refl
forked false true z a e go h = refl
forked false false true a e go h = refl
forked false false false a e go h = h refl

same_test : (i j k l : ℕ) → (i < j → k < l) → (j ≤ i → l ≤ k) → ltb i j ≡ ltb k l
same_test i j k l p q = by (ltb i j) refl
  where
    by : (t : Bool) → ltb i j ≡ t → ltb i j ≡ ltb k l
    by true e = e ∙ sym (lt-ltb k l (p (ltb-true i j e)))
    by false e = e ∙ sym (le-ltb k l (q (ltb-false i j e)))

-- the records from e on, behind one at a place
abbrev pub behind : List ℕ → ℕ → ℕ → ℕ → Answer (List Record)
behind b end at e = and_then (records_to b end e) (λ rs. got (record { place = at; payload = payload_in b at e } ∷ rs))

module _ (b : List ℕ) (end : ℕ) (within : end ≤ length b) where
  pub records_none : (at : ℕ) → end ≤ at → records_to b end at ≡ got []
  records_none at h = let e : end - at ≡ 0 = omega arith in rw e

  module _ (at : ℕ) (h : at < end) where
    abbrev size : ℕ
    size = get_or b at 0

    rest_is : records_from (end - at) (at + suc size) (drop size (part b end (suc at))) ≡ records_to b end (at + (size + 1))
    rest_is =
        let e : suc at + size ≡ at + (size + 1) = omega arith in
        let l = part_length b end within (at + (size + 1)) in
        let p : drop size (part b end (suc at)) ≡ part b end (at + (size + 1)) =
        part-drop b end within (suc at) size ∙ ap (λ (i : ℕ). part b end i) e in
        rw (p, ← add-one size)
        (bound (end - at) (suc (end - (at + (size + 1)))) (at + (size + 1)) (part b end (at + (size + 1))) (omega arith) (omega arith))

    payload_is : at + (size + 1) ≤ end → take size (part b end (suc at)) ≡ payload_in b at (at + (size + 1))
    payload_is l =
        let e : at + (size + 1) - (at + 1) ≡ size = omega arith in
        take-take size (end - suc at) (drop (suc at) b) (omega arith) ∙ rw (e, add-one at)

    pub records-next : records_to b end at ≡ and_then (record_end b end at) (behind b end at)
    records-next =
        let l = part_length b end within (suc at) in
        let t : ltb (length (part b end (suc at))) size ≡ ltb end (at + (size + 1)) =
        same_test (length (part b end (suc at))) size end (at + (size + 1)) (λ g. omega arith) (λ g. omega arith) in
        rw (part_cons b end within at h, t)
        (forked (ltb size 4) (ltb 60 size) (ltb end (at + (size + 1))) _ (at + (size + 1)) (behind b end at)
        (λ g. let f = payload_is (ltb-false end (at + (size + 1)) g) in rw (rest_is, f)))

-- ---- where a record ends
pub record Ends (b : List ℕ) (end at e : ℕ) : Type 0 where
  pub end_is : e ≡ at + (get_or b at 0 + 1)
  pub least : 4 ≤ get_or b at 0
  pub most : get_or b at 0 ≤ 60
  pub fits : e ≤ end

pub ends : (b : List ℕ) (end at e : ℕ) → record_end b end at ≡ got e → Ends b end at e
ends b end at e h =
    let n = get_or b at 0 in
    let x = unmet (ltb n 4) _ 10 0 e h in
    let y = unmet (ltb 60 n) _ 10 0 e x.1 in
    let z = unmet (ltb end (at + (n + 1))) _ 10 0 e y.1 in
    let f = z.1 in
    let k : at + (n + 1) ≡ e = cc in
    record {
      end_is = sym k;
      least = ltb-false n 4 x.0;
      most = ltb-false 60 n y.0;
      fits = omega (arith, ltb-false end (at + (n + 1)) z.0);
    }

-- ---- the loop over the records
whole-next : (b : List ℕ) (end at : ℕ) → at < end → end ≤ length b
    → whole_from b end at ≡ accepted (and_then (record_end b end at) (behind b end at))
whole-next b end at h l = ap (λ (a : Answer (List Record)). accepted a) (records-next b end l at h)

accepted_then : {A B : Type 0} (a : Answer A) (f : A → B) → accepted (and_then a (λ x. got (f x))) ≡ accepted a
accepted_then (got x) f = refl
accepted_then (refused n p) f = refl

pub whole_turn : (b : List ℕ) (end at e : ℕ) → at < end → end ≤ length b → record_end b end at ≡ got e
    → whole_from b end at ≡ whole_from b end e
whole_turn b end at e h l g =
    whole-next b end at h l
    ∙ ap (λ (a : Answer ℕ). accepted (and_then a (behind b end at))) g
    ∙ accepted_then (records_to b end e) (λ rs. record { place = at; payload = payload_in b at e } ∷ rs)

pub whole-stops : (b : List ℕ) (end at : ℕ) → at < end → end ≤ length b → record_end b end at ≡ refused 10 0 → whole_from b end at ≡ false
whole-stops b end at h l g =
    whole-next b end at h l ∙ ap (λ (a : Answer ℕ). accepted (and_then a (behind b end at))) g

pub whole-done : (b : List ℕ) (end at : ℕ) → end ≤ length b → end ≤ at → whole_from b end at ≡ true
whole-done b end at l h = ap (λ (a : Answer (List Record)). accepted a) (records_none b end l at h)

-- ---- what is not whole is refused by 10, what is whole has its records
pub accepted-got : {A : Type 0} (a : Answer A) → true ≡ accepted a → (x : A) × (a ≡ got x)
accepted-got (got x) h = (x, refl)
accepted-got (refused n p) h = let z : ◌≡◌ {A = ℕ} 0 1 = cc in absurd (omega arith)

ten_by : (x y z : Bool) (a : Answer (List Record)) (f : List Record → List Record) → (false ≡ accepted a → a ≡ refused 10 0)
    → false ≡ accepted (pick x (refused 10 0) (pick y (refused 10 0) (pick z (refused 10 0) (and_then a (λ rs. got (f rs))))))
    → pick x (refused 10 0) (pick y (refused 10 0) (pick z (refused 10 0) (and_then a (λ rs. got (f rs))))) ≡ refused 10 0
ten_by true y z a f go h = refl
ten_by false true z a f go h = refl
ten_by false false true a f go h = refl
ten_by false false false (got rs) f go h = let z : ◌≡◌ {A = ℕ} 0 1 = cc in absurd (omega arith)
ten_by false false false (refused n p) f go h = let e = go refl in let i : n ≡ 10 = cc in let j : p ≡ 0 = cc in rw (i, j)

pub ten : (f at : ℕ) (s : List ℕ) → false ≡ accepted (records_from f at s) → records_from f at s ≡ refused 10 0
ten zero at s h = let z : ◌≡◌ {A = ℕ} 0 1 = cc in absurd (omega arith)
ten (suc f) at [] h = let z : ◌≡◌ {A = ℕ} 0 1 = cc in absurd (omega arith)
ten (suc f) at (n ∷ s) h =
    ten_by (ltb n 4) (ltb 60 n) (ltb (length s) n) (records_from f (at + suc n) (drop n s)) (λ rs. record { place = at; payload = take n s } ∷ rs)
    (ten f (at + suc n) (drop n s)) h

-- ---- the used bytes: by their number, or up to their end
pub used-part : (b : List ℕ) → records_to b (used_end b) 6 ≡ records_in b
used-part b = let l : used_end b - 6 ≡ used_count b = omega arith in ap (λ (n : ℕ). records_from (suc n) 6 (take n (drop 6 b))) l

-- ---- the first of them stands at the place, if there is any
pub first_is : (b : List ℕ) (end at : ℕ) (rs : List Record) → end ≤ length b → records_to b end at ≡ got rs → first_of rs ≡ place_before end at
first_is b end at rs l h = by (ltb at end) refl
  where
    by : (t : Bool) → ltb at end ≡ t → first_of rs ≡ place_before end at
    by true e =
        let p = and_got (record_end b end at) (behind b end at) rs (sym (records-next b end l at (ltb-true at end e)) ∙ h) in
        let q = and_got (records_to b end p.0) _ rs p.1.1 in
        let f : first_of rs ≡ at = ap (λ (a : Answer (List Record)). first_of (value_in [] a)) (sym q.1.1) in
        f ∙ rw e
    by false e =
        let none = records_none b end l at (ltb-false at end e) in
        let f : first_of rs ≡ 0 = ap (λ (a : Answer (List Record)). first_of (value_in [] a)) (sym h ∙ none) in
        f ∙ rw e

-- What other crates cite of a block: its records, one behind the other, are those that a walk finds. Assumes nothing.
use Prim.Native.Nat.{ℕ, zero, suc, ◌+◌, ◌<◌, ◌≤◌}
use mathlib.Core.Bool.{Bool, true, false}
use mathlib.Core.List.{List, [], ◌∷◌}
use mathlib.Core.Logic.{◌⊎◌, inl, inr}
use mathlib.Core.Path.{◌≡◌, refl, ap, sym, subst, ◌∙◌}
use native.Mathlib.Omega.{arith}
use borrow.Author.Tests.{ltb-true, ltb-false, leb-true, leb-false, eqb-true}
use lib.ListN.{length, drop, get_or}
use lib.Dec.{ltb, leb, eqb}
use Rattle.codec.specs.Pick.{pick}
use Rattle.codec.specs.Sheet.{got}
use Rattle.codec.proofs.There.{and_got}
use Rattle.codec.proofs.Refused.{Some, some-got, some-refused, some_then, some-pick}
use Rattle.families.specs.Text.{zeros}
use Rattle.blocks.specs.Block.{block_number, used_count, used_bytes, filler, check_byte, block_check, Record, records_from, records_in, records_of}
use Rattle.blocks.specs.Walk.{first_of, opening, opening_of, standing, used_end, place_before, record_end, record_at, payload_in}
use Rattle.blocks.specs.Steps.{records_to}
use Rattle.blocks.proofs.Records.{met, unmet, ends, behind, records_none, records-next, used-part, first_is}
use Rattle.blocks.proofs.Ways.{at_there}

-- ---- a record that stands
-- it is one of 512 bytes, at most 505 of which are used, at a place within them
pub record Stands (b : List ℕ) (at n e x : ℕ) : Type 0 where
  pub size : length b ≡ 512
  pub used : used_count b ≤ 505
  pub behind-head : 6 ≤ at
  pub before_end : at < used_end b
  pub ends_at : record_end b (used_end b) at ≡ got e
  pub number_is : n ≡ block_number b
  pub next_is : x ≡ place_before (used_end b) e

pub stands : (b : List ℕ) (at n e x : ℕ) → record_at b at ≡ got (standing n e x) → Stands b at n e x
unfolding record_at
stands b at n e x h =
    let a = met (eqb (length b) 512) _ 10 0 (standing n e x) h in
    let u = met (leb (used_count b) 505) _ 10 0 (standing n e x) a.1 in
    let f = unmet (ltb at 6) _ 10 0 (standing n e x) u.1 in
    let l = unmet (leb (used_end b) at) _ 10 0 (standing n e x) f.1 in
    let r = and_got (record_end b (used_end b) at) _ (standing n e x) l.1 in
    let y = r.0 in
    let same : got (standing (block_number b) y (place_before (used_end b) y)) ≡ got (standing n e x) = r.1.1 in
    let i : block_number b ≡ n = cc in
    let j : y ≡ e = cc in
    let k : place_before (used_end b) y ≡ x = cc in
    record {
      size = eqb-true (length b) 512 a.0;
      used = leb-true (used_count b) 505 u.0;
      behind-head = ltb-false at 6 f.0;
      before_end = leb-false (used_end b) at l.0;
      ends_at = r.1.0 ∙ ap got j;
      number_is = sym i;
      next_is = sym k ∙ ap (λ (m : ℕ). place_before (used_end b) m) j;
    }

place-within : (end e : ℕ) → 6 ≤ e → end ≤ 511 → (place_before end e ≡ 0) ⊎ ((6 ≤ place_before end e) × (place_before end e ≤ 511))
place-within end e l m = by (ltb e end) refl
  where
    by : (t : Bool) → ltb e end ≡ t → (pick t e 0 ≡ 0) ⊎ ((6 ≤ pick t e 0) × (pick t e 0 ≤ 511))
    by true h = inr (l, omega (arith, ltb-true e end h))
    by false h = inl refl

pub stands-within : (b : List ℕ) (at n e x : ℕ) → record_at b at ≡ got (standing n e x)
    → (6 ≤ at) × ((at + 1 ≤ e) × ((e ≤ length b) × ((length b ≡ 512) × ((n ≡ block_number b) × ((x ≡ 0) ⊎ ((6 ≤ x) × (x ≤ 511)))))))
stands-within b at n e x h =
    let s = stands b at n e x h in
    let r = ends b (used_end b) at e s.ends_at in
    let near : at + 1 ≤ e = omega arith in
    let far : e ≤ length b = omega arith in (
      s.behind-head,
      (
        near,
        (
          far,
          (
            s.size,
            (
              s.number_is,
              rw s.next_is (place-within (used_end b) e (omega arith) (omega arith)),
            ),
          ),
        ),
      ),
    )

-- ---- the records of a sound block are found by the walk
abbrev pub Walks : List ℕ → List Record → Type 0
Walks b [] = Unit {0}
Walks b (r ∷ rs) =
    (e : ℕ) × ((record_at b r.place ≡ got (standing (block_number b) e (first_of rs)))
    × ((payload_in b r.place e ≡ r.payload) × ((6 ≤ r.place) × ((r.place ≤ 511) × Walks b rs))))

module _ (b : List ℕ) (size : length b ≡ 512) (used : used_count b ≤ 505) where
  walks_from : (rs : List Record) (at : ℕ) → 6 ≤ at → records_to b (used_end b) at ≡ got rs → Walks b rs
  walks_from [] at l h = tt
  walks_from (r ∷ rs) at l h = by (ltb at (used_end b)) refl (walks_from rs)
    where
      within : used_end b ≤ length b
      within = omega arith

      by : (t : Bool) → ltb at (used_end b) ≡ t → ((e : ℕ) → 6 ≤ e → records_to b (used_end b) e ≡ got rs → Walks b rs) → Walks b (r ∷ rs)
      by false g go =
          let z = sym h ∙ records_none b (used_end b) within at (ltb-false at (used_end b) g) in
          let o : ◌≡◌ {A = ℕ} 0 1 = cc in absurd (omega arith)
      by true g go =
          let m = ltb-true at (used_end b) g in
          let p = and_got (record_end b (used_end b) at) (behind b (used_end b) at) (r ∷ rs) (sym (records-next b (used_end b) within at m) ∙ h) in
          let e = p.0 in
          let q = and_got (records_to b (used_end b) e) _ (r ∷ rs) p.1.1 in
          let f = ends b (used_end b) at e p.1.0 in
          let same : got (record { place = at; payload = payload_in b at e } ∷ q.0) ≡ got (r ∷ rs) = q.1.1 in
          let first-same : record { place = at; payload = payload_in b at e } ≡ r = cc in
          let rest-same : q.0 ≡ rs = cc in
          let rest : records_to b (used_end b) e ≡ got rs = q.1.0 ∙ ap got rest-same in
          subst (λ (s : Record). Walks b (s ∷ rs)) first-same (
            e,
            (
              sym (at_there b at size (used_end b) (used, refl) l m (block_number b) e (first_of rs) refl p.1.0
                  (first_is b (used_end b) e rs within rest)),
              (refl, (l, (omega arith, go e (omega arith) rest))),
            ),
          )

-- ---- a sound block
pub record Sound (b : List ℕ) (rs : List Record) : Type 0 where
  pub size : length b ≡ 512
  pub check : check_byte b ≡ block_check b
  pub used : used_count b ≤ 505
  pub records : records_in b ≡ got rs
  pub unused : zeros (filler b) ≡ true

pub sound : (b : List ℕ) (rs : List Record) → records_of b ≡ got rs → Sound b rs
unfolding records_of
sound b rs h =
    let a = met (eqb (length b) 512) _ 1 0 rs h in
    let k = met (eqb (check_byte b) (block_check b)) _ 9 0 rs a.1 in
    let u = met (leb (used_count b) 505) _ 10 0 rs k.1 in
    let r = and_got (records_in b) _ rs u.1 in
    let z = met (zeros (filler b)) _ 10 0 rs r.1.1 in
    record {
      size = eqb-true (length b) 512 a.0;
      check = eqb-true (check_byte b) (block_check b) k.0;
      used = leb-true (used_count b) 505 u.0;
      records = r.1.0 ∙ z.1;
      unused = z.0;
    }

-- what it opens with
pub sound-opens : (b : List ℕ) (rs : List Record) → records_of b ≡ got rs → opening_of b ≡ got (opening (block_number b) (first_of rs))
sound-opens b rs h = rw h

pub sound_walks : (b : List ℕ) (rs : List Record) → records_of b ≡ got rs → Walks b rs
sound_walks b rs h =
    let s = sound b rs h in
    walks_from b s.size s.used rs 6 (omega arith) (used-part b ∙ s.records)

-- ---- each refusal has a number that is not 0, and place 0
from_some : (f at : ℕ) (s : List ℕ) → Some (records_from f at s)
from_some zero at s = some-got []
from_some (suc f) at [] = some-got []
from_some (suc f) at (n ∷ s) =
    some-pick (ltb n 4) _ _ (some-refused 10 (omega arith))
    (some-pick (ltb 60 n) _ _ (some-refused 10 (omega arith))
    (some-pick (ltb (length s) n) _ _ (some-refused 10 (omega arith))
    (some_then (records_from f (at + suc n) (drop n s)) _ (from_some f (at + suc n) (drop n s)) (λ rs. some-got _))))

pub records-some : (b : List ℕ) → Some (records_of b)
unfolding records_of
records-some b =
    some-pick (eqb (length b) 512) _ _
    (some-pick (eqb (check_byte b) (block_check b)) _ _
    (some-pick (leb (used_count b) 505) _ _
    (some_then (records_in b) _ (from_some (suc (used_count b)) 6 (used_bytes b))
    (λ rs. some-pick (zeros (filler b)) _ _ (some-got rs) (some-refused 10 (omega arith))))
    (some-refused 10 (omega arith)))
    (some-refused 9 (omega arith)))
    (some-refused 1 (omega arith))

end_some_number : (b : List ℕ) (end at : ℕ) → Some (record_end b end at)
end_some_number b end at =
    some-pick (ltb (get_or b at 0) 4) _ _ (some-refused 10 (omega arith))
    (some-pick (ltb 60 (get_or b at 0)) _ _ (some-refused 10 (omega arith))
    (some-pick (ltb end (at + (get_or b at 0 + 1))) _ _ (some-refused 10 (omega arith)) (some-got _)))

pub stands-some : (b : List ℕ) (at : ℕ) → Some (record_at b at)
unfolding record_at
stands-some b at =
    some-pick (eqb (length b) 512) _ _
    (some-pick (leb (used_count b) 505) _ _
    (some-pick (ltb at 6) _ _ (some-refused 10 (omega arith))
    (some-pick (leb (used_end b) at) _ _ (some-refused 10 (omega arith))
    (some_then (record_end b (used_end b) at) _ (end_some_number b (used_end b) at) (λ e. some-got _))))
    (some-refused 10 (omega arith)))
    (some-refused 10 (omega arith))

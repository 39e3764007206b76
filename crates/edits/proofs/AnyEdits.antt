-- Demand 3 (docs/BEHAVIOUR.md, "The demands"): take a command that the writer accepts, the bytes it wrote and any list of edits (a field
-- number and a new number each). After each edit the bytes are exactly those the writer makes afresh from the command with the accepted
-- edits so far. An edit is refused exactly when the command has no such field or the number is out of range. Only the bytes holding the
-- field, and the check byte, may differ. Assumes nothing.
use Prim.Native.Nat.{ℕ, ◌+◌, ◌-◌, ◌*◌, ◌%◌, ◌^◌, ◌<◌, ◌≤◌}
use mathlib.Core.Bool.{Bool, true, false}
use mathlib.Core.List.{List, [], ◌∷◌}
use mathlib.Core.Logic.{◌⊎◌, inl, inr}
use mathlib.Core.Path.{◌≡◌, refl, ap, ap₂, sym, subst, ◌∙◌}
use native.Mathlib.Omega.{arith}
use lib.ListN.{length, get_or, length-set}
use lib.Seq.{length-sets, get_or-set_other}
use lib.Dec.{leb, ltb, eqb}
use borrow.Author.Tests.{leb-true, ltb-true, ltb-false, leb-false}
use Rattle.codec.specs.Pick.{pick}
use Rattle.codec.specs.Digits.{number_of, bytes_of}
use Rattle.codec.specs.Sheet.{Field, field, Item, packed, text, Answer, got, refused, and_then}
use Rattle.codec.specs.Edit.{place_of, replaced, in_field}
use Rattle.codec.specs.Refusals.{number_in, value_in}
use Rattle.codec.proofs.Digits.{length-bytes_of}
use Rattle.codec.proofs.Narrow.{sets-before, sets_behind}
use Rattle.families.specs.Payload.{family_id}
use Rattle.commands.specs.Writing.{payload_of, stop_writing}
use Rattle.commands.specs.declared.DirectCommands.{DirectCommands}
use Rattle.commands.proofs.Back.{Typed}
use Rattle.commands.proofs.Promised.{Sound, sound-accepted, accepted-sound}
use Rattle.edits.specs.Fields.{Spot, spot, Standing, of, Listed, everywhere, listed, fields, item_in, spot_in}
use Rattle.edits.specs.Record.{sub_of, items_in, values_in}
use Rattle.edits.specs.Edit.{Edit, edit, field_of, field_at, spot_of, with_field, edit_command, bytes_left, numbers_of, bytes_after}
use Rattle.edits.specs.Demand.{with_edit, with_edits, named, judged, numbers_for, holds_bit, holds_in, holds_item, holds_spot, OnlyThere, holds_any, OnlyThose, Demanded}
use Rattle.edits.specs.Table.{skipped, holding}
use Rattle.edits.specs.Change.{held, patched, changed}
use Rattle.edits.proofs.Held.{first-not}
use Rattle.edits.proofs.With.{FieldIn, field-there, spot_free, with_field_lem}
use Rattle.edits.proofs.Step.{low_bits, field_place, field_width, changed_there, in_item, stepped}
use Rattle.edits.proofs.Applied.{edit-opened}

-- ---- the bytes that hold a field are those that the code changes
outside : (w low b q : ℕ) → low + b ≤ 8 * w → q < w → holds_bit w low b q ≡ false → (q < skipped w low b) ⊎
    (skipped w low b + holding low b ≤ q)
outside w low b q h l e = by (ltb low (8 * (w - q))) (ltb (8 * (w - (q + 1))) (low + b)) refl refl e
  where
    by : (s t : Bool) → ltb low (8 * (w - q)) ≡ s → ltb (8 * (w - (q + 1))) (low + b) ≡ t → pick s t false ≡ false
        → (q < skipped w low b) ⊎ (skipped w low b + holding low b ≤ q)
    by false t i j g = let k = ltb-false low (8 * (w - q)) i in inr (omega arith)
    by true false i j g = let k = ltb-false (8 * (w - (q + 1))) (low + b) j in inl (omega arith)
    by true true i j g = let z : ◌≡◌ {A = ℕ} 0 1 = cc in absurd (omega arith)

window : (at w low b k : ℕ) (lo hi : ℕ) → low + b ≤ 8 * w → holds_in at w low (field b lo hi) k ≡ false
    → (k < at + skipped w low b) ⊎ (at + skipped w low b + holding low b ≤ k)
window at w low b k lo hi h e = by (leb at k) (ltb k (at + w)) refl refl e
  where
    by : (s t : Bool) → leb at k ≡ s → ltb k (at + w) ≡ t → pick s (pick t (holds_bit w low b (k - at)) false) false ≡ false
        → (k < at + skipped w low b) ⊎ (at + skipped w low b + holding low b ≤ k)
    by false t i j g = let x = leb-false at k i in inl (omega arith)
    by true false i j g = let x = ltb-false k (at + w) j in inr (omega arith)
    by true true i j g =
        let x = leb-true at k i in
        let y = ltb-true k (at + w) j in
        inside (outside w low b (k - at) h (omega arith) g) x
      where
        inside : (k - at < skipped w low b) ⊎ (skipped w low b + holding low b ≤ k - at) → at ≤ k
            → (k < at + skipped w low b) ⊎ (at + skipped w low b + holding low b ≤ k)
        inside (inl l) x = inl (omega arith)
        inside (inr l) x = inr (omega arith)

-- changing them changes no other byte but the last
changed-there : (p : List ℕ) (at w u m n k : ℕ) → (k < at) ⊎ (at + w ≤ k) → (k ≡ length p - 1 → ⊥)
    → get_or (changed p at w u m n) k 0 ≡ get_or p k 0
changed-there p at w u m n k h l =
    let b = bytes_of w (replaced u m (number_of (held p at w)) n) in
    get_or-set_other (patched p at w u m n) (length p - 1) k _ 0 l ∙ by h
  where
    by : (k < at) ⊎ (at + w ≤ k) → get_or (patched p at w u m n) k 0 ≡ get_or p k 0
    by (inl a) = sets-before p (bytes_of w (replaced u m (number_of (held p at w)) n)) at k a
    by (inr a) = sets_behind p (bytes_of w (replaced u m (number_of (held p at w)) n)) at k
        (rw (length-bytes_of w (replaced u m (number_of (held p at w)) n)) a)

changed-length : (p : List ℕ) (at w u m n : ℕ) → length (changed p at w u m n) ≡ length p
changed-length p at w u m n = rw (length-set, length-sets)

-- ---- a field that there is not is 7
item_seven : (l : List Standing) (sub k p : ℕ) → item_in l sub ≡ refused k p → k ≡ 7
item_seven [] sub k p e = cc
item_seven (of x i ∷ l) sub k p e = by (eqb sub x) (item_seven l sub k p) e
  where
    by : (t : Bool) → (item_in l sub ≡ refused k p → k ≡ 7) → pick t (got i) (item_in l sub) ≡ refused k p → k ≡ 7
    by true go g = let z : ◌≡◌ {A = ℕ} 0 1 = cc in absurd (omega arith)
    by false go g = go g

spot_seven : (l : List Listed) (id sub f k p : ℕ) → spot_in l id sub f ≡ refused k p → k ≡ 7
spot_seven [] id sub f k p e = cc
spot_seven (everywhere x i ∷ l) id sub f k p e = by (eqb f x) (spot_seven l id sub f k p) e
  where
    by : (t : Bool) → (spot_in l id sub f ≡ refused k p → k ≡ 7) → pick t (got (spot i 0)) (spot_in l id sub f) ≡ refused k p → k ≡ 7
    by true go g = let z : ◌≡◌ {A = ℕ} 0 1 = cc in absurd (omega arith)
    by false go g = go g
spot_seven (listed x family at j ∷ l) id sub f k p e = by (eqb f x) (eqb id family) (item_in at sub) refl (spot_seven l id sub f k p) e
  where
    by : (t u : Bool) (a : Answer ℕ) → item_in at sub ≡ a → (spot_in l id sub f ≡ refused k p → k ≡ 7)
        → pick t (pick u (and_then a (λ i. got (spot i j))) (refused 7 0)) (spot_in l id sub f) ≡ refused k p → k ≡ 7
    by false u a h go g = go g
    by true false a h go g = cc
    by true true (got i) h go g = let z : ◌≡◌ {A = ℕ} 0 1 = cc in absurd (omega arith)
    by true true (refused m q) h go g = let d : m ≡ k = cc in sym d ∙ item_seven at sub m q h

field_seven : (t : Item) (j k p : ℕ) → field_of t j ≡ refused k p → k ≡ 7
field_seven (text least most) j k p e = cc
field_seven (packed w fs) j k p e = by (ltb j (length fs)) e
  where
    by : (t : Bool) → pick t (got (get_or fs j (field 0 0 0))) (refused 7 0) ≡ refused k p → k ≡ 7
    by true g = let z : ◌≡◌ {A = ℕ} 0 1 = cc in absurd (omega arith)
    by false g = cc

-- ---- ONE EDIT of a sound command, on its bytes
abbrev One : DirectCommands → ℕ → ℕ → Answer DirectCommands → Type 0
One c f n a =
    (number_in a ≡ judged (named c f) n)
    × (OnlyThere c f (payload_of c)
    (bytes_left (payload_of c) a) × ((bytes_left (payload_of c) a ≡ payload_of (value_in c a)) × Sound (value_in c a)))

module _ (c : DirectCommands) (f n : ℕ) (z : Sound c) where
  -- refused: no byte changes
  stays : (k l : ℕ) → k ≡ judged (named c f) n → One c f n (refused k l)
  stays k l e = (e, ((refl, λ x h g. refl), (refl, z)))

  -- what is judged is the field where it stands
  judged-at : (i j : ℕ) (a : Answer Field) → spot_of c f ≡ got (spot i j) → field_at c (spot i j) ≡ a → judged (named c f) n ≡ judged a n
  judged-at i j a e g = ap (λ (x : Answer Spot). judged (and_then x (λ s. field_at c s)) n) e ∙ ap (λ (x : Answer Field). judged x n) g

  accepted : (i j : ℕ) (d : Field) → spot_of c f ≡ got (spot i j) → field_at c (spot i j) ≡ got d → in_field d n ≡ true
      → One c f n (got (with_field c (spot i j) n))
  accepted i j (field b lo hi) e g r =
      let there = field-there (items_in c) i j (field b lo hi) g in
      let place = field_place z there in
      let width = field_width z there in
      let unit = 2 ^ (low_bits z there % 8) in
      let p = payload_of c in
      let c' = with_field c (spot i j) n in
      let v = with_field_lem c i j n (field b lo hi) z (spot_free c f i j e) g r in
      let s : payload_of c' ≡ changed_there z there p n = stepped z there n r (spot_free c f i j e) g in
      let m : 0 ≡ judged (named c f) n = sym (judged-at i j (got (field b lo hi)) e g ∙ ap (λ (t : Bool). pick t 0 8) r) in
      let long : length (payload_of c') ≡ length p = ap length s ∙ changed-length p place width unit (2 ^ b) n in (
        m,
        (
          (
            long,
            λ k h l. ap (λ (x : List ℕ). get_or x k 0) s ∙ changed-there p place width unit (2 ^ b) n k (at-window there k h) l,
          ),
          (refl, v.sound),
        ),
      )
    where
      at-window : (x : FieldIn (items_in c) i j (field b lo hi)) (k : ℕ) → holds_spot c (spot_of c f) k ≡ false
          → (k < field_place z x) ⊎ (field_place z x + field_width z x ≤ k)
      at-window x k h =
          let at = place_of (items_in c) (values_in c) i in
          let low = low_bits z x in
          let y : holds_in at x.wide low (field b lo hi) k ≡ false =
          sym (ap (λ (s : Answer Spot). holds_spot c s k) e
          ∙ ap (λ (t : Item). holds_item at t j k) x.holds
          ∙ ap (λ (d : Field). holds_in at x.wide low d k) x.this)
          ∙ h in
          window at x.wide low b k lo hi (in_item z x) y

  one : One c f n (edit_command (payload_of c) f n)
  one = subst (One c f n) (sym (edit-opened (payload_of c) c f n z refl)) (by-spot (spot_of c f) refl)
    where
      by_field : (i j : ℕ) (a : Answer Field) → spot_of c f ≡ got (spot i j) → field_at c (spot i j) ≡ a
          → One c f n (and_then a (λ d. pick (in_field d n) (got (with_field c (spot i j) n)) (refused 8 0)))
      by_field i j (refused k l) e g =
          stays k l (field_seven (get_or (items_in c) i (text 0 0)) j k l g ∙ sym (judged-at i j (refused k l) e g))
      by_field i j (got d) e g = by (in_field d n) refl
        where
          by : (t : Bool) → in_field d n ≡ t → One c f n (pick t (got (with_field c (spot i j) n)) (refused 8 0))
          by true r = accepted i j d e g r
          by false r = stays 8 0 (sym (judged-at i j (got d) e g ∙ ap (λ (t : Bool). pick t 0 8) r))

      by-spot : (a : Answer Spot) → spot_of c f ≡ a
          → One c f n (and_then a (λ x. and_then (field_at c x) (λ d. pick (in_field d n) (got (with_field c x n)) (refused 8 0))))
      by-spot (refused k l) e =
          stays k l
          (spot_seven fields (family_id c.payload) (sub_of c.payload) f k l e
          ∙ sym (ap (λ (a : Answer Spot). judged (and_then a (λ x. field_at c x)) n) e))
      by-spot (got (spot i j)) e = by_field i j (field_at c (spot i j)) e refl

-- ---- THE theorem
pub demanded : (c : DirectCommands) → Sound c → (es : List Edit) → Demanded c (payload_of c) es
demanded c z [] = (sound-accepted c z 60 z.short, refl)
demanded c z (edit f n ∷ es) =
    let x = one c f n z in
    let e = edit-opened (payload_of c) c f n z refl in
    let s : Sound (with_edit c f n) = subst (λ (a : Answer DirectCommands). Sound (value_in c a)) e x.1.1.1 in
    let b : payload_of (with_edit c f n) ≡ bytes_left (payload_of c) (edit_command (payload_of c) f n) =
    sym (x.1.1.0 ∙ ap (λ (a : Answer DirectCommands). payload_of (value_in c a)) e) in (
      sound-accepted c z 60 z.short,
      (
        refl,
        (
          x.0,
          (
            x.1.0,
            subst (λ (p : List ℕ). Demanded (with_edit c f n) p es) b
                (demanded (with_edit c f n) s es),
          ),
        ),
      ),
    )

pub any_edits : (c : DirectCommands) (room : ℕ) → c.dst_addr < 256 → c.src_addr < 256 → Typed c
    → stop_writing c room ≡ 0 → (es : List Edit) → Demanded c (payload_of c) es
any_edits c room d s t h es = demanded c (accepted-sound c room d s t h) es

-- so at the end of the list: the bytes and the numbers that its contract speaks of
pub bytes_at_end : (c : DirectCommands) (p : List ℕ) (es : List Edit) → Demanded c p es → bytes_after p es ≡ payload_of (with_edits c es)
bytes_at_end c p [] h = h.1
bytes_at_end c p (edit f n ∷ es) h = bytes_at_end (with_edit c f n) (bytes_left p (edit_command p f n)) es h.1.1.1.1

pub numbers_are : (c : DirectCommands) (p : List ℕ) (es : List Edit) → Demanded c p es → numbers_of p es ≡ numbers_for c es
numbers_are c p [] h = refl
numbers_are c p (edit f n ∷ es) h =
    ap₂ (λ (k : ℕ) (l : List ℕ). k ∷ l) h.1.1.0 (numbers_are (with_edit c f n) (bytes_left p (edit_command p f n)) es h.1.1.1.1)

pub only_those : (c : DirectCommands) (p : List ℕ) (es : List Edit) → Demanded c p es → OnlyThose c es p (bytes_after p es)
only_those c p [] h = (refl, λ k a b. refl)
only_those c p (edit f n ∷ es) h =
    let q = bytes_left p (edit_command p f n) in
    let o = h.1.1.1.0 in
    let r = only_those (with_edit c f n) q es h.1.1.1.1 in
    let l = o.0 in (
      r.0 ∙ l,
      λ k a b. let s = first-not (holds_spot c (spot_of c f) k) (holds_any (with_edit c f n) es k) a in r.1 k s.1
          (λ e. b (e ∙ ap (λ (x : ℕ). x - 1) l)) ∙ o.1 k s.0 b,
    )

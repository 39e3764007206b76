-- Construction and inspection undo each other; made, decided. Assumes nothing.
use Prim.Native.Nat.{ℕ, zero, suc, ◌+◌, ◌-◌, ◌≤◌}
use mathlib.Core.Bool.{Bool, true, false}
use mathlib.Core.List.{List, [], ◌∷◌, ◌++◌}
use mathlib.Core.Path.{◌≡◌, refl, ap, sym, ◌∙◌}
use native.Mathlib.Omega.{arith}
use lib.ListN.{length, take, drop, replicate, length-drop, take-append-drop}
use lib.Seq.{take-append_seam, drop-append_seam, take_all, length-take-le}
use lib.Dec.{leb, ltb, eqb}
use borrow.Author.Tests.{le-leb, leb-true, eq-eqb, eqb-true, le-ltb, ltb-false}
use Rattle.codec.specs.Pick.{pick}
use Rattle.codec.specs.Sheet.{Answer, got, refused, text, first, number, flag}
use Rattle.codec.specs.Reading.{shorter}
use Rattle.codec.specs.Writing.{ok_item, ok_items, nonzero, stop_each}
use Rattle.codec.specs.Told.{bit}
use Rattle.crc.specs.Check.{Bytes}
use Rattle.crc.proofs.Laws.{bytes_take}
use Rattle.codec.proofs.Back.{both, passed}
use Rattle.codec.proofs.Stops.{each_ok, each_room}
use Rattle.codec.proofs.Joins.{Each, none, one, each_of}
use Rattle.codec.proofs.Items.{flag-bit}
use Rattle.families.specs.declared.screen.ScreenPopup.{ScreenPopup}
use Rattle.families.specs.declared.screen.ScreenPopupFields.{ScreenPopupFields}
use Rattle.families.specs.declared.screen.ScreenAdditionalData.{ScreenAdditionalData}
use Rattle.families.specs.declared.screen.ScreenAdditionalData.TheVariants.{Absent, Empty, Selection}
use Rattle.families.specs.Sheets.{text_item}
use Rattle.families.specs.Text.{zeros, text_of, bytes_in, made_text}
use Rattle.families.specs.Popup.{popup_items, Popup, popup, alone, read_popup, ok_popup, write_popup}
use Rattle.families.specs.Fields.{head_says, more_says, values_says, popup_says, made_more, made_values, made_texts, popup_of, stop_popup, unless, construct, MadePopup, fields_of, whole, inspect, is_got, made_popup}
use Rattle.families.specs.Sizes.{Sized}
use Rattle.families.proofs.TextLaws.{zeros-replicate, zeros_are, made_is}
use Rattle.families.proofs.PopupLaws.{popup_back, popup_forth}
use Rattle.families.proofs.ScreenLaws.{bit_is}

pub in_text : (v : List ℕ) → bytes_in (text_of v) ≡ v
in_text v = take-append_seam v (replicate (51 - length v) 0)

pub made-text : (v : List ℕ) → ok_item text_item v ≡ true → made_text (text_of v) ≡ true
made-text v h =
    let t = both (leb (length v) 51) (nonzero v) h in
    rw (t.0, in_text v, t.1, drop-append_seam v (replicate (51 - length v) 0)) (zeros-replicate (51 - length v))

-- the inspection of what is written
pub inspect-of : (k : ScreenAdditionalData) (p : Bool) (vs : List (List ℕ)) → ok_popup (popup k p vs) ≡ true → length (write_popup (popup k p vs)) ≤ 55
    → inspect (popup_of (write_popup (popup k p vs))) ≡ got (fields_of (popup k p vs))
inspect-of k p vs o l =
    let w = write_popup (popup k p vs) in
    rw (
      le-leb (length w) 55 l,
      drop-append_seam w (replicate (55 - length w) 0),
      zeros-replicate (55 - length w),
      take-append_seam w (replicate (55 - length w) 0),
      popup_back [] k p vs o,
      eq-eqb (length w) (length w) refl,
    )

-- a number alone in its item
pub single_of : (lo hi : ℕ) (v : List ℕ) → ok_item (number 1 lo hi) v ≡ true → (first v ∷ [] ≡ v) × (first v ≤ hi)
single_of lo hi [] h = let z : ◌≡◌ {A = ℕ} 0 1 = cc in absurd (omega arith)
single_of lo hi (n ∷ []) h =
    let p = passed (ltb n lo) (pick (ltb hi n) false true) h in
    let q = passed (ltb hi n) true p.1 in
    (refl, ltb-false hi n q.0)
single_of lo hi (n ∷ m ∷ r) h =
    let p = passed (ltb n lo) (pick (ltb hi n) false false) h in
    let q = passed (ltb hi n) false p.1 in
    let z : ◌≡◌ {A = ℕ} 0 1 = cc q.1 in absurd (omega arith)

flag-of : (v : List ℕ) → ok_item flag v ≡ true → bit (eqb (first v) 1) ∷ [] ≡ v
flag-of v h = let t = single_of 0 1 v h in rw (flag-bit (first v) t.1) t.0

empty_of : (v : List ℕ) → ok_item (text 0 0) v ≡ true → [] ≡ v
empty_of [] h = refl
empty_of (b ∷ v) h = let o = both (leb (length (b ∷ v)) 0) (nonzero (b ∷ v)) h in absurd (omega (arith, leb-true (length (b ∷ v)) 0 o.0))

label_of : (v : List ℕ) → ok_item (text 1 51) v ≡ true → ok_item text_item v ≡ true
label_of v h = (passed (shorter 1 v) (pick (leb (length v) 51) (nonzero v) false) h).1

pub says-fields : (k : ScreenAdditionalData) (p : Bool) (vs : List (List ℕ)) → Each (popup_items k p) vs
    → alone k p ≡ false → popup_says (fields_of (popup k p vs)) ≡ popup k p vs
says-fields Absent true vs e a = let z : ◌≡◌ {A = ℕ} 0 1 = cc in absurd (omega arith)
says-fields Absent false vs (one {v = v1} p1 (one {v = v2} p2 (one {v = v3} p3 (one {v = v4} p4 none)))) a =
    rw (in_text v1, in_text v2, (single_of 0 255 v3 p3).0, flag-of v4 p4)
says-fields Empty false vs (one {v = v1} p1 (one {v = v2} p2 (one {v = v3} p3 (one {v = v4} p4 (one {v = v5} p5 none))))) a =
    rw (in_text v1, in_text v2, (single_of 0 255 v3 p3).0, flag-of v4 p4, ← (empty_of v5 p5))
says-fields Empty true vs (one {v = v1} p1 (one {v = v2} p2 (one {v = v3} p3 (one {v = v4} p4 (one {v = v5} p5 (one {v = v6} p6 none)))))) a =
    rw (in_text v1, in_text v2, (single_of 0 255 v3 p3).0, flag-of v4 p4, ← (empty_of v5 p5), in_text v6)
says-fields Selection false vs
    (one {v = v1} p1 (one {v = v2} p2
    (one {v = v3} p3 (one {v = v4} p4
    (one {v = v5} p5 (one {v = v6} p6
    (one {v = v7} p7 (one {v = v8} p8 (one {v = v9} p9 (one {v = v10} p10 none)))))))))) a =
    rw (
      in_text v1,
      in_text v2,
      (single_of 0 255 v3 p3).0,
      flag-of v4 p4,
      in_text v5,
      (single_of 0 255 v6 p6).0,
      (single_of 0 255 v7 p7).0,
      (single_of 0 255 v8 p8).0,
      (single_of 0 255 v9 p9).0,
      in_text v10,
    )
says-fields Selection true vs
    (one {v = v1} p1 (one {v = v2} p2
    (one {v = v3} p3 (one {v = v4} p4
    (one {v = v5} p5 (one {v = v6} p6
    (one {v = v7} p7 (one {v = v8} p8 (one {v = v9} p9 (one {v = v10} p10 (one {v = v11} p11 none))))))))))) a =
    rw (
      in_text v1,
      in_text v2,
      (single_of 0 255 v3 p3).0,
      flag-of v4 p4,
      in_text v5,
      (single_of 0 255 v6 p6).0,
      (single_of 0 255 v7 p7).0,
      (single_of 0 255 v8 p8).0,
      (single_of 0 255 v9 p9).0,
      in_text v10,
      in_text v11,
    )

pub made-fields : (k : ScreenAdditionalData) (p : Bool) (vs : List (List ℕ)) → Each (popup_items k p) vs
    → alone k p ≡ false → made_texts (fields_of (popup k p vs)) ≡ true
made-fields Absent true vs e a = let z : ◌≡◌ {A = ℕ} 0 1 = cc in absurd (omega arith)
made-fields Absent false vs (one {v = v1} p1 (one {v = v2} p2 (one p3 (one p4 none)))) a = rw (made-text v1 p1, made-text v2 p2)
made-fields Empty false vs (one {v = v1} p1 (one {v = v2} p2 (one p3 (one p4 (one p5 none))))) a = rw (made-text v1 p1, made-text v2 p2)
made-fields Empty true vs (one {v = v1} p1 (one {v = v2} p2 (one p3 (one p4 (one p5 (one {v = v6} p6 none)))))) a =
    rw (made-text v1 p1, made-text v2 p2, made-text v6 p6)
made-fields Selection false vs
    (one {v = v1} p1 (one {v = v2} p2
    (one p3 (one p4 (one {v = v5} p5 (one p6 (one p7 (one p8 (one p9 (one {v = v10} p10 none)))))))))) a =
    rw (made-text v1 p1, made-text v2 p2, made-text v5 (label_of v5 p5), made-text v10 p10)
made-fields Selection true vs
    (one {v = v1} p1 (one {v = v2} p2
    (one p3 (one p4 (one {v = v5} p5
    (one p6 (one p7 (one p8 (one p9 (one {v = v10} p10 (one {v = v11} p11 none))))))))))) a =
    rw (made-text v1 p1, made-text v2 p2, made-text v5 (label_of v5 p5), made-text v10 p10, made-text v11 p11)

pub construct-by : (f : ScreenPopupFields) (q : Popup) → made_texts f ≡ true → popup_says f ≡ q → stop_popup q ≡ 0 → construct f ≡ got (popup_of (write_popup q))
construct-by f q m e s = rw m (ap (λ (r : Popup). unless (stop_popup r) r) e ∙ ap (λ (n : ℕ). unless n q) s)

-- the construction of what was inspected
pub construct-of : (k : ScreenAdditionalData) (p : Bool) (vs : List (List ℕ)) → ok_popup (popup k p vs) ≡ true → length (write_popup (popup k p vs)) ≤ 55
    → construct (fields_of (popup k p vs)) ≡ got (popup_of (write_popup (popup k p vs)))
construct-of k p vs o l =
    let t = passed (alone k p) (ok_items (popup_items k p) vs) o in
    let e = each_of (popup_items k p) vs t.1 in
    let s : stop_popup (popup k p vs) ≡ 0
    = rw (t.0, each_room 1 55 0 (popup_items k p) vs t.1 (omega arith), le-ltb 55 (0 + length (write_popup (popup k p vs))) (omega arith)) in
    construct-by (fields_of (popup k p vs)) (popup k p vs) (made-fields k p vs e t.0) (says-fields k p vs e t.0) s

-- what nothing stops is in range and fits
says-length : (k : ScreenAdditionalData) (p : Bool) (f : ScreenPopupFields) → length (popup_items k p) ≡ length (head_says f ++ (more_says k f ++ values_says p f))
says-length Absent true f = refl
says-length Absent false f = refl
says-length Empty true f = refl
says-length Empty false f = refl
says-length Selection true f = refl
says-length Selection false f = refl

stop_ok : (k : ScreenAdditionalData) (p : Bool) (vs : List (List ℕ)) → length (popup_items k p) ≡ length vs → stop_popup (popup k p vs) ≡ 0
    → (ok_popup (popup k p vs) ≡ true) × (length (write_popup (popup k p vs)) ≤ 55)
stop_ok k p vs l h = by (alone k p) refl h
  where
    by : (a : Bool) → alone k p ≡ a → pick a 2 (stop_each 1 55 0 (popup_items k p) vs) ≡ 0
        → (ok_popup (popup k p vs) ≡ true) × (length (write_popup (popup k p vs)) ≤ 55)
    by true e g = absurd (omega arith)
    by false e g = let r = each_ok 0 55 0 (popup_items k p) vs l g in let m = r.1 (omega arith) in (rw e r.0, omega arith)

pub says_fit : (f : ScreenPopupFields) → stop_popup (popup_says f) ≡ 0 → (ok_popup (popup_says f) ≡ true) × (length (write_popup (popup_says f)) ≤ 55)
says_fit f e =
    let k = f.additional_data in
    let p = f.has_possible_values in
    stop_ok k p (head_says f ++ (more_says k f ++ values_says p f)) (says-length k p f) e

-- LAW: inspecting what was constructed gives the fields, absent ones blank
inspect-says : (f : ScreenPopupFields) (q : ScreenPopup) → construct f ≡ got q → inspect q ≡ got (fields_of (popup_says f))
inspect-says f q h = by (made_texts f) (stop_popup (popup_says f)) refl h
  where
    by : (m : Bool) (n : ℕ) → stop_popup (popup_says f) ≡ n → pick m (unless n (popup_says f)) (refused 5 0) ≡ got q → inspect q ≡ got (fields_of (popup_says f))
    by false n e g = let z : ◌≡◌ {A = ℕ} 0 1 = cc in absurd (omega arith)
    by true (suc n) e g = let z : ◌≡◌ {A = ℕ} 0 1 = cc in absurd (omega arith)
    by true zero e g =
        let r = says_fit f e in
        let i : q ≡ popup_of (write_popup (popup_says f)) = sym (cc) in
        rw i (inspect-of f.additional_data f.has_possible_values
        (head_says f ++ (more_says f.additional_data f ++ values_says f.has_possible_values f)) r.0
        r.1)

-- the bytes of a popup that was inspected
popup_is : (q : ScreenPopup) (w : List ℕ) → length q.bytes ≡ 55 → q.len ≤ 55 → zeros (drop q.len q.bytes) ≡ true → length w ≡ q.len
    → take q.len q.bytes ≡ w → q ≡ popup_of w
popup_is q w l m z n t =
    let e : length (drop q.len q.bytes) ≡ 55 - length w = rw (length-drop, l, n) in
    let d : drop q.len q.bytes ≡ replicate (55 - length w) 0 = zeros_are (drop q.len q.bytes) z ∙ rw e in
    let b : q.bytes ≡ w ++ replicate (55 - length w) 0 = sym (take-append-drop q.len q.bytes) ∙ rw (t, d) in
    rw (← b, n)

-- LAW: constructing what was inspected gives the popup
pub construct-inspect : (q : ScreenPopup) (f : ScreenPopupFields) → Bytes q.bytes → length q.bytes ≡ 55 → inspect q ≡ got f → construct f ≡ got q
construct-inspect q f y l h = by (leb q.len 55) (zeros (drop q.len q.bytes)) (read_popup (take q.len q.bytes) 0) refl refl refl h
  where
    s : List ℕ
    s = take q.len q.bytes

    last : (m : q.len ≤ 55) (z : zeros (drop q.len q.bytes) ≡ true) (r : Popup) (t : Bool) → eqb (length (write_popup r)) q.len ≡ t
        → read_popup s 0 ≡ got r → pick t (got (fields_of r)) (refused 5 0) ≡ got f → construct f ≡ got q
    last m z r false e rd g = let w : ◌≡◌ {A = ℕ} 0 1 = cc in absurd (omega arith)
    last m z (popup k p vs) true e rd g =
        let w = write_popup (popup k p vs) in
        let n = eqb-true (length w) q.len e in
        let x = popup_forth s 0 (popup k p vs) (bytes_take q.len q.bytes y) (omega arith) rd in
        let t : s ≡ w = sym (take_all (length w) s (rw (length-take-le q.len q.bytes (omega arith)) (omega arith))) ∙ x.1.1 in
        let i : q ≡ popup_of w = popup_is q w l m z n t in
        let j : f ≡ fields_of (popup k p vs) = sym (cc) in
        rw (j, i) (construct-of k p vs x.0 (omega arith))

    by : (a b : Bool) (r : Answer Popup) → leb q.len 55 ≡ a → zeros (drop q.len q.bytes) ≡ b → read_popup s 0 ≡ r
        → pick a (pick b (whole q.len r) (refused 5 0)) (refused 5 0) ≡ got f → construct f ≡ got q
    by false b r ea eb er g = let w : ◌≡◌ {A = ℕ} 0 1 = cc in absurd (omega arith)
    by true false r ea eb er g = let w : ◌≡◌ {A = ℕ} 0 1 = cc in absurd (omega arith)
    by true true (refused n p) ea eb er g = let w : ◌≡◌ {A = ℕ} 0 1 = cc in absurd (omega arith)
    by true true (got r) ea eb er g = last (leb-true q.len 55 ea) eb r (eqb (length (write_popup r)) q.len) refl er g

-- MADE, decided
got_is : (a : Answer ScreenPopupFields) → is_got a ≡ true → (f : ScreenPopupFields) × (a ≡ got f)
got_is (got f) h = (f, refl)
got_is (refused n p) h = let z : ◌≡◌ {A = ℕ} 0 1 = cc in absurd (omega arith)

pub made_decided : (q : ScreenPopup) → Bytes q.bytes → length q.bytes ≡ 55 → made_popup q ≡ true → MadePopup q
made_decided q y l h = let g = got_is (inspect q) h in (g.0, construct-inspect q g.0 y l g.1)

pub decided_made : (q : ScreenPopup) → MadePopup q → made_popup q ≡ true
decided_made q m = rw (inspect-says m.0 q m.1)

-- what the constructor makes is made
pub constructed_made : (f : ScreenPopupFields) (q : ScreenPopup) → construct f ≡ got q → made_popup q ≡ true
constructed_made f q h = decided_made q (f, h)

-- fields with absent items blank
abbrev pub if_selection : {A : Type 0} → ScreenAdditionalData → A → A → A
if_selection Absent a b = b
if_selection Empty a b = b
if_selection Selection a b = a

abbrev pub blanked : ScreenPopupFields → ScreenPopupFields
blanked f = record {
  header = f.header;
  info = f.info;
  max_timeout_interval = f.max_timeout_interval;
  close_button_option = f.close_button_option;
  additional_data = f.additional_data;
  selection_text = if_selection f.additional_data f.selection_text (text_of []);
  value = if_selection f.additional_data f.value 0;
  min_value = if_selection f.additional_data f.min_value 0;
  max_value = if_selection f.additional_data f.max_value 0;
  default_value = if_selection f.additional_data f.default_value 0;
  unit = if_selection f.additional_data f.unit (text_of []);
  has_possible_values = f.has_possible_values;
  possible_values = pick f.has_possible_values f.possible_values (text_of []);
}

fields-says : (f : ScreenPopupFields) → Sized f → made_texts f ≡ true → fields_of (popup_says f) ≡ blanked f
fields-says f z h =
    let a = both (made_text f.header)
    (pick (made_text f.info) (pick (made_more f.additional_data f) (made_values f.has_possible_values f)
    false) false) h in
    let b = both (made_text f.info) (pick (made_more f.additional_data f) (made_values f.has_possible_values f) false) a.1 in
    let c = both (made_more f.additional_data f) (made_values f.has_possible_values f) b.1 in
    by f.additional_data f.has_possible_values refl refl (made_is f.header z.0 a.0) (made_is f.info z.1.0 b.0) c.0 c.1
  where
    by : (k : ScreenAdditionalData) (p : Bool) → f.additional_data ≡ k → f.has_possible_values ≡ p
        → text_of (bytes_in f.header) ≡ f.header → text_of (bytes_in f.info) ≡ f.info
        → made_more k f ≡ true → made_values p f ≡ true → fields_of (popup_says f) ≡ blanked f
    by Absent true ek ep x y m v = rw (ek, ep, x, y, bit_is f.close_button_option, made_is f.possible_values z.1.1.1.1 v)
    by Absent false ek ep x y m v = rw (ek, ep, x, y, bit_is f.close_button_option)
    by Empty true ek ep x y m v = rw (ek, ep, x, y, bit_is f.close_button_option, made_is f.possible_values z.1.1.1.1 v)
    by Empty false ek ep x y m v = rw (ek, ep, x, y, bit_is f.close_button_option)
    by Selection true ek ep x y m v =
        let n = both (made_text f.selection_text) (made_text f.unit) m in
        rw (
          ek,
          ep,
          x,
          y,
          bit_is f.close_button_option,
          made_is f.selection_text z.1.1.0 n.0,
          made_is f.unit z.1.1.1.0 n.1,
          made_is f.possible_values z.1.1.1.1 v,
        )
    by Selection false ek ep x y m v =
        let n = both (made_text f.selection_text) (made_text f.unit) m in
        rw (ek, ep, x, y, bit_is f.close_button_option, made_is f.selection_text z.1.1.0 n.0, made_is f.unit z.1.1.1.0 n.1)

made-first : (m : Bool) (a : Answer ScreenPopup) (q : ScreenPopup) → pick m a (refused 5 0) ≡ got q → m ≡ true
made-first true a q h = refl
made-first false a q h = let z : ◌≡◌ {A = ℕ} 0 1 = cc in absurd (omega arith)

pub inspect-construct : (f : ScreenPopupFields) (q : ScreenPopup) → Sized f → construct f ≡ got q → inspect q ≡ got (blanked f)
inspect-construct f q z h =
    inspect-says f q h ∙ ap (λ (x : ScreenPopupFields). got x)
    (fields-says f z (made-first (made_texts f) (unless (stop_popup (popup_says f)) (popup_says f)) q h))

-- what the constructor made: fields in range that fit, and their bytes
pub constructed : (f : ScreenPopupFields) (q : ScreenPopup) → construct f ≡ got q
    → (ok_popup (popup_says f) ≡ true) × ((length (write_popup (popup_says f)) ≤ 55) × (q ≡ popup_of (write_popup (popup_says f))))
constructed f q h = by (made_texts f) (stop_popup (popup_says f)) refl h
  where
    by : (m : Bool) (n : ℕ) → stop_popup (popup_says f) ≡ n → pick m (unless n (popup_says f)) (refused 5 0) ≡ got q
        → (ok_popup (popup_says f) ≡ true) × ((length (write_popup (popup_says f)) ≤ 55) × (q ≡ popup_of (write_popup (popup_says f))))
    by false n e g = let z : ◌≡◌ {A = ℕ} 0 1 = cc in absurd (omega arith)
    by true (suc n) e g = let z : ◌≡◌ {A = ℕ} 0 1 = cc in absurd (omega arith)
    by true zero e g = let r = says_fit f e in let i : q ≡ popup_of (write_popup (popup_says f)) = sym (cc) in (r.0, (r.1, i))

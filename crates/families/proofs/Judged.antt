-- What stops a popup's construction, where every text that is present is made. Assumes nothing.
use Rattle.std.specs.Prelude.{Result, Ok}
use Prim.Native.Nat.{ℕ, zero, suc, ◌+◌, ◌≤◌}
use mathlib.Core.Bool.{Bool, true, false}
use mathlib.Core.List.{List, [], ◌∷◌, ◌++◌}
use mathlib.Core.Path.{◌≡◌, refl, ap, sym, ◌∙◌}
use native.Mathlib.Omega.{arith}
use lib.ListN.{length, drop, length-append}
use native.Mathlib.Nat.{zero-add}
use lib.Seq.{length-take-le}
use lib.Dec.{leb, ltb, eqb}
use borrow.Author.Tests.{leb-true, eq-eqb, eqb-true}
use Rattle.codec.specs.Pick.{pick}
use Rattle.codec.specs.Sheet.{refused, text}
use Rattle.codec.specs.Writing.{ok_item, ok_items, nonzero, write_items}
use Rattle.codec.specs.Refusals.{number_in}
use Rattle.codec.proofs.Back.{both}
use Rattle.codec.proofs.Outcomes.{gives_ok}
use Rattle.codec.proofs.Stops.{each_room}
use Rattle.codec.proofs.Joins.{ok_join, stop-join}
use Rattle.codec.proofs.Packed.{byte_ok, flag_ok}
use Rattle.families.specs.declared.text.CommandString.{CommandString}
use Rattle.families.specs.declared.screen.ScreenPopup.{ScreenPopup}
use Rattle.families.specs.declared.screen.ScreenPopupFields.{ScreenPopupFields}
use Rattle.families.specs.declared.screen.ScreenAdditionalData.{ScreenAdditionalData}
use Rattle.families.specs.declared.screen.ScreenAdditionalData.TheVariants.{Absent, Empty, Selection}
use Rattle.families.specs.Sheets.{text_item}
use Rattle.families.specs.Text.{zeros, bytes_in, made_text}
use Rattle.families.specs.Popup.{head_items, more_items, values_items, popup_items, popup, alone, write_popup}
use Rattle.families.specs.Fields.{head_says, more_says, values_says, popup_says, made_more, made_values, made_texts, stop_popup, unless, construct, PopupIs, MadePopup}
use Rattle.families.specs.Sizes.{Sized, Ranged, empty_label, more_size, over, stop_sizes}
use Rattle.codec.specs.declared.refusal.Refusal.{Refusal}
use Rattle.families.proofs.PopupLaws.{groups_write}

-- a text that is made, in the sheet's terms
pub text_ok : (t : CommandString) → length t.bytes ≡ 51 → made_text t ≡ true
    → (ok_item text_item (bytes_in t) ≡ true) × ((length (bytes_in t) ≡ t.len) × (t.len ≤ 51))
text_ok t l h =
    let m = both (leb t.len 51) (pick (nonzero (bytes_in t)) (zeros (drop t.len t.bytes)) false) h in
    let n = both (nonzero (bytes_in t)) (zeros (drop t.len t.bytes)) m.1 in
    let k = leb-true t.len 51 m.0 in
    let w : length (bytes_in t) ≡ t.len = length-take-le t.len t.bytes (omega arith) in
    (rw (w, m.0, n.0), (w, k))

three : (a b c : List ℕ) {x y w : ℕ} → length a ≡ x → length b ≡ y → length c ≡ w → length (a ++ (b ++ c)) ≡ x + y + w
three a b c p q s = rw (length-append a (b ++ c), length-append b c, p, q, s) (omega arith)

no_label : (v : List ℕ) → length v ≡ 0 → ok_item (text 1 51) v ≡ false
no_label [] h = refl
no_label (b ∷ v) h = absurd (omega arith)

-- the texts that are present, and their lengths
made-parts : (f : ScreenPopupFields) → made_texts f ≡ true
    → (made_text f.header ≡ true)
    × ((made_text f.info ≡ true)
    × ((made_more f.additional_data f ≡ true) × (made_values f.has_possible_values f ≡ true)))
made-parts f h =
    let a = both (made_text f.header)
    (pick (made_text f.info) (pick (made_more f.additional_data f) (made_values f.has_possible_values f)
    false) false) h in
    let b = both (made_text f.info) (pick (made_more f.additional_data f) (made_values f.has_possible_values f) false) a.1 in
    let c = both (made_more f.additional_data f) (made_values f.has_possible_values f) b.1 in
    (a.0, (b.0, (c.0, c.1)))

text-short : (t : CommandString) → made_text t ≡ true → t.len ≤ 51
text-short t h = leb-true t.len 51 (both (leb t.len 51) (pick (nonzero (bytes_in t)) (zeros (drop t.len t.bytes)) false) h).0

pub head-short : (f : ScreenPopupFields) → made_texts f ≡ true → (f.header.len ≤ 51) × (f.info.len ≤ 51)
head-short f h = let p = made-parts f h in (text-short f.header p.0, text-short f.info p.1.0)

pub selection-short : (f : ScreenPopupFields) → made_texts f ≡ true → f.additional_data ≡ Selection → (f.selection_text.len ≤ 51) × (f.unit.len ≤ 51)
selection-short f h e = by f.additional_data e (made-parts f h).1.1.0
  where
    by : (k : ScreenAdditionalData) → k ≡ Selection → made_more k f ≡ true → (f.selection_text.len ≤ 51) × (f.unit.len ≤ 51)
    by Absent e m = let z : ◌≡◌ {A = ℕ} 0 1 = cc in absurd (omega arith)
    by Empty e m = let z : ◌≡◌ {A = ℕ} 0 1 = cc in absurd (omega arith)
    by Selection e m = let n = both (made_text f.selection_text) (made_text f.unit) m in
        (text-short f.selection_text n.0, text-short f.unit n.1)

pub values-short : (f : ScreenPopupFields) → made_texts f ≡ true → f.has_possible_values ≡ true → f.possible_values.len ≤ 51
values-short f h e = by f.has_possible_values e (made-parts f h).1.1.1
  where
    by : (p : Bool) → p ≡ true → made_values p f ≡ true → f.possible_values.len ≤ 51
    by true e m = text-short f.possible_values m
    by false e m = let z : ◌≡◌ {A = ℕ} 0 1 = cc in absurd (omega arith)

module _ (f : ScreenPopupFields) (z : Sized f) (r : Ranged f) (h : made_texts f ≡ true) where
  pub head_ok : (ok_items head_items (head_says f) ≡ true)
      × ((length (write_items head_items (head_says f)) ≡ f.header.len + f.info.len + 4)
      × ((f.header.len ≤ 51) × (f.info.len ≤ 51)))
  head_ok =
      let a = text_ok f.header z.0 (made-parts f h).0 in
      let b = text_ok f.info z.1.0 (made-parts f h).1.0 in (
        rw (a.0, b.0, byte_ok f.max_timeout_interval r.0, flag_ok f.close_button_option),
        (simp (length-append, a.1.0, b.1.0) (omega arith), (a.1.1, b.1.1)),
      )

  values-by : (p : Bool) → made_values p f ≡ true
      → (ok_items (values_items p) (values_says p f) ≡ true)
      × ((length (write_items (values_items p) (values_says p f)) ≡ pick p (f.possible_values.len + 1) 0)
      × (pick p (f.possible_values.len + 1) 0 ≤ 52))
  values-by true m =
      let a = text_ok f.possible_values z.1.1.1.1 m in
      (rw a.0, (simp (length-append, a.1.0) (omega arith), omega (arith, a.1.1)))
  values-by false m = (refl, (refl, omega arith))

  pub values_ok : (ok_items (values_items f.has_possible_values) (values_says f.has_possible_values f) ≡ true)
      × ((length (write_items (values_items f.has_possible_values) (values_says f.has_possible_values f)) ≡ pick
      f.has_possible_values (f.possible_values.len + 1) 0) × (pick f.has_possible_values
      (f.possible_values.len + 1) 0 ≤ 52))
  values_ok = values-by f.has_possible_values (made-parts f h).1.1.1

  more_by_lem : (k : ScreenAdditionalData) → made_more k f ≡ true → empty_label k f ≡ false
      → (ok_items (more_items k) (more_says k f) ≡ true) × (length (write_items (more_items k) (more_says k f)) ≡ more_size k f)
  more_by_lem Absent m e = (refl, refl)
  more_by_lem Empty m e = (refl, refl)
  more_by_lem Selection m e =
      let n = both (made_text f.selection_text) (made_text f.unit) m in
      let a = text_ok f.selection_text z.1.1.0 n.0 in
      let b = text_ok f.unit z.1.1.1.0 n.1 in (
        rw (
          first-ok (bytes_in f.selection_text) a.1.0 a.0 e,
          byte_ok f.value r.1.0,
          byte_ok f.min_value r.1.1.0,
          byte_ok f.max_value r.1.1.1.0,
          byte_ok f.default_value r.1.1.1.1,
          b.0,
        ),
        simp (length-append, a.1.0, b.1.0) (omega arith),
      )
    where
      first-ok : (v : List ℕ) → length v ≡ f.selection_text.len → ok_item text_item v ≡ true
          → eqb f.selection_text.len 0 ≡ false → ok_item (text 1 51) v ≡ true
      first-ok [] l o q = let y : eqb f.selection_text.len 0 ≡ true = eq-eqb f.selection_text.len 0
          (sym l) in let w : ◌≡◌ {A = ℕ} 0 1 = cc in absurd (omega arith)
      first-ok (b ∷ v) l o q = o

  pub more_ok : empty_label f.additional_data f ≡ false
      → (ok_items (more_items f.additional_data) (more_says f.additional_data f) ≡ true)
      × (length (write_items (more_items f.additional_data) (more_says f.additional_data f)) ≡ more_size f.additional_data f)
  more_ok e = more_by_lem f.additional_data (made-parts f h).1.1.0 e

  -- the three parts, in range, and their bytes
  pub parts_ok : empty_label f.additional_data f ≡ false
      → ok_items (popup_items f.additional_data f.has_possible_values)
      (head_says f ++ (more_says f.additional_data f ++ values_says f.has_possible_values f)) ≡ true
  parts_ok e =
      let k = f.additional_data in
      let p = f.has_possible_values in
      ok_join head_items (more_items k ++ values_items p) (head_says f) (more_says k f ++ values_says p f) head_ok.0
      (ok_join (more_items k) (values_items p) (more_says k f) (values_says p f) (more_ok e).0 values_ok.0)

  pub parts_write : empty_label f.additional_data f ≡ false
      → write_popup (popup_says f)
      ≡ write_items head_items (head_says f)
      ++ (write_items (more_items f.additional_data) (more_says f.additional_data f) ++ write_items
      (values_items f.has_possible_values) (values_says f.has_possible_values f))
  parts_write e =
      let k = f.additional_data in
      let p = f.has_possible_values in
      groups_write k p (head_says f) (more_says k f) (values_says p f) head_ok.0 (more_ok e).0

  pub parts-size : empty_label f.additional_data f ≡ false
      → length (write_popup (popup_says f)) ≡ f.header.len + f.info.len + 4 + more_size f.additional_data f + pick
      f.has_possible_values (f.possible_values.len + 1) 0
  parts-size e =
      let k = f.additional_data in
      let p = f.has_possible_values in
      ap (λ (l : List ℕ). length l) (parts_write e)
      ∙ three (write_items head_items (head_says f)) (write_items (more_items k) (more_says k f)) (write_items (values_items p) (values_says p f))
      head_ok.1.0 (more_ok e).1 values_ok.1.0

  -- nothing to judge but the room
  pub stop-room : alone f.additional_data f.has_possible_values ≡ false → empty_label f.additional_data f ≡ false
      → stop_popup (popup_says f) ≡ over (f.header.len + f.info.len + 4 + more_size f.additional_data f + pick
      f.has_possible_values (f.possible_values.len + 1) 0)
  stop-room a e =
      let k = f.additional_data in
      let p = f.has_possible_values in
      rw a (each_room 1 55 0 (popup_items k p) (head_says f ++ (more_says k f ++ values_says p f)) (parts_ok e) (omega arith) ∙ rw (parts-size e, zero-add))

  -- an empty label: 2, where the head has room
  pub stop_label : f.additional_data ≡ Selection → f.selection_text.len ≡ 0 → stop_popup (popup_says f) ≡ pick
      (ltb 55 (f.header.len + f.info.len + 4)) 1 2
  stop_label k l = by f.additional_data f.has_possible_values k (made-parts f h).1.1.0
    where
      by : (k : ScreenAdditionalData) (p : Bool) → k ≡ Selection → made_more k f ≡ true
          → stop_popup (popup k p (head_says f ++ (more_says k f ++ values_says p f))) ≡ pick (ltb 55 (f.header.len + f.info.len + 4)) 1 2
      by Absent p e m = let w : ◌≡◌ {A = ℕ} 0 1 = cc in absurd (omega arith)
      by Empty p e m = let w : ◌≡◌ {A = ℕ} 0 1 = cc in absurd (omega arith)
      by Selection p e m =
          let n = both (made_text f.selection_text) (made_text f.unit) m in
          let a = text_ok f.selection_text z.1.1.0 n.0 in
          stop-join 1 55 0 head_items (more_items Selection ++ values_items p) (head_says f) (more_says Selection f ++ values_says p f) head_ok.0 (omega arith)
          ∙ rw (no_label (bytes_in f.selection_text) (a.1.0 ∙ l))
          (ap (λ (n : ℕ). pick (ltb 55 n) 1 2) (zero-add (length (write_items head_items (head_says f)))
          ∙ head_ok.1.0))

  stop-at : alone f.additional_data f.has_possible_values ≡ false → empty_label f.additional_data f ≡ false → (n : ℕ)
      → n ≡ f.header.len + f.info.len + 4 + more_size f.additional_data f + pick f.has_possible_values
      (f.possible_values.len + 1) 0 → over n ≡ stop_popup (popup_says f)
  stop-at a e n s = rw s (sym (stop-room a e))

  -- THE law of the judging: sizes decide
  pub stop-sizes : stop_sizes (f.header.len + f.info.len + 4) f.additional_data f.selection_text.len
      f.unit.len f.has_possible_values f.possible_values.len
      ≡ stop_popup (popup_says f)
  stop-sizes = by f.additional_data f.has_possible_values (eqb f.selection_text.len 0) refl refl refl
    where
      by : (k : ScreenAdditionalData) (p t : Bool) → f.additional_data ≡ k → f.has_possible_values ≡ p → eqb f.selection_text.len 0 ≡ t
          → stop_sizes (f.header.len + f.info.len + 4) k f.selection_text.len f.unit.len p f.possible_values.len ≡ stop_popup (popup_says f)
      by Absent true t ek ep et = rw (ek, ep)
      by Absent false t ek ep et = stop-at (rw (ek, ep)) (rw ek) (f.header.len + f.info.len + 4) (rw (ek, ep) (omega arith))
      by Empty p t ek ep et = stop-at (rw ek) (rw ek) (f.header.len + f.info.len + 4 + 1 + pick p (f.possible_values.len + 1) 0) (rw (ek, ep))
      by Selection p true ek ep et = rw et (sym (stop_label ek (eqb-true f.selection_text.len 0 et)))
      by Selection p false ek ep et =
          rw et (stop-at (rw ek) (rw ek et)
          (f.header.len + f.info.len + 4 + (f.selection_text.len + f.unit.len + 6) + pick p (f.possible_values.len + 1) 0) (rw (ek, ep)))

-- what nothing stops
pub judged-made : (f : ScreenPopupFields) → made_texts f ≡ true → stop_popup (popup_says f) ≡ number_in (construct f)
judged-made f h = rw h (by (stop_popup (popup_says f)))
  where
    by : (n : ℕ) → n ≡ number_in (unless n (popup_says f))
    by zero = refl
    by (suc n) = refl

pub accepted : (f : ScreenPopupFields) → number_in (construct f) ≡ 0 → (made_texts f ≡ true) × (stop_popup (popup_says f) ≡ 0)
accepted f h = by (made_texts f) refl h
  where
    by : (m : Bool) → made_texts f ≡ m → number_in (pick m (unless (stop_popup (popup_says f)) (popup_says f)) (refused 5 0))
        ≡ 0 → (made_texts f ≡ true) × (stop_popup (popup_says f) ≡ 0)
    by true e g = (e, judged-made f e ∙ h)
    by false e g = absurd (omega arith)

pub label_there : (f : ScreenPopupFields) → Sized f → Ranged f → made_texts f ≡ true → stop_popup (popup_says f) ≡ 0 → empty_label f.additional_data f ≡ false
label_there f z r h s = by f.additional_data refl (eqb f.selection_text.len 0) refl
  where
    by : (k : ScreenAdditionalData) → f.additional_data ≡ k → (t : Bool) → eqb f.selection_text.len 0 ≡ t → empty_label k f ≡ false
    by Absent ek t et = refl
    by Empty ek t et = refl
    by Selection ek false et = et
    by Selection ek true et = absurd
        (none (ltb 55 (f.header.len + f.info.len + 4))
        (sym (stop_label f z r h ek (eqb-true f.selection_text.len 0 et)) ∙ s))
      where
        none : (b : Bool) → ◌≡◌ {A = ℕ} (pick b 1 2) 0 → ⊥
        none true g = omega arith
        none false g = omega arith

-- what an accepting answer holds is made
pub new-made : (f : ScreenPopupFields) (r : Result ScreenPopup Refusal) (q : ScreenPopup) → PopupIs (construct f) r → r ≡ Ok q → MadePopup q
new-made f r q h e = let g = gives_ok (λ (x : ScreenPopup). x) (construct f) q (rw e at h) in (f, rw g.1.1 g.1.0)

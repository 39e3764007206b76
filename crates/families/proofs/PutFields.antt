-- A popup's parts put one behind the other. Assumes nothing.
use Rattle.std.specs.Prelude.{Err}
use Prim.Native.Nat.{ℕ, suc, ◌+◌, ◌<◌, ◌≤◌}
use mathlib.Core.Bool.{Bool, true, false}
use mathlib.Core.List.{List, [], ◌∷◌, ◌++◌, append-nil}
use mathlib.Core.Path.{◌≡◌, refl, ap, sym, ◌∙◌}
use native.Mathlib.Omega.{arith}
use native.Mathlib.Nat.{zero-add}
use lib.ListN.{length, set, replicate, length-append}
use lib.Seq.{sets, sets-eq, length-take-le}
use Rattle.codec.specs.Pick.{pick}
use Rattle.codec.specs.Sheet.{Answer, got, refused, first}
use Rattle.codec.specs.Writing.{write_items, put_at}
use Rattle.codec.specs.Refusals.{refusal_number, number_in}
use Rattle.codec.specs.declared.refusal.Refusal.{Refusal}
use Rattle.codec.specs.Told.{bit}
use Rattle.codec.proofs.Packed.{byte-item}
use Rattle.codec.proofs.Loops.{sets_append}
use Rattle.codec.proofs.Writes.{put-fits, refusal_some}
use Rattle.families.specs.declared.text.CommandString.{CommandString}
use Rattle.families.specs.declared.screen.ScreenPopup.{ScreenPopup}
use Rattle.families.specs.declared.screen.ScreenPopupFields.{ScreenPopupFields}
use Rattle.families.specs.declared.screen.ScreenAdditionalData.TheVariants.{Selection}
use Rattle.families.specs.Text.{padded, bytes_in}
use Rattle.families.specs.Popup.{head_items, more_items, values_items, write_popup}
use Rattle.families.specs.Fields.{head_says, more_says, values_says, popup_says, popup_of, construct, PopupIs}
use Rattle.families.specs.Sizes.{Sized, Ranged, more_size}
use Rattle.families.proofs.Stored.{drop-zeros}
use Rattle.families.proofs.Made.{construct-by, says_fit}
use Rattle.families.proofs.Judged.{head-short, selection-short, values-short, accepted, label_there, head_ok, more_ok, parts_write, parts-size}

pub behind : (s s' s'' a b : List ℕ) (at n : ℕ) → s' ≡ sets s at a → n ≡ at + length a → s'' ≡ sets s' n b → s'' ≡ sets s at (a ++ b)
behind s s' s'' a b at n e l f = rw (sets_append a b s at, ← l, ← e) f

-- a text and its 00
bytes-len : (t : CommandString) → length t.bytes ≡ 51 → t.len ≤ 51 → length (bytes_in t) ≡ t.len
bytes-len t l m = length-take-le t.len t.bytes (omega arith)

ended_len : (t : CommandString) → length t.bytes ≡ 51 → t.len ≤ 51 → length (bytes_in t ++ 0 ∷ []) ≡ t.len + 1
ended_len t l m = rw (length-append (bytes_in t) (0 ∷ []), bytes-len t l m)

pub text-put : (s s' : List ℕ) (t : CommandString) (at : ℕ) → length t.bytes ≡ 51 → at + t.len < length s → t.len ≤ 51
    → s' ≡ put_at s at (bytes_in t) → set s' (at + t.len) 0 ≡ sets s at (bytes_in t ++ 0 ∷ [])
text-put s s' t at l h m e =
    let w = bytes-len t l m in
    let p : s' ≡ sets s at (bytes_in t) = e ∙ put-fits s at (bytes_in t) (rw w (omega arith)) in
    behind s s' (set s' (at + t.len) 0) (bytes_in t) (0 ∷ []) at (at + t.len) p (rw w) refl

-- the head
head_bytes_lem : (h i : List ℕ) (t : ℕ) (c : Bool) → t < 256
    → write_items head_items (h ∷ i ∷ (t ∷ []) ∷ (bit c ∷ []) ∷ []) ≡ (h ++ 0 ∷ []) ++ ((i ++ 0 ∷ []) ++ t ∷ bit c ∷ [])
head_bytes_lem h i t true l = rw (ap first (byte-item t l))
head_bytes_lem h i t false l = rw (ap first (byte-item t l))

pub head-put : (s s1 s2 : List ℕ) (h i : CommandString) (t a b x : ℕ) (c : Bool) → (length h.bytes ≡ 51) × (length i.bytes ≡ 51)
    → (h.len ≤ 51) × (i.len ≤ 51) → t < 256 → x ≡ bit c → s1 ≡ sets s 0 (bytes_in h ++ 0 ∷ []) → a ≡ 0 + (h.len + 1)
    → s2 ≡ sets s1 a (bytes_in i ++ 0 ∷ []) → b ≡ a + (i.len + 1)
    → set (set s2 b t) (b + 1) x ≡ sets s 0 (write_items head_items (bytes_in h ∷ bytes_in i ∷ (t ∷ []) ∷ (bit c ∷ []) ∷ []))
head-put s s1 s2 h i t a b x c z m l e f1 g1 f2 g2 =
    let n : b + 1 ≡ suc b = omega arith in
    let w1 = ended_len h z.0 m.0 in
    let w2 = ended_len i z.1 m.1 in
    rw (head_bytes_lem (bytes_in h) (bytes_in i) t c l, n, e)
    (behind s s1 (set (set s2 b t) (suc b) (bit c)) (bytes_in h ++ 0 ∷ []) ((bytes_in i ++ 0 ∷ []) ++ t ∷ bit c ∷ []) 0 a f1 (rw w1 g1)
    (behind s1 s2 (set (set s2 b t) (suc b) (bit c)) (bytes_in i ++ 0 ∷ []) (t ∷ bit c ∷ []) a b f2 (rw w2 g2) refl))

-- a selection
selection-bytes : (f : ScreenPopupFields) → Ranged f
    → write_items (more_items Selection) (more_says Selection f)
    ≡ (bytes_in f.selection_text ++ 0 ∷ []) ++ ((f.value ∷ f.min_value ∷ f.max_value ∷ f.default_value ∷ []) ++ (bytes_in f.unit ++ 0 ∷ []))
selection-bytes f r =
    rw (
      ap first (byte-item f.value r.1.0),
      ap first (byte-item f.min_value r.1.1.0),
      ap first (byte-item f.max_value r.1.1.1.0),
      ap first (byte-item f.default_value r.1.1.1.1),
      append-nil (bytes_in f.unit ++ 0 ∷ []),
    )

pub selection-put : (f : ScreenPopupFields) → Sized f → Ranged f → (f.selection_text.len ≤ 51) × (f.unit.len ≤ 51) → (s s1 s3 : List ℕ) (at a : ℕ)
    → s1 ≡ sets s at (bytes_in f.selection_text ++ 0 ∷ []) → a ≡ at + (f.selection_text.len + 1)
    → s3 ≡ sets (set (set (set (set s1 a f.value) (a + 1) f.min_value) (a + 2) f.max_value) (a + 3)
    f.default_value) (a + 4) (bytes_in f.unit ++ 0 ∷ [])
    → s3 ≡ sets s at (write_items (more_items Selection) (more_says Selection f))
selection-put f z r m s s1 s3 at a f1 g1 f3 =
    let n1 : a + 1 ≡ suc a = omega arith in
    let n2 : a + 2 ≡ suc (suc a) = omega arith in
    let n3 : a + 3 ≡ suc (suc (suc a)) = omega arith in
    let ns = f.value ∷ f.min_value ∷ f.max_value ∷ f.default_value ∷ [] in
    let w1 = ended_len f.selection_text z.1.1.0 m.0 in
    let g : s3 ≡ sets (sets s1 a ns) (a + 4) (bytes_in f.unit ++ 0 ∷ []) = rw (n1, n2, n3) at f3 in
    rw (selection-bytes f r)
    (behind s s1 s3 (bytes_in f.selection_text ++ 0 ∷ []) (ns ++ (bytes_in f.unit ++ 0 ∷ [])) at a f1 (rw w1 g1)
    (behind s1 (sets s1 a ns) s3 ns (bytes_in f.unit ++ 0 ∷ []) a (a + 4) refl refl g))

-- the whole
module _ (f : ScreenPopupFields) (z : Sized f) (r : Ranged f) (h : number_in (construct f) ≡ 0) where
  pub all-put : (s s1 s2 s3 : List ℕ) (a b c : ℕ) → s1 ≡ sets s 0 (write_items head_items (head_says f)) → a ≡ f.header.len + f.info.len + 4
      → s2 ≡ sets s1 a (write_items (more_items f.additional_data) (more_says f.additional_data f)) → b ≡ a + more_size f.additional_data f
      → s3 ≡ sets s2 b (write_items (values_items f.has_possible_values) (values_says f.has_possible_values f))
      → c ≡ b + pick f.has_possible_values (f.possible_values.len + 1) 0
      → (s3 ≡ sets s 0 (write_popup (popup_says f))) × (c ≡ length (write_popup (popup_says f)))
  all-put s s1 s2 s3 a b c f1 g1 f2 g2 f3 g3 =
      let t = accepted f h in
      let e = label_there f z r t.0 t.1 in
      let hw = write_items head_items (head_says f) in
      let mw = write_items (more_items f.additional_data) (more_says f.additional_data f) in
      let vw = write_items (values_items f.has_possible_values) (values_says f.has_possible_values f) in (
        rw (parts_write f z r t.0 e)
            (behind s s1 s3 hw (mw ++ vw) 0 a f1 (rw ((head_ok f z r t.0).1.0, zero-add) g1)
            (behind s1 s2 s3 mw vw a b f2 (rw (more_ok f z r t.0 e).1 g2) f3)),
        g3 ∙ rw (g2, g1) (sym (parts-size f z r t.0 e)),
      )

  -- each part has room
  pub in_all : f.header.len + f.info.len + 4 + more_size f.additional_data f + pick f.has_possible_values (f.possible_values.len + 1) 0 ≤ 55
  in_all =
      let t = accepted f h in
      rw (← (parts-size f z r t.0 (label_there f z r t.0 t.1))) (says_fit f t.1).1

  pub head-room : (n : ℕ) → n ≡ 55 → ((f.header.len ≤ 51) × (f.info.len ≤ 51)) × (f.header.len + f.info.len + 4 ≤ n)
  head-room n e = (head-short f (accepted f h).0, omega (arith, in_all))

  pub more_room : (a n : ℕ) → a ≡ f.header.len + f.info.len + 4 → n ≡ 55
      → (f.additional_data ≡ Selection → (f.selection_text.len ≤ 51) × (f.unit.len ≤ 51)) × (a + more_size f.additional_data f ≤ n)
  more_room a n g e = (selection-short f (accepted f h).0, omega (arith, in_all))

  pub values-room : (a b n : ℕ) → a ≡ f.header.len + f.info.len + 4 → b ≡ a + more_size f.additional_data f → n ≡ 55
      → (f.has_possible_values ≡ true → f.possible_values.len ≤ 51) × (b + pick f.has_possible_values (f.possible_values.len + 1) 0 ≤ n)
  values-room a b n g i e = (values-short f (accepted f h).0, omega (arith, in_all))

-- over zeros
over_zeros_lem : (w : List ℕ) → length w ≤ 55 → sets (replicate 55 0) 0 w ≡ padded 55 w
over_zeros_lem w l = sets-eq w (replicate 55 0) 0 (omega arith) ∙ rw (zero-add (length w), drop-zeros (length w) 55)

pub popup-put : (f : ScreenPopupFields) → number_in (construct f) ≡ 0 → (s : List ℕ) (n : ℕ) → s ≡ sets (replicate 55 0) 0 (write_popup (popup_says f))
    → n ≡ length (write_popup (popup_says f)) → got (record { len = n; bytes = s }) ≡ construct f
popup-put f h s n e l =
    let t = accepted f h in
    let w = write_popup (popup_says f) in
    let p : s ≡ padded 55 w = e ∙ over_zeros_lem w (says_fit f t.1).1 in
    let q : record { len = n; bytes = s } ≡ popup_of w = rw (p, l) in
    ap (λ (x : ScreenPopup). got x) q ∙ sym (construct-by f (popup_says f) t.0 refl t.1)

-- what is refused is not made
pub not_put : (f : ScreenPopupFields) (r : Refusal) → refusal_number r ≡ number_in (construct f) → PopupIs (construct f) (Err r)
not_put f r h = by (construct f) h
  where
    by : (a : Answer ScreenPopup) → refusal_number r ≡ number_in a → PopupIs a (Err r)
    by (got q) g = absurd (omega (arith, refusal_some r))
    by (refused n p) g = g

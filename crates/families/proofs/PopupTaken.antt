-- The items of a popup's head, of a selection and possible values, taken in a row: the places that follow from the texts' lengths are where they stand. Assumes nothing.
use Rattle.std.specs.Prelude.{Ok, Err}
use Prim.Native.Nat.{ℕ, ◌+◌, ◌-◌, ◌<◌, ◌≤◌}
use mathlib.Core.Bool.{Bool}
use mathlib.Core.List.{List, [], ◌∷◌, ◌++◌}
use mathlib.Core.Path.{◌≡◌, refl, ap, sym, subst, ◌∙◌}
use native.Mathlib.Omega.{arith}
use lib.ListN.{length, get_or, take, drop, length-drop}
use lib.Seq.{drop-drop, take_all}
use Rattle.codec.specs.Sheet.{Item, byte, Answer, got, refused, and_then}
use Rattle.codec.specs.Reading.{read_items}
use Rattle.codec.specs.Taking.{Takes}
use Rattle.codec.specs.declared.reader.TextRead.{TextRead}
use Rattle.codec.proofs.Says.{number_says, flag_says, text_says}
use Rattle.codec.proofs.InRow.{none, next, taken_reads, item_got, read_behind_lem}
use Rattle.codec.proofs.Bounds.{label_text}
use Rattle.codec.specs.Refusals.{refusal_number}
use Rattle.codec.specs.declared.refusal.Refusal.{Refusal}
use Rattle.families.specs.Sheets.{text_item}
use Rattle.families.specs.Popup.{head_items, selection_items, more_items, additional_of}
use Rattle.families.specs.Places.{head_at, HeadIn, four_at, ReadsSelected, more_by, MoreIn}
use Rattle.families.specs.declared.screen.ScreenAdditionalData.TheVariants.{Selection}
use Rattle.families.specs.declared.popup.Selected.{Selected}
use Rattle.families.specs.declared.popup.More.{More}
use Rattle.families.proofs.PlaceLaws.{kind-selection, TextGot, text-got, byte-got, flag-got, head_of, head-got}

-- an item behind one that was taken was refused
pub after_got : (i : Item) (is : List Item) (v s s' : List ℕ) (n : ℕ) → Takes i (got v) s s' → refused n 0 ≡ read_items is s' 0 → refused n 0 ≡ read_items (i ∷ is) s 0
after_got i is v s s' n t e =
    ap (λ (a : Answer (List (List ℕ))). and_then a (λ vs. got (v ∷ vs))) e ∙ sym (item_got i is v s s' t)

-- a text at the front: what is still to come stands at its next
front_text : (s t : List ℕ) (x : TextRead) → text_says s (Ok x) t → t ≡ drop x.next s
front_text s t x a =
    let y = text-got s 0 x (a.0.0, a.1) in
    let k : length (take x.len s) + 1 ≡ x.next = omega (arith, y.1.0) in
    a.0.1 ∙ ap (λ (i : ℕ). drop i s) k

-- a text at the front of what stands at a place is a text at that place
text_at_lem : (s t : List ℕ) (p : ℕ) (x : TextRead) → text_says (drop p s) (Ok x) t → TextGot s p x.len (p + x.next)
text_at_lem s t p x a =
    let l = length-drop p s in
    text-got s p (record { len = x.len; next = p + x.next }) (a.0.0, (omega (arith, l, a.1.0), omega (arith, a.1.1)))

pub head_taken : (s s1 s2 s3 s4 : List ℕ) (h i : TextRead) (k : ℕ) (b : Bool) → text_says s (Ok h) s1 → text_says s1 (Ok i) s2
    → number_says byte 255 s2 (Ok k) s3 → flag_says s3 (Ok b) s4
    → (got (head_at s (head_of 0 h.len h.next i.len (h.next + i.next) k b)) ≡ read_items head_items s 0)
    × HeadIn s 0 (head_of 0 h.len h.next i.len (h.next + i.next) k b)
head_taken s s1 s2 s3 s4 h i k b a d e f =
    let p = h.next in
    let q = i.next in
    let d' = subst (λ (l : List ℕ). text_says l (Ok i) s2) (front_text s s1 h a) d in
    let e' = subst (λ (l : List ℕ). number_says byte 255 l (Ok k) s3) (front_text (drop p s) s2 i d' ∙ drop-drop q p s) e in
    let f' = subst (λ (l : List ℕ). flag_says l (Ok b) s4) (e'.0.1 ∙ drop-drop 1 (p + q) s) f in
    head-got s 0 h.len p i.len (p + q) k b (text-got s 0 h (a.0.0, a.1)) (text_at_lem s s2 p i d')
    (byte-got s (p + q) k (e'.0.0, e'.1)) (flag-got s (p + q + 1) b f'.0)

-- ---- a selection
four_behind : (s1 s2 s3 s4 s5 : List ℕ) → s2 ≡ drop 1 s1 → s3 ≡ drop 1 s2 → s4 ≡ drop 1 s3 → s5 ≡ drop 1 s4 → s5 ≡ drop 4 s1
four_behind s1 s2 s3 s4 s5 a b c d = d ∙ ap (drop 1) (c ∙ ap (drop 1) (b ∙ ap (drop 1) a ∙ drop-drop 1 1 s1) ∙ drop-drop 1 2 s1) ∙ drop-drop 1 3 s1

unit-behind : (s s1 s2 s3 s4 s5 : List ℕ) (x : TextRead) → text_says s (Ok x) s1 → s2 ≡ drop 1 s1 → s3 ≡ drop 1 s2
    → s4 ≡ drop 1 s3 → s5 ≡ drop 1 s4 → s5 ≡ drop (x.len + 5) s
unit-behind s s1 s2 s3 s4 s5 x t a b c d =
    let k : x.next + 4 ≡ x.len + 5 = omega (arith, t.1.1) in
    four_behind s1 s2 s3 s4 s5 a b c d ∙ ap (drop 4) (front_text s s1 x t) ∙ drop-drop 4 x.next s ∙ ap (λ (i : ℕ). drop i s) k

unit-there : (s t : List ℕ) (x u : TextRead) (s1 : List ℕ) → text_says s (Ok x) s1 → text_says (drop (x.len + 5) s) (Ok u) t
    → (x.len + 5 + u.len < length s) × ((x.len ≤ 51) × (u.len ≤ 51))
unit-there s t x u s1 a b =
    let y = text-got s 0 x (a.0.0, a.1) in
    let z = text-got (drop (x.len + 5) s) 0 u (b.0.0, b.1) in
    let l = length-drop (x.len + 5) s in
    (omega (arith, l, z.1.1.1.0), (y.1.1.1.1, z.1.1.1.1))

pub selection_taken : (s s1 s2 s3 s4 s5 s6 : List ℕ) (l : TextRead) (a b c d : ℕ) (u : TextRead)
    → text_says s (Ok l) s1 → number_says byte 255 s1 (Ok a) s2 → number_says byte 255 s2 (Ok b) s3 → number_says byte 255 s3 (Ok c) s4
    → number_says byte 255 s4 (Ok d) s5 → text_says s5 (Ok u) s6
    → ReadsSelected s (Ok (record { label = l.len; four = record { value = a; min_value = b; max_value = c; default_value = d }; unit = u.len }))
selection_taken s s1 s2 s3 s4 s5 s6 x a b c d y t e f g h u =
    let w = unit-behind s s1 s2 s3 s4 s5 x t e.0.1 f.0.1 g.0.1 h.0.1 in (
      ap (λ (l : List ℕ). got (take x.len s ∷ (a ∷ []) ∷ (b ∷ []) ∷ (c ∷ []) ∷ (d ∷ []) ∷ take y.len l ∷ [])) (sym w)
          ∙ taken_reads (next t.0 (next e.0 (next f.0 (next g.0 (next h.0 (next u.0 none)))))),
      unit-there s s6 x y s1 t (subst (λ (l : List ℕ). text_says l (Ok y) s6) w u),
    )

-- at a place of some bytes, with a label that is not empty
label_as : (s : List ℕ) (at : ℕ) → at < length s → (get_or s at 0 ≡ 0 → ⊥)
    → read_items (more_items (additional_of (drop at s))) s at ≡ read_items (text_item ∷ selection_items) s at
label_as s at h z = rw (kind-selection s at h z, label_text 51 s at h z)

label_read : (s : List ℕ) (at : ℕ) → at < length s → (get_or s at 0 ≡ 0 → ⊥) → read_items (text_item ∷ selection_items)
    (drop at s) 0 ≡ read_items (more_items (additional_of (drop at s))) s at
label_read s at h z = read_behind_lem (text_item ∷ selection_items) s at ∙ sym (label_as s at h z)

abbrev selection_of : ℕ → Selected → More
selection_of at x = record {
  kind = Selection;
  label = record { at = at; len = x.label };
  four = x.four;
  unit = record { at = at + (x.label + 5); len = x.unit };
  next = at + (x.label + 5) + (x.unit + 1);
}

pub selection-fits : (s : List ℕ) (at : ℕ) (x : Selected) → at < length s → ReadsSelected (drop at s) (Ok x) → at + (x.label + 5) + (x.unit + 1) ≤ length s
selection-fits s at x h f = let l = length-drop at s in omega (arith, l, f.1.0)

pub selection-at : (s : List ℕ) (at : ℕ) (x : Selected) → at < length s → (get_or s at 0 ≡ 0 → ⊥) → ReadsSelected (drop at s) (Ok x)
    → (got (more_by Selection s (selection_of at x)) ≡ read_items (more_items (additional_of (drop at s))) s at) × MoreIn s at (selection_of at x)
selection-at s at x h z f =
    let l = selection-fits s at x h f in (
      ap (λ (t : List ℕ). got (take x.label (drop at s) ∷ (four_at x.four ++ (take x.unit t ∷ []))))
          (sym (drop-drop (x.label + 5) at s)) ∙ f.0 ∙ label_read s at h z,
      (sym (kind-selection s at h z), ((refl, (omega arith, refl)), ((omega arith, f.1.1.0), ((omega arith, f.1.1.1), omega arith)))),
    )

pub selection-not : (s : List ℕ) (at : ℕ) (k : Refusal) → at < length s → (get_or s at 0 ≡ 0 → ⊥) → ReadsSelected (drop at s) (Err k)
    → refused (refusal_number k) 0 ≡ read_items (more_items (additional_of (drop at s))) s at
selection-not s at k h z g = g.0 ∙ label_read s at h z

-- the part of some bytes from a place on
pub part_is : (s : List ℕ) (at : ℕ) → take (length s - at) (drop at s) ≡ drop at s
part_is s at = let l = length-drop at s in take_all (length s - at) (drop at s) (omega arith)

-- A popup's fields and their image are each other's. Assumes nothing.
use Prim.Native.Nat.{ℕ, zero, suc, ◌+◌, ◌-◌, ◌<◌, ◌≤◌}
use mathlib.Core.Bool.{Bool, true, false}
use mathlib.Core.List.{List, [], ◌∷◌, ◌++◌, append-nil}
use mathlib.Core.Path.{◌≡◌, refl, ap, sym, ◌∙◌}
use native.Mathlib.Omega.{arith}
use native.Mathlib.Nat.{add-sub_cancel_left}
use lib.ListN.{length, take, drop, get_or, replicate, drop_of_length-le, take-append-drop, length-drop}
use lib.Seq.{length-take-le, get_or-append-add, drop-append-add, take_at, take_all, drop-cons, drop-drop}
use lib.Dec.{leb, eqb}
use borrow.Author.Tests.{eq-eqb, ne_eqb, eqb-true, leb-true}
use Rattle.codec.specs.Pick.{pick}
use Rattle.std.specs.declared.result.Result.TheVariants.{Ok, Err}
use Rattle.codec.specs.Sheet.{Answer, got, refused}
use Rattle.codec.specs.Told.{bit}
use Rattle.codec.specs.declared.refusal.Refusal.{Refusal}
use Rattle.codec.proofs.Back.{both}
use Rattle.codec.specs.declared.refusal.Refusal.TheVariants.{RecordNotMade}
use Rattle.families.specs.Fields.{FieldsIs}
use Rattle.families.specs.Sizes.{Sized}
use Rattle.families.specs.Text.{padded}
use Rattle.families.proofs.ScreenLaws.{bit_is}
use Rattle.families.proofs.Stored.{drop-zeros}
use Rattle.families.specs.declared.text.CommandString.{CommandString}
use Rattle.families.specs.declared.screen.ScreenAdditionalData.{ScreenAdditionalData}
use Rattle.families.specs.declared.screen.ScreenAdditionalData.TheVariants.{Absent, Empty, Selection}
use Rattle.families.specs.declared.screen.ScreenPopupFields.{ScreenPopupFields}
use Rattle.images.specs.Text.{text_image}
use Rattle.images.specs.Fields.{kind_byte, fields_image, text_at, kind_at, kind_of, known, known_at, fields_at, fields_from}
use Rattle.images.specs.Number.{flag_of}
use Rattle.images.proofs.NumberLaws.{read-ok, read-not}
use Rattle.images.proofs.TextLaws.{text-size, byte_mod}
use Rattle.images.proofs.FieldsPut.{head_bytes, fields-size}

-- ---- flags and kinds
pub kind_back : (k : ScreenAdditionalData) → kind_at (kind_byte k) ≡ k
kind_back Absent = refl
kind_back Empty = refl
kind_back Selection = refl

pub known-said : (c p : Bool) (k : ScreenAdditionalData) → known (bit c) (kind_byte k) (bit p) ≡ true
known-said true true Absent = refl
known-said true true Empty = refl
known-said true true Selection = refl
known-said true false Absent = refl
known-said true false Empty = refl
known-said true false Selection = refl
known-said false true Absent = refl
known-said false true Empty = refl
known-said false true Selection = refl
known-said false false Absent = refl
known-said false false Empty = refl
known-said false false Selection = refl

-- ---- the ways through reading
pub from-got : (s : List ℕ) (f : ScreenPopupFields) → length s ≡ 268 → known_at s ≡ true → fields_at s ≡ f
    → fields_from s ≡ got f
from-got s f l k e = rw (eq-eqb (length s) 268 l, k) (ap (λ (x : ScreenPopupFields). got x) e)

pub from-short : (s : List ℕ) → (length s ≡ 268 → ⊥) → fields_from s ≡ refused 5 0
from-short s h = rw (ne_eqb (length s) 268 h)

pub from_unknown : (s : List ℕ) → length s ≡ 268 → known_at s ≡ false → fields_from s ≡ refused 5 0
from_unknown s l k = rw (eq-eqb (length s) 268 l, k)

-- ---- a text at a place of its image
pub text_front : (t : CommandString) (y : List ℕ) → length t.bytes ≡ 51 → t.len < 256 → text_at (text_image t ++ y) 0 ≡ t
text_front t y l h = rw (byte_mod t.len h, take_at t.bytes y 51 l)

pub text-alone : (t : CommandString) → length t.bytes ≡ 51 → t.len < 256 → text_at (text_image t) 0 ≡ t
text-alone t l h = rw (byte_mod t.len h, take_all 51 t.bytes (omega arith))

get_d_past : (x y : List ℕ) (m n : ℕ) → length x ≡ m → get_or (x ++ y) (m + n) 0 ≡ get_or y n 0
get_d_past x y m n e = rw (← e) (get_or-append-add x y n 0)

text_past : (x y : List ℕ) (m n : ℕ) → length x ≡ m → text_at (x ++ y) (m + n) ≡ text_at y n
text_past x y m n e =
    let k : m + n + 1 ≡ length x + (n + 1) = omega arith in
    rw (get_d_past x y m n e, k, drop-append-add x y (n + 1))

-- ---- each part of an image at its place: what stands behind the first two texts, behind the label, behind the unit
abbrev behind_unit : ScreenPopupFields → List ℕ
behind_unit f = bit f.has_possible_values ∷ text_image f.possible_values

abbrev behind_label : ScreenPopupFields → List ℕ
behind_label f = f.value ∷ f.min_value ∷ f.max_value ∷ f.default_value ∷ (text_image f.unit ++ behind_unit f)

abbrev behind_info : ScreenPopupFields → List ℕ
behind_info f =
    f.max_timeout_interval ∷ bit f.close_button_option ∷ kind_byte f.additional_data ∷ (text_image f.selection_text ++ behind_label f)

-- lengths that an image can hold
abbrev pub Short : ScreenPopupFields → Type 0
Short f =
    (f.header.len < 256) × ((f.info.len < 256)
    × ((f.selection_text.len < 256) × ((f.unit.len < 256) × (f.possible_values.len < 256))))

fields-same : (f : ScreenPopupFields) (h i l u v : CommandString) (t w x y z : ℕ) (c p : Bool) (k : ScreenAdditionalData)
    → h ≡ f.header → i ≡ f.info → t ≡ f.max_timeout_interval → c ≡ f.close_button_option → k ≡ f.additional_data
    → l ≡ f.selection_text → w ≡ f.value → x ≡ f.min_value → y ≡ f.max_value → z ≡ f.default_value
    → u ≡ f.unit → p ≡ f.has_possible_values → v ≡ f.possible_values
    → ◌≡◌ {A = ScreenPopupFields} (record {
      header = h;
      info = i;
      max_timeout_interval = t;
      close_button_option = c;
      additional_data = k;
      selection_text = l;
      value = w;
      min_value = x;
      max_value = y;
      default_value = z;
      unit = u;
      has_possible_values = p;
      possible_values = v;
    }) f
fields-same f h i l u v t w x y z c p k e1 e2 e3 e4 e5 e6 e7 e8 e9 e10 e11 e12 e13 =
    rw (e1, e2, e3, e4, e5, e6, e7, e8, e9, e10, e11, e12, e13)

module _ (f : ScreenPopupFields) (z : Sized f) (r : Short f) where
  behind_info_lem : (n : ℕ) → get_or (fields_image f) (52 + (52 + n)) 0 ≡ get_or (behind_info f) n 0
  behind_info_lem n =
      get_d_past (text_image f.header) (text_image f.info ++ behind_info f) 52 (52 + n) (text-size f.header z.0)
      ∙ get_d_past (text_image f.info) (behind_info f) 52 n (text-size f.info z.1.0)

  behind_label_lem : (n : ℕ) → get_or (behind_info f) (3 + (52 + n)) 0 ≡ get_or (behind_label f) n 0
  behind_label_lem n =
      get_d_past (head_bytes f) (text_image f.selection_text ++ behind_label f) 3 (52 + n) refl
      ∙ get_d_past (text_image f.selection_text) (behind_label f) 52 n (text-size f.selection_text z.1.1.0)

  number_at_lem : (n : ℕ) → get_or (fields_image f) (52 + (52 + (3 + (52 + n)))) 0 ≡ get_or (behind_label f) n 0
  number_at_lem n = behind_info_lem (3 + (52 + n)) ∙ behind_label_lem n

  present_at : get_or (fields_image f) 215 0 ≡ bit f.has_possible_values
  present_at = number_at_lem 56 ∙ get_d_past (text_image f.unit) (behind_unit f) 52 0 (text-size f.unit z.1.1.1.0)

  text_info : (n : ℕ) → text_at (fields_image f) (52 + n) ≡ text_at (text_image f.info ++ behind_info f) n
  text_info n = text_past (text_image f.header) (text_image f.info ++ behind_info f) 52 n (text-size f.header z.0)

  text-behind : (n : ℕ) → text_at (fields_image f) (52 + (52 + n)) ≡ text_at (behind_info f) n
  text-behind n = text_info (52 + n) ∙ text_past (text_image f.info) (behind_info f) 52 n (text-size f.info z.1.0)

  label_at : text_at (fields_image f) 107 ≡ f.selection_text
  label_at = text-behind 3 ∙ text_front f.selection_text (behind_label f) z.1.1.0 r.1.1.0

  unit-at : text_at (fields_image f) 163 ≡ f.unit
  unit-at =
      text-behind 59
      ∙ (text_past (text_image f.selection_text) (behind_label f) 52 4 (text-size f.selection_text z.1.1.0)
      ∙ text_front f.unit (behind_unit f) z.1.1.1.0 r.1.1.1.0)

  values-at : text_at (fields_image f) 216 ≡ f.possible_values
  values-at =
      text-behind 112
      ∙ (text_past (text_image f.selection_text) (behind_label f) 52 57 (text-size f.selection_text z.1.1.0)
      ∙ (text_past (text_image f.unit) (behind_unit f) 52 1 (text-size f.unit z.1.1.1.0)
      ∙ text-alone f.possible_values z.1.1.1.1 r.1.1.1.1))

  at_back : fields_at (fields_image f) ≡ f
  at_back =
      fields-same f _ _ _ _ _ _ _ _ _ _ _ _ _
      (text_front f.header (text_image f.info ++ behind_info f) z.0 r.0)
      (text_info 0 ∙ text_front f.info (behind_info f) z.1.0 r.1.0)
      (behind_info_lem 0)
      (ap (λ (n : ℕ). eqb n 1) (behind_info_lem 1) ∙ bit_is f.close_button_option)
      (ap kind_at (behind_info_lem 2) ∙ kind_back f.additional_data)
      label_at
      (number_at_lem 0)
      (number_at_lem 1)
      (number_at_lem 2)
      (number_at_lem 3)
      unit-at
      (ap (λ (n : ℕ). eqb n 1) present_at ∙ bit_is f.has_possible_values)
      values-at

  pub fields_back : fields_from (fields_image f) ≡ got f
  fields_back =
      let s = fields_image f in
      let k : known_at s ≡ true = known-at (get_or s 105 0) (get_or s 106 0) (get_or s 215 0) (behind_info_lem 1) (behind_info_lem 2) present_at in
      from-got s f (fields-size f z) k at_back
    where
      known-at : (a b c : ℕ) → a ≡ bit f.close_button_option → b ≡ kind_byte f.additional_data → c ≡ bit f.has_possible_values
          → known a b c ≡ true
      known-at a b c e g h = rw (e, g, h) (known-said f.close_button_option f.has_possible_values f.additional_data)

-- ---- from an image to its fields and back
bit_forth : (n : ℕ) → leb n 1 ≡ true → bit (eqb n 1) ≡ n
bit_forth zero h = refl
bit_forth (suc zero) h = refl
bit_forth (suc (suc n)) h = let l = leb-true (suc (suc n)) 1 h in absurd (omega arith)

kind_forth : (n : ℕ) → leb n 2 ≡ true → kind_byte (kind_at n) ≡ n
kind_forth zero h = refl
kind_forth (suc zero) h = refl
kind_forth (suc (suc zero)) h = refl
kind_forth (suc (suc (suc n))) h = let l = leb-true (suc (suc (suc n))) 2 h in absurd (omega arith)

abbrev pub Bytes : List ℕ → Type 0
Bytes s = (i : ℕ) → get_or s i 0 < 256

-- the next text, the next byte
text-next : (s : List ℕ) (at e : ℕ) → Bytes s → at + 52 ≤ length s → e ≡ at + 52 → text_image (text_at s at) ++ drop e s ≡ drop at s
text-next s at e b h g =
    let k : at + 1 ≡ suc at = omega arith in
    let m : at + 52 ≡ at + 1 + 51 = omega arith in
    let d : drop e s ≡ drop 51 (drop (at + 1) s) = rw (g, m) (sym (drop-drop 51 (at + 1) s)) in
    rw (byte_mod (get_or s at 0) (b at), d, take-append-drop 51 (drop (at + 1) s), k) (sym (drop-cons s at 0 (omega arith)))

byte_next : (s r : List ℕ) (at x : ℕ) → at < length s → x ≡ get_or s at 0 → r ≡ drop (suc at) s → x ∷ r ≡ drop at s
byte_next s r at x h e g = rw (e, g) (sym (drop-cons s at 0 h))

last-text : (s : List ℕ) → Bytes s → length s ≡ 268 → text_image (text_at s 216) ≡ drop 216 s
last-text s b l =
    let e : drop 268 s ≡ [] = drop_of_length-le s {i = 268} (omega arith) in
    sym (append-nil (text_image (text_at s 216))) ∙ (rw e at (text-next s 216 268 b (omega arith) refl))

text-on : (s r : List ℕ) (at e : ℕ) → Bytes s → at + 52 ≤ length s → e ≡ at + 52 → r ≡ drop e s → text_image (text_at s at) ++ r ≡ drop at s
text-on s r at e b h g q = ap (λ (x : List ℕ). text_image (text_at s at) ++ x) q ∙ text-next s at e b h g

at_forth : (s : List ℕ) → Bytes s → length s ≡ 268 → known_at s ≡ true → fields_image (fields_at s) ≡ s
at_forth s b l k =
    let p = both (leb (get_or s 105 0) 1) (pick (leb (get_or s 106 0) 2) (leb (get_or s 215 0) 1) false) k in
    let q = both (leb (get_or s 106 0) 2) (leb (get_or s 215 0) 1) p.1 in
    text-on s _ 0 52 b (omega arith) refl
    (text-on s _ 52 104 b (omega arith) refl
    (byte_next s _ 104 (get_or s 104 0) (omega arith) refl
    (byte_next s _ 105 (bit (eqb (get_or s 105 0) 1)) (omega arith) (bit_forth (get_or s 105 0) p.0)
    (byte_next s _ 106 (kind_byte (kind_at (get_or s 106 0))) (omega arith) (kind_forth (get_or s 106 0) q.0)
    (text-on s _ 107 159 b (omega arith) refl
    (byte_next s _ 159 (get_or s 159 0) (omega arith) refl
    (byte_next s _ 160 (get_or s 160 0) (omega arith) refl
    (byte_next s _ 161 (get_or s 161 0) (omega arith) refl
    (byte_next s _ 162 (get_or s 162 0) (omega arith) refl
    (text-on s _ 163 215 b (omega arith) refl
    (byte_next s _ 215 (bit (eqb (get_or s 215 0) 1)) (omega arith) (bit_forth (get_or s 215 0) q.1)
    (last-text s b l))))))))))))

pub fields_forth : (s : List ℕ) (f : ScreenPopupFields) → Bytes s → fields_from s ≡ got f → fields_image f ≡ s
fields_forth s f b = by (eqb (length s) 268) (known_at s) refl refl
  where
    by : (t u : Bool) → eqb (length s) 268 ≡ t → known_at s ≡ u
        → pick t (pick u (got (fields_at s)) (refused 5 0)) (refused 5 0) ≡ got f → fields_image f ≡ s
    by true true e k h =
        let g : f ≡ fields_at s = cc in
        ap fields_image g ∙ at_forth s b (eqb-true (length s) 268 e) k
    by true false e k h = let z : ◌≡◌ {A = ℕ} 0 1 = cc in absurd (omega arith)
    by false u e k h = let z : ◌≡◌ {A = ℕ} 0 1 = cc in absurd (omega arith)

-- ---- a part that is copied over zeros
pub copied : (s : List ℕ) (at n m : ℕ) (new : List ℕ) → at + n ≤ length s → new ≡ take (at + n - at) (drop at s)
    → new ++ drop n (replicate m 0) ≡ padded m (take n (drop at s))
copied s at n m new h e =
    let k : n ≤ length (drop at s) = rw length-drop (omega arith) in
    rw (e, add-sub_cancel_left at n, drop-zeros n m, length-take-le n (drop at s) k)

-- ---- what reading answers
pub text_copied : (s : List ℕ) (at : ℕ) (b : List ℕ) → b ≡ take (at + 52 - (at + 1)) (drop (at + 1) s)
    → record { len = get_or s at 0; bytes = b } ≡ text_at s at
text_copied s at b e =
    let k : at + 52 - (at + 1) ≡ 51 = omega arith in
    let g = rw k at e in
    rw g

module _ (s : List ℕ) (l : length s ≡ 268) where
  pub close-not : (r : Refusal) → flag_of (get_or s 105 0) ≡ Err r → fields_from s ≡ refused 5 0
  close-not r e =
      let n = read-not (eqb (get_or s 105 0) 1) (leb (get_or s 105 0) 1) r e in
      from_unknown s l (rw n.0)

  module _ (c : Bool) (e : flag_of (get_or s 105 0) ≡ Ok c) where
    pub kind-not : (r : Refusal) → kind_of (get_or s 106 0) ≡ Err r → fields_from s ≡ refused 5 0
    kind-not r g =
        let n = read-ok (eqb (get_or s 105 0) 1) (leb (get_or s 105 0) 1) c e in
        let m = read-not (kind_at (get_or s 106 0)) (leb (get_or s 106 0) 2) r g in
        from_unknown s l (rw (n.0, m.0))

    module _ (k : ScreenAdditionalData) (g : kind_of (get_or s 106 0) ≡ Ok k) where
      pub present-not : (r : Refusal) → flag_of (get_or s 215 0) ≡ Err r → fields_from s ≡ refused 5 0
      present-not r f =
          let n = read-ok (eqb (get_or s 105 0) 1) (leb (get_or s 105 0) 1) c e in
          let m = read-ok (kind_at (get_or s 106 0)) (leb (get_or s 106 0) 2) k g in
          let o = read-not (eqb (get_or s 215 0) 1) (leb (get_or s 215 0) 1) r f in
          from_unknown s l (rw (n.0, m.0, o.0))

      pub each-got : (h i t u v : CommandString) (p : Bool) → flag_of (get_or s 215 0) ≡ Ok p
          → h ≡ text_at s 0 → i ≡ text_at s 52 → t ≡ text_at s 107 → u ≡ text_at s 163 → v ≡ text_at s 216
          → fields_from s ≡ got (record {
            header = h;
            info = i;
            max_timeout_interval = get_or s 104 0;
            close_button_option = c;
            additional_data = k;
            selection_text = t;
            value = get_or s 159 0;
            min_value = get_or s 160 0;
            max_value = get_or s 161 0;
            default_value = get_or s 162 0;
            unit = u;
            has_possible_values = p;
            possible_values = v;
          })
      each-got h i t u v p f e1 e2 e3 e4 e5 =
          let n = read-ok (eqb (get_or s 105 0) 1) (leb (get_or s 105 0) 1) c e in
          let m = read-ok (kind_at (get_or s 106 0)) (leb (get_or s 106 0) 2) k g in
          let o = read-ok (eqb (get_or s 215 0) 1) (leb (get_or s 215 0) 1) p f in
          from-got s _ l (rw (n.0, m.0) o.0)
          (sym (fields-same (fields_at s) h i t u v _ _ _ _ _ c p k e1 e2 refl n.1 m.1 e3 refl refl refl refl e4 o.1 e5))

pub not_told : (a : Answer ScreenPopupFields) (r : Refusal) → a ≡ refused 5 0 → r ≡ RecordNotMade → FieldsIs a (Err r)
not_told a r e f = rw (e, f)

pub told_got : (a : Answer ScreenPopupFields) (f : ScreenPopupFields) → a ≡ got f → FieldsIs a (Ok f)
told_got a f e = rw e

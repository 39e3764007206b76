-- The parts of a popup fields' image, put one behind the other. Assumes nothing.
use Prim.Native.Nat.{ℕ, ◌+◌, ◌≤◌}
use mathlib.Core.List.{List, [], ◌∷◌, ◌++◌, append_assoc}
use mathlib.Core.Path.{◌≡◌, refl, ap, sym, ◌∙◌}
use native.Mathlib.Omega.{arith}
use lib.ListN.{length, take, drop, length-append}
use lib.Seq.{sets}
use Rattle.codec.specs.Writing.{put_at}
use Rattle.codec.specs.Told.{bit}
use Rattle.families.specs.Sizes.{Sized}
use denote.Enum.Declared.{tag_of}
use Rattle.families.specs.contracts.screen.ScreenAdditionalData.{the_type}
use Rattle.families.specs.declared.screen.ScreenAdditionalData.{ScreenAdditionalData}
use Rattle.families.specs.declared.screen.ScreenAdditionalData.TheVariants.{Absent, Empty, Selection}
use Rattle.families.specs.declared.screen.ScreenPopupFields.{ScreenPopupFields}
use Rattle.families.proofs.PutFields.{behind}
use Rattle.images.specs.Text.{text_image}
use Rattle.images.specs.Fields.{kind_byte, head_image, selection_image, values_image, fields_image}
use Rattle.images.proofs.TextLaws.{text-size, chunk-put}

-- the bytes behind two texts, and between two
abbrev pub head_bytes : ScreenPopupFields → List ℕ
head_bytes f = f.max_timeout_interval ∷ bit f.close_button_option ∷ kind_byte f.additional_data ∷ []

abbrev selection_bytes : ScreenPopupFields → List ℕ
selection_bytes f = f.value ∷ f.min_value ∷ f.max_value ∷ f.default_value ∷ []

joined : (h i t l n u v : List ℕ) → (h ++ (i ++ t)) ++ ((l ++ (n ++ u)) ++ v) ≡ h ++ (i ++ (t ++ (l ++ (n ++ (u ++ v)))))
joined h i t l n u v = simp append_assoc

parts : (f : ScreenPopupFields) → head_image f ++ (selection_image f ++ values_image f) ≡ fields_image f
parts f =
    joined (text_image f.header) (text_image f.info) (head_bytes f)
    (text_image f.selection_text) (selection_bytes f) (text_image f.unit) (values_image f)

three : (a b c : List ℕ) (l m n : ℕ) → length a ≡ l → length b ≡ m → length c ≡ n → length (a ++ (b ++ c)) ≡ l + (m + n)
three a b c l m n e f g = rw (length-append a (b ++ c), length-append b c, e, f, g)

module _ (f : ScreenPopupFields) (z : Sized f) where
  head-size : length (head_image f) ≡ 107
  head-size =
      three (text_image f.header) (text_image f.info) (head_bytes f) 52 52 3
      (text-size f.header z.0) (text-size f.info z.1.0) refl

  selection-size : length (selection_image f) ≡ 108
  selection-size =
      three (text_image f.selection_text) (selection_bytes f) (text_image f.unit) 52 4 52
      (text-size f.selection_text z.1.1.0) refl (text-size f.unit z.1.1.1.0)

  values-size : length (values_image f) ≡ 53
  values-size = let e = text-size f.possible_values z.1.1.1.1 in omega arith

  pub fields-size : length (fields_image f) ≡ 268
  fields-size = ap length (sym (parts f)) ∙ three (head_image f) (selection_image f) (values_image f) 107 108 53 head-size
      selection-size values-size

  -- the whole
  pub all-put : (s y s1 s2 s3 : List ℕ) → 268 ≤ length s → y ≡ take 268 s → s1 ≡ sets y 0 (head_image f) → s2 ≡ sets s1 107 (selection_image f)
      → s3 ≡ sets s2 215 (values_image f)
      → s3 ++ drop 268 s ≡ put_at s 0 (fields_image f)
  all-put s y s1 s2 s3 h e e1 e2 e3 =
      let n1 : 107 ≡ 0 + length (head_image f) = omega (arith, head-size) in
      let n2 : 215 ≡ 107 + length (selection_image f) = omega (arith, selection-size) in
      chunk-put s y s3 (fields_image f) 268 fields-size h e
      (behind y s1 s3 (head_image f) (selection_image f ++ values_image f) 0 107 e1 n1
      (behind s1 s2 s3 (selection_image f) (values_image f) 107 215 e2 n2 e3)
      ∙ ap (λ (w : List ℕ). sets y 0 w) (parts f))

-- the byte of a kind is its number
pub kind-number : (k : ScreenAdditionalData) → tag_of the_type k ≡ kind_byte k
kind-number Absent = refl
kind-number Empty = refl
kind-number Selection = refl

-- ---- the parts themselves
pub head-put : (f : ScreenPopupFields) (s s1 s2 s3 : List ℕ) → length (text_image f.header) ≡ 52 → length (text_image f.info) ≡ 52
    → s1 ≡ sets s 0 (text_image f.header) → s2 ≡ sets s1 52 (text_image f.info) → s3 ≡ sets s2 104 (head_bytes f)
    → s3 ≡ sets s 0 (head_image f)
head-put f s s1 s2 s3 l m e1 e2 e3 =
    let n1 : 52 ≡ 0 + length (text_image f.header) = omega arith in
    let n2 : 104 ≡ 52 + length (text_image f.info) = omega arith in
    behind s s1 s3 (text_image f.header) (text_image f.info ++ head_bytes f) 0 52 e1 n1
    (behind s1 s2 s3 (text_image f.info) (head_bytes f) 52 104 e2 n2 e3)

pub selection-put : (f : ScreenPopupFields) (s s1 s2 s3 : List ℕ) → length (text_image f.selection_text) ≡ 52
    → s1 ≡ sets s 107 (text_image f.selection_text) → s2 ≡ sets s1 159 (selection_bytes f) → s3 ≡ sets s2 163 (text_image f.unit)
    → s3 ≡ sets s 107 (selection_image f)
selection-put f s s1 s2 s3 l e1 e2 e3 =
    let n1 : 159 ≡ 107 + length (text_image f.selection_text) = omega arith in
    behind s s1 s3 (text_image f.selection_text) (selection_bytes f ++ text_image f.unit) 107 159 e1 n1
    (behind s1 s2 s3 (selection_bytes f) (text_image f.unit) 159 163 e2 refl e3)

-- The C boundary's image of a popup's fields (include/crsf.h). Assumes nothing.
use Rattle.std.specs.Prelude.{ℕ, ◌+◌, Bool, false, List, [], ◌∷◌, ◌++◌, length, take, drop, get_or, leb, eqb}
use Rattle.std.specs.declared.result.Result.{Result}
use Rattle.std.specs.declared.result.Result.TheVariants.{Ok, Err}
use Rattle.codec.specs.Pick.{pick}
use Rattle.codec.specs.Sheet.{Answer, got, refused}
use Rattle.codec.specs.Told.{bit}
use Rattle.codec.specs.declared.refusal.Refusal.{Refusal}
use Rattle.codec.specs.declared.refusal.Refusal.TheVariants.{RecordNotMade}
use Rattle.families.specs.declared.text.CommandString.{CommandString}
use Rattle.families.specs.declared.screen.ScreenAdditionalData.{ScreenAdditionalData}
use Rattle.families.specs.declared.screen.ScreenAdditionalData.TheVariants.{Absent, Empty, Selection}
use Rattle.families.specs.declared.screen.ScreenPopupFields.{ScreenPopupFields}
use Rattle.images.specs.Text.{text_image}

-- additional data: 0 absent, 1 Empty, 2 selection
abbrev pub kind_byte : ScreenAdditionalData → ℕ
kind_byte Absent = 0
kind_byte Empty = 1
kind_byte Selection = 2

-- 268 bytes: header text, info text (52 each), timeout, close, additional data, label text, value, min, max, default, unit text,
-- possible values present (0 or 1), possible values text
abbrev pub fields_image : ScreenPopupFields → List ℕ
fields_image f =
    text_image f.header
    ++ (text_image f.info
    ++ (f.max_timeout_interval
    ∷ bit f.close_button_option
    ∷ kind_byte f.additional_data
    ∷ (text_image f.selection_text
    ++ (f.value
    ∷ f.min_value
    ∷ f.max_value
    ∷ f.default_value
    ∷ (text_image f.unit
    ++ (bit f.has_possible_values
    ∷ text_image f.possible_values))))))

-- its parts: header to kind; label to unit; possible values
abbrev pub head_image : ScreenPopupFields → List ℕ
head_image f = text_image f.header ++ (text_image f.info ++ f.max_timeout_interval ∷ bit f.close_button_option ∷ kind_byte f.additional_data ∷ [])

abbrev pub selection_image : ScreenPopupFields → List ℕ
selection_image f =
    text_image f.selection_text ++ ((f.value ∷ f.min_value ∷ f.max_value ∷ f.default_value ∷ []) ++ text_image f.unit)

abbrev pub values_image : ScreenPopupFields → List ℕ
values_image f = bit f.has_possible_values ∷ text_image f.possible_values

-- AN IMAGE HANDED IN: each part at its place
abbrev pub text_at : List ℕ → ℕ → CommandString
text_at s at = record { len = get_or s at 0; bytes = take 51 (drop (at + 1) s) }

abbrev pub kind_at : ℕ → ScreenAdditionalData
kind_at b = pick (eqb b 0) Absent (pick (eqb b 1) Empty Selection)

-- another byte is 5
abbrev pub kind_of : ℕ → Result ScreenAdditionalData Refusal
kind_of b = pick (leb b 2) (Ok (kind_at b)) (Err RecordNotMade)

abbrev pub fields_at : List ℕ → ScreenPopupFields
fields_at s = record {
  header = text_at s 0;
  info = text_at s 52;
  max_timeout_interval = get_or s 104 0;
  close_button_option = eqb (get_or s 105 0) 1;
  additional_data = kind_at (get_or s 106 0);
  selection_text = text_at s 107;
  value = get_or s 159 0;
  min_value = get_or s 160 0;
  max_value = get_or s 161 0;
  default_value = get_or s 162 0;
  unit = text_at s 163;
  has_possible_values = eqb (get_or s 215 0) 1;
  possible_values = text_at s 216;
}

-- flags and kind in range
abbrev pub known : ℕ → ℕ → ℕ → Bool
known close kind present = pick (leb close 1) (pick (leb kind 2) (leb present 1) false) false

abbrev pub known_at : List ℕ → Bool
known_at s = known (get_or s 105 0) (get_or s 106 0) (get_or s 215 0)

-- another length is 5, and so is a flag or kind out of range
abbrev pub fields_from : List ℕ → Answer ScreenPopupFields
fields_from s =
    pick (eqb (length s) 268)
    (pick (known_at s) (got (fields_at s)) (refused 5 0))
    (refused 5 0)

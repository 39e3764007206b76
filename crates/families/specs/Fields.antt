-- Document 01: a popup's fields, its constructor, its inspection, and what made means. Assumes nothing.
use Rattle.std.specs.Prelude.{Result, ℕ, zero, suc, Bool, true, false, ◌≡◌, List, [], ◌∷◌, ◌++◌, length, take, drop, get_or, leb, eqb}
use Rattle.codec.specs.Pick.{pick}
use Rattle.codec.specs.Sheet.{Answer, got, refused, first}
use Rattle.codec.specs.Writing.{stop_each}
use Rattle.codec.specs.Told.{bit}
use Rattle.codec.specs.Refusals.{Gives}
use Rattle.families.specs.Text.{zeros, padded, made_text, text_of, bytes_in}
use Rattle.families.specs.Popup.{popup_items, Popup, popup, alone, read_popup, write_popup}
use Rattle.families.specs.declared.screen.ScreenAdditionalData.{ScreenAdditionalData}
use Rattle.families.specs.declared.screen.ScreenAdditionalData.TheVariants.{Absent, Empty, Selection}
use Rattle.families.specs.declared.screen.ScreenPopup.{ScreenPopup}
use Rattle.families.specs.declared.screen.ScreenPopupFields.{ScreenPopupFields}
use Rattle.codec.specs.declared.refusal.Refusal.{Refusal}

-- WHAT FIELDS SAY: "absent items aren't looked at"
abbrev pub head_says : ScreenPopupFields → List (List ℕ)
head_says f = bytes_in f.header ∷ bytes_in f.info ∷ (f.max_timeout_interval ∷ []) ∷ (bit f.close_button_option ∷ []) ∷ []

abbrev pub more_says : ScreenAdditionalData → ScreenPopupFields → List (List ℕ)
more_says Absent f = []
more_says Empty f = [] ∷ []
more_says Selection f =
    bytes_in f.selection_text
    ∷ (f.value ∷ [])
    ∷ (f.min_value ∷ [])
    ∷ (f.max_value ∷ [])
    ∷ (f.default_value ∷ [])
    ∷ bytes_in f.unit
    ∷ []

abbrev pub values_says : Bool → ScreenPopupFields → List (List ℕ)
values_says true f = bytes_in f.possible_values ∷ []
values_says false f = []

abbrev pub popup_says : ScreenPopupFields → Popup
popup_says f =
    popup f.additional_data f.has_possible_values
    (head_says f ++ (more_says f.additional_data f ++ values_says f.has_possible_values f))

-- THE CONSTRUCTOR: "a present text not made 5"
abbrev pub made_more : ScreenAdditionalData → ScreenPopupFields → Bool
made_more Absent f = true
made_more Empty f = true
made_more Selection f = pick (made_text f.selection_text) (made_text f.unit) false

abbrev pub made_values : Bool → ScreenPopupFields → Bool
made_values true f = made_text f.possible_values
made_values false f = true

abbrev pub made_texts : ScreenPopupFields → Bool
made_texts f =
    pick (made_text f.header)
    (pick (made_text f.info) (pick (made_more f.additional_data f) (made_values f.has_possible_values f) false) false)
    false

-- "possible values without additional data 2; then item by item, no room in 55 bytes 1; an empty selection label 2 at its turn,
-- before its own room"
abbrev pub stop_popup : Popup → ℕ
stop_popup (popup k p vs) = pick (alone k p) 2 (stop_each 1 55 0 (popup_items k p) vs)

-- the popup of these bytes; the blank one is that of none
abbrev pub popup_of : List ℕ → ScreenPopup
popup_of w = record { len = length w; bytes = padded 55 w }

abbrev pub unless : ℕ → Popup → Answer ScreenPopup
unless zero q = got (popup_of (write_popup q))
unless (suc n) q = refused (suc n) 0

abbrev pub construct : ScreenPopupFields → Answer ScreenPopup
construct f = pick (made_texts f) (unless (stop_popup (popup_says f)) (popup_says f)) (refused 5 0)

abbrev pub PopupIs : Answer ScreenPopup → Result ScreenPopup Refusal → Type 0
PopupIs a r = Gives (λ q. q) a r

-- MADE: "popup bytes exactly what the popup constructor gives for some fields"
abbrev pub MadePopup : ScreenPopup → Type 0
MadePopup q = (f : ScreenPopupFields) × (construct f ≡ got q)

-- INSPECTION: "absent items aren't looked at, and inspection gives them blank"
abbrev pub selection : ScreenAdditionalData → List (List ℕ) → ℕ → List ℕ
selection Absent vs i = []
selection Empty vs i = []
selection Selection vs i = get_or vs i []

abbrev pub values_at : ScreenAdditionalData → ℕ
values_at Absent = 4
values_at Empty = 5
values_at Selection = 10

abbrev pub fields_of : Popup → ScreenPopupFields
fields_of (popup k p vs) = record {
  header = text_of (get_or vs 0 []);
  info = text_of (get_or vs 1 []);
  max_timeout_interval = first (get_or vs 2 []);
  close_button_option = eqb (first (get_or vs 3 [])) 1;
  additional_data = k;
  selection_text = text_of (selection k vs 4);
  value = first (selection k vs 5);
  min_value = first (selection k vs 6);
  max_value = first (selection k vs 7);
  default_value = first (selection k vs 8);
  unit = text_of (selection k vs 9);
  has_possible_values = p;
  possible_values = text_of (get_or vs (values_at k) []);
}

-- "blank popup fields are blank texts, zeros, close flag off and nothing optional present": a popup that says nothing
abbrev pub blank_fields : ScreenPopupFields
blank_fields = fields_of (popup Absent false [])

-- the stored bytes read as a popup, to the last of them, and zeros after; else 5
abbrev pub whole : ℕ → Answer Popup → Answer ScreenPopupFields
whole n (got q) = pick (eqb (length (write_popup q)) n) (got (fields_of q)) (refused 5 0)
whole n (refused k p) = refused 5 0

abbrev pub inspect : ScreenPopup → Answer ScreenPopupFields
inspect q =
    pick (leb q.len 55)
    (pick (zeros (drop q.len q.bytes)) (whole q.len (read_popup (take q.len q.bytes) 0)) (refused 5 0))
    (refused 5 0)

abbrev pub FieldsIs : Answer ScreenPopupFields → Result ScreenPopupFields Refusal → Type 0
FieldsIs a r = Gives (λ f. f) a r

-- MADE, decided: inspection gives its fields (proofs/Made.antt: the same as MadePopup)
abbrev pub is_got : {A : Type 0} → Answer A → Bool
is_got (got a) = true
is_got (refused n p) = false

abbrev pub made_popup : ScreenPopup → Bool
made_popup q = is_got (inspect q)

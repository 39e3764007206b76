-- What the types of a popup's fields keep, and its constructor judged by sizes alone. For the contracts of private functions: nobody
-- has to believe this file. Assumes nothing.
use Rattle.std.specs.Prelude.{ℕ, ◌+◌, ◌<◌, ◌≤◌, Bool, true, false, ◌≡◌, List, ◌∷◌, [], length, ltb, eqb}
use Rattle.std.proofs.lemmas.List.Edits.{sets}
use Rattle.codec.specs.Pick.{pick}
use Rattle.codec.specs.Told.{bit}
use Rattle.codec.specs.Writing.{write_items}
use Rattle.families.specs.Text.{bytes_in}
use Rattle.families.specs.Popup.{head_items, more_items, values_items, write_popup}
use Rattle.families.specs.Fields.{more_says, values_says, popup_says}
use Rattle.families.specs.declared.text.CommandString.{CommandString}
use Rattle.families.specs.declared.screen.ScreenAdditionalData.{ScreenAdditionalData}
use Rattle.families.specs.declared.screen.ScreenAdditionalData.TheVariants.{Absent, Empty, Selection}
use Rattle.families.specs.declared.screen.ScreenPopupFields.{ScreenPopupFields}

-- the arrays have their type's length
abbrev pub Sized : ScreenPopupFields → Type 0
Sized f =
    (length f.header.bytes ≡ 51) × ((length f.info.bytes ≡ 51)
    × ((length f.selection_text.bytes ≡ 51) × ((length f.unit.bytes ≡ 51) × (length f.possible_values.bytes ≡ 51))))

-- the numbers have their type's range
abbrev pub Ranged : ScreenPopupFields → Type 0
Ranged f =
    (f.max_timeout_interval < 256) × ((f.value < 256) × ((f.min_value < 256) × ((f.max_value < 256) × (f.default_value < 256))))

abbrev pub empty_label : ScreenAdditionalData → ScreenPopupFields → Bool
empty_label Absent f = false
empty_label Empty f = false
empty_label Selection f = eqb f.selection_text.len 0

abbrev pub more_size : ScreenAdditionalData → ScreenPopupFields → ℕ
more_size Absent f = 0
more_size Empty f = 1
more_size Selection f = f.selection_text.len + f.unit.len + 6

-- 1 where so many bytes have no room
abbrev pub over : ℕ → ℕ
over n = pick (ltb 55 n) 1 0

-- the stop of a selection from the bytes of the head, the lengths of label and unit, and the bytes of the possible values
abbrev pub stop_selection : ℕ → ℕ → ℕ → ℕ → ℕ
stop_selection h l u rest = pick (eqb l 0) (pick (ltb 55 h) 1 2) (over (h + (l + u + 6) + rest))

-- the stop of a popup from the bytes of its head, the lengths of its label, its unit and its possible values
abbrev pub stop_sizes : ℕ → ScreenAdditionalData → ℕ → ℕ → Bool → ℕ → ℕ
stop_sizes h Absent l u p v = pick p 2 (over h)
stop_sizes h Empty l u p v = over (h + 1 + pick p (v + 1) 0)
stop_sizes h Selection l u p v = stop_selection h l u (pick p (v + 1) 0)

-- the lengths of texts that are present are those of texts that are made
abbrev pub SelectionFits : ScreenPopupFields → Type 0
SelectionFits f = (f.selection_text.len ≤ 51) × (f.unit.len ≤ 51)

abbrev pub MoreFits : ScreenPopupFields → Type 0
MoreFits f = f.additional_data ≡ Selection → SelectionFits f

abbrev pub ValuesFit : ScreenPopupFields → Type 0
ValuesFit f = f.has_possible_values ≡ true → f.possible_values.len ≤ 51

abbrev pub values_size : ScreenPopupFields → ℕ
values_size f = pick f.has_possible_values (f.possible_values.len + 1) 0

-- PUTTING bytes of this size at a place of s leaves s' and answers the place behind them
abbrev pub Puts : ℕ → List ℕ → ℕ → ℕ → List ℕ → List ℕ → Type 0
Puts at w size r s s' = (s' ≡ sets s at w) × (r ≡ at + size)

-- the head, at the front
abbrev pub PutsHead : CommandString → CommandString → ℕ → Bool → ℕ → List ℕ → List ℕ → Type 0
PutsHead h i time close r s s' =
    (s' ≡ sets s 0 (write_items head_items (bytes_in h ∷ bytes_in i ∷ (time ∷ []) ∷ (bit close ∷ []) ∷ []))) × (r ≡ h.len + i.len + 4)

-- additional data of a kind, possible values, and all of a popup
abbrev pub PutsMore : ScreenAdditionalData → ℕ → ScreenPopupFields → ℕ → List ℕ → List ℕ → Type 0
PutsMore k at f r s s' = Puts at (write_items (more_items k) (more_says k f)) (more_size k f) r s s'

abbrev pub PutsValues : ℕ → ScreenPopupFields → ℕ → List ℕ → List ℕ → Type 0
PutsValues at f r s s' =
    Puts at (write_items (values_items f.has_possible_values) (values_says f.has_possible_values f)) (values_size f) r s s'

abbrev pub PutsPopup : ScreenPopupFields → ℕ → List ℕ → List ℕ → Type 0
PutsPopup f r s s' = (s' ≡ sets s 0 (write_popup (popup_says f))) × (r ≡ length (write_popup (popup_says f)))

-- Popups to work with: a plain one, and a choice from 3 to 7; 10 seconds each. Assumes nothing.
use mathlib.Core.Bool.{false}
use mathlib.Core.List.{[], ◌∷◌}
use mathlib.Core.Path.{◌≡◌, refl}
use Rattle.codec.specs.Sheet.{got, refused}
use Rattle.codec.specs.Reading.{read_item}
use Rattle.families.specs.Popup.{Popup, popup, write_popup}
use Rattle.families.specs.Fields.{popup_of, fields_of, inspect}
use Rattle.families.specs.declared.screen.ScreenAdditionalData.TheVariants.{Absent, Selection}
use Rattle.families.specs.declared.screen.ScreenPopup.{ScreenPopup}

-- "Q", no info, 10 seconds, no close button
abbrev plain_says : Popup
plain_says = popup Absent false ((0x51 ∷ []) ∷ [] ∷ (10 ∷ []) ∷ (0 ∷ []) ∷ [])

-- and a selection "L": value 5, min 3, max 7, default 5, no unit
abbrev choice_says : Popup
choice_says =
    popup Selection false
    ((0x51 ∷ []) ∷ [] ∷ (10 ∷ []) ∷ (0 ∷ []) ∷ (0x4C ∷ []) ∷ (5 ∷ []) ∷ (3 ∷ []) ∷ (7 ∷ []) ∷ (5 ∷ []) ∷ [] ∷ [])

abbrev pub plain : ScreenPopup
plain = popup_of (write_popup plain_says)

abbrev pub choice : ScreenPopup
choice = popup_of (write_popup choice_says)

-- no bytes are no popup
abbrev pub not_made : ScreenPopup
not_made = popup_of []

pub plain-made : inspect plain ≡ got (fields_of plain_says)
unfolding read_item
plain-made = refl

pub choice-made : inspect choice ≡ got (fields_of choice_says)
unfolding read_item
choice-made = refl

pub not_made_lem : inspect not_made ≡ refused 5 0
unfolding read_item
not_made_lem = refl

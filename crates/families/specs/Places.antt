-- What the one parse of a popup tells: where its items stand. For the contracts of private functions: nobody has to believe this
-- file. Assumes nothing.
use Rattle.std.specs.Prelude.{Option, Some, None, is_some, Result, Ok, Err}
use Rattle.codec.specs.declared.refusal.Refusal.{Refusal}
use Rattle.std.specs.Prelude.{ℕ, ◌+◌, ◌≤◌, ◌<◌, ◌≡◌, List, [], ◌∷◌, ◌++◌, length, take, drop, leb}
use Rattle.codec.specs.Pick.{pick}
use Rattle.codec.specs.Sheet.{Answer, got, refused}
use Rattle.codec.specs.Refusals.{told, Gives}
use Rattle.codec.specs.Told.{bit}
use Rattle.codec.specs.Reading.{read_items}
use Rattle.families.specs.Sheets.{text_item}
use Rattle.families.specs.Popup.{Popup, popup, head_items, selection_items, more_items, values_items, additional_of, remains, read_popup}
use Rattle.families.specs.Fields.{popup_of}
use Rattle.families.specs.declared.screen.ScreenAdditionalData.{ScreenAdditionalData}
use Rattle.families.specs.declared.screen.ScreenAdditionalData.TheVariants.{Absent, Empty, Selection}
use Rattle.families.specs.declared.screen.ScreenCommand.TheVariants.{PopupMessageStart}
use Rattle.families.specs.declared.screen.ScreenRead.{ScreenRead}
use Rattle.families.specs.declared.popup.Span.{Span}
use Rattle.families.specs.declared.popup.Head.{Head}
use Rattle.families.specs.declared.popup.Four.{Four}
use Rattle.families.specs.declared.popup.Selected.{Selected}
use Rattle.families.specs.declared.popup.More.{More}
use Rattle.families.specs.declared.popup.Values.{Values}
use Rattle.families.specs.declared.popup.Places.{Places}

-- the bytes of a span, and that they are there
abbrev pub spanned : List ℕ → Span → List ℕ
spanned s x = take x.len (drop x.at s)

abbrev pub spanned_if : List ℕ → Option Span → List ℕ
spanned_if s (Some x) = spanned s x
spanned_if s None = []

abbrev pub SpanIn : List ℕ → Span → Type 0
SpanIn s x = (x.at + x.len ≤ length s) × (x.len ≤ 51)

abbrev pub none : Span
none = record { at = 0; len = 0 }

-- THE HEAD
abbrev pub head_at : List ℕ → Head → List (List ℕ)
head_at s h = spanned s h.header ∷ spanned s h.info ∷ (h.timeout ∷ []) ∷ (bit h.close ∷ []) ∷ []

abbrev pub told_head : List ℕ → Result Head Refusal → Answer (List (List ℕ))
told_head s r = told (head_at s) r

abbrev pub HeadIn : List ℕ → ℕ → Head → Type 0
HeadIn s at h =
    ((h.header.at ≡ at) × SpanIn s h.header)
    × (((h.info.at ≡ at + (h.header.len + 1)) × SpanIn s h.info)
    × ((h.next ≡ h.info.at + (h.info.len + 1) + 2) × (h.next ≤ length s)))

abbrev pub head_in : List ℕ → ℕ → Result Head Refusal → Type 0
head_in s at (Ok h) = HeadIn s at h
head_in s at (Err r) = Unit {0}

-- the head at the front of s, read as its items
abbrev pub ReadsHead : List ℕ → Result Head Refusal → Type 0
ReadsHead s r = (told_head s r ≡ read_items head_items s 0) × head_in s 0 r

-- ADDITIONAL DATA
abbrev pub four_at : Four → List (List ℕ)
four_at f = (f.value ∷ []) ∷ (f.min_value ∷ []) ∷ (f.max_value ∷ []) ∷ (f.default_value ∷ []) ∷ []

-- a selection, by how long its texts are
abbrev pub told_selected : List ℕ → Result Selected Refusal → Answer (List (List ℕ))
told_selected s r = told (λ x. take x.label s ∷ (four_at x.four ++ (take x.unit (drop (x.label + 5) s) ∷ []))) r

abbrev pub selected_in : List ℕ → Result Selected Refusal → Type 0
selected_in s (Ok x) = (x.label + 5 + x.unit < length s) × ((x.label ≤ 51) × (x.unit ≤ 51))
selected_in s (Err r) = Unit {0}

abbrev pub ReadsSelected : List ℕ → Result Selected Refusal → Type 0
ReadsSelected s r = (told_selected s r ≡ read_items (text_item ∷ selection_items) s 0) × selected_in s r

abbrev pub more_by : ScreenAdditionalData → List ℕ → More → List (List ℕ)
more_by Absent s m = []
more_by Empty s m = [] ∷ []
more_by Selection s m = spanned s m.label ∷ (four_at m.four ++ (spanned s m.unit ∷ []))

abbrev pub told_more : List ℕ → Result More Refusal → Answer (List (List ℕ))
told_more s r = told (λ m. more_by m.kind s m) r

-- no selection: nothing of it stands anywhere
abbrev pub no_more : ScreenAdditionalData → ℕ → More
no_more k n = record { kind = k; label = none; four = record { value = 0; min_value = 0; max_value = 0; default_value = 0 }; unit = none; next = n }

abbrev pub MoreIs : ScreenAdditionalData → ℕ → More → Type 0
MoreIs Absent at m = m ≡ no_more Absent at
MoreIs Empty at m = m ≡ no_more Empty (at + 1)
MoreIs Selection at m =
    (m.label.at ≡ at) × ((m.unit.at ≡ at + (m.label.len + 1) + 4) × (m.next ≡ m.unit.at + (m.unit.len + 1)))

abbrev pub MoreIn : List ℕ → ℕ → More → Type 0
MoreIn s at m =
    (m.kind ≡ additional_of (drop at s))
    × (MoreIs m.kind at m × (SpanIn s m.label × (SpanIn s m.unit × (m.next ≤ length s))))

abbrev pub more_in : List ℕ → ℕ → Result More Refusal → Type 0
more_in s at (Ok m) = MoreIn s at m
more_in s at (Err r) = Unit {0}

-- additional data at a place: it "is present when bytes remain"
abbrev pub ReadsMore : List ℕ → ℕ → Result More Refusal → Type 0
ReadsMore s at r = (told_more s r ≡ read_items (more_items (additional_of (drop at s))) s at) × more_in s at r

-- POSSIBLE VALUES
abbrev pub values_by : List ℕ → Option Span → List (List ℕ)
values_by s (Some x) = spanned s x ∷ []
values_by s None = []

abbrev pub told_values : List ℕ → Result Values Refusal → Answer (List (List ℕ))
told_values s r = told (λ v. values_by s v.text) r

abbrev pub ValuesIs : List ℕ → Option Span → ℕ → ℕ → Type 0
ValuesIs s None at next = next ≡ at
ValuesIs s (Some x) at next = (x.at ≡ at) × ((next ≡ at + (x.len + 1)) × SpanIn s x)

abbrev pub ValuesIn : List ℕ → ℕ → Values → Type 0
ValuesIn s at v =
    (is_some v.text ≡ remains (drop at s)) × (ValuesIs s v.text at v.next × (v.next ≤ length s))

abbrev pub values_in : List ℕ → ℕ → Result Values Refusal → Type 0
values_in s at (Ok v) = ValuesIn s at v
values_in s at (Err r) = Unit {0}

abbrev pub ReadsValues : List ℕ → ℕ → Result Values Refusal → Type 0
ReadsValues s at r = (told_values s r ≡ read_items (values_items (remains (drop at s))) s at) × values_in s at r

-- THE POPUP
abbrev pub popup_at : List ℕ → Places → Popup
popup_at s p =
    popup p.more.kind (is_some p.values.text)
    (head_at s p.head ++ (more_by p.more.kind s p.more ++ values_by s p.values.text))

abbrev pub told_places : List ℕ → Result Places Refusal → Answer Popup
told_places s r = told (popup_at s) r

abbrev pub PlacesIn : List ℕ → ℕ → Places → Type 0
PlacesIn s at p =
    HeadIn s at p.head × (MoreIn s p.head.next p.more × ValuesIn s p.more.next p.values)

abbrev pub places_in : List ℕ → ℕ → Result Places Refusal → Type 0
places_in s at (Ok p) = PlacesIn s at p
places_in s at (Err r) = Unit {0}

abbrev pub ReadsPlaces : List ℕ → Result Places Refusal → Type 0
ReadsPlaces s r = (told_places s r ≡ read_popup s 0) × places_in s 0 r

-- n bytes w, stored as a popup's, if there are at most 55
abbrev pub StoredIs : ℕ → List ℕ → Result ScreenRead Refusal → Type 0
StoredIs n w r = Gives (λ q. q) (pick (leb n 55) (got (record { command = PopupMessageStart; popup = popup_of w })) (refused 1 0)) r

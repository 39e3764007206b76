-- Document 01, the popup's sheet: "header text, info text, timeout(1), close flag, then optionally additional data, then optionally
-- possible values (text). Additional data is one 00 (`Empty`), or a nonempty label text, value, min, max, default (1 each), unit
-- text." Assumes nothing.
use Rattle.std.specs.Prelude.{ℕ, Bool, true, false, List, [], ◌∷◌, ◌++◌, length, drop, leb, eqb}
use Rattle.codec.specs.Pick.{pick}
use Rattle.codec.specs.Sheet.{Answer, got, refused, and_then, Item, text, byte, flag}
use Rattle.codec.specs.Reading.{read_items, end_of}
use Rattle.codec.specs.Writing.{write_items, ok_items}
use Rattle.families.specs.Sheets.{text_item}
use Rattle.families.specs.declared.screen.ScreenAdditionalData.{ScreenAdditionalData}
use Rattle.families.specs.declared.screen.ScreenAdditionalData.TheVariants.{Absent, Empty, Selection}

abbrev pub head_items : List Item
head_items = text_item ∷ text_item ∷ byte ∷ flag ∷ []

abbrev pub selection_items : List Item
selection_items = byte ∷ byte ∷ byte ∷ byte ∷ text_item ∷ []

abbrev pub more_items : ScreenAdditionalData → List Item
more_items Absent = []
more_items Empty = text 0 0 ∷ []
more_items Selection = text 1 51 ∷ selection_items

abbrev pub values_items : Bool → List Item
values_items true = text_item ∷ []
values_items false = []

-- the items of a popup of this kind, with or without possible values
abbrev pub popup_items : ScreenAdditionalData → Bool → List Item
popup_items k p = head_items ++ (more_items k ++ values_items p)

-- what a popup says: its kind, whether possible values are present, and the values of its items
pub data Popup : Type 0 where
  popup : ScreenAdditionalData → Bool → List (List ℕ) → Popup

-- possible values without additional data
abbrev pub alone : ScreenAdditionalData → Bool → Bool
alone Absent p = p
alone Empty p = false
alone Selection p = false

-- "On reading, additional data is present when bytes remain; so, after it, are possible values."
abbrev pub additional_of : List ℕ → ScreenAdditionalData
additional_of [] = Absent
additional_of (b ∷ s) = pick (eqb b 0) Empty Selection

abbrev pub remains : List ℕ → Bool
remains [] = false
remains (b ∷ s) = true

abbrev pub read_rest : List ℕ → ScreenAdditionalData → List (List ℕ) → List (List ℕ) → ℕ → Answer Popup
read_rest s k h m e = and_then (read_items (values_items (remains (drop e s))) s e) (λ v. got (popup k (remains (drop e s)) (h ++ (m ++ v))))

abbrev pub read_more : List ℕ → ScreenAdditionalData → List (List ℕ) → ℕ → Answer Popup
read_more s k h b = and_then (read_items (more_items k) s b) (λ m. read_rest s k h m (end_of (more_items k) m b))

-- a popup from a place of the bytes on; "Bytes after the last item are ignored."
abbrev pub read_popup : List ℕ → ℕ → Answer Popup
read_popup s at =
    and_then (read_items head_items s at) (λ h. read_more s (additional_of (drop (end_of head_items h at) s)) h (end_of head_items h at))

abbrev pub ok_popup : Popup → Bool
ok_popup (popup k p vs) = pick (alone k p) false (ok_items (popup_items k p) vs)

abbrev pub write_popup : Popup → List ℕ
write_popup (popup k p vs) = write_items (popup_items k p) vs

-- "Popup data is at most 55 bytes."
abbrev pub fitted : Popup → Answer Popup
fitted q = pick (leb (length (write_popup q)) 55) (got q) (refused 1 0)

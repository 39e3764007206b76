-- The rows of the table, worked out of 01's list and the sheets. For the contracts of private functions: nobody has to believe
-- this file. Assumes nothing.
use Rattle.std.specs.Prelude.{ℕ, ◌+◌, ◌-◌, ◌/◌, ◌%◌, ◌^◌, ◌≤◌, Bool, true, false, List, [], ◌∷◌, ◌++◌, map, take, drop, get_or, ltb, leb, eqb, Option, Some, None, position}
use Rattle.codec.specs.Pick.{pick}
use Rattle.codec.specs.Sheet.{Field, field, Item, packed, text, Row, Answer, got, refused, and_then, byte, widths}
use Rattle.codec.specs.Writing.{items_of}
use Rattle.codec.specs.Refusals.{value_in}
use Rattle.codec.specs.Edit.{below}
use Rattle.families.specs.Sheets.{osd_rows, vtx_rows, led_rows, general_rows, crossfire_rows, flow_rows, screen_rows}
use Rattle.families.specs.Ack.{ack_items}
use Rattle.families.specs.Popup.{popup_items}
use Rattle.families.specs.declared.screen.ScreenAdditionalData.TheVariants.{Selection}
use Rattle.edits.specs.Fields.{Spot, spot, of, Listed, everywhere, listed, fields, spot_in}
use Rattle.edits.specs.Edit.{field_of}
use Rattle.edits.specs.declared.layout.Layout.{Layout}
use Rattle.edits.specs.declared.table.Place.{Place}
use Rattle.edits.specs.declared.table.Place.TheVariants.{Start as AtStart, Near as AtNear, Far as AtFar}
use Rattle.edits.specs.declared.table.Field.{Field as CodeField}
use Rattle.edits.specs.declared.table.FieldRow.{FieldRow}

-- what a row's place counts from: the destination; the only or start colour or a popup's timeout; a selection's value
pub data Origin : Type 0 where
  Start : Origin
  Near : Origin
  Far : Origin

-- a row: number, how many bytes hold the field, its range, and the place of those bytes from an origin; in the number n of those bytes
-- the field is n / unit % many
pub record Entry : Type 0 where
  pub number : ℕ
  pub width : ℕ
  pub low : ℕ
  pub high : ℕ
  pub place : ℕ
  pub origin : Origin
  pub unit : ℕ
  pub many : ℕ

-- a field of b bits with `low` bits below it, in an item of w bytes: the bytes before the first that holds one of its bits; those that
-- hold one
abbrev pub skipped : ℕ → ℕ → ℕ → ℕ
skipped w low b = w - (low + b + 7) / 8

abbrev pub holding : ℕ → ℕ → ℕ
holding low b = (low + b + 7) / 8 - low / 8

abbrev pub entry_with : ℕ → ℕ → ℕ → ℕ → ℕ → Origin → ℕ → ℕ → Entry
entry_with number width low high place origin unit many =
    record { number = number; width = width; low = low; high = high; place = place; origin = origin; unit = unit; many = many }

-- the row of field number k: a field of b bits, `low` below it, of an item of w bytes that begins so many bytes from the origin
abbrev pub row_of : ℕ → Origin → ℕ → ℕ → ℕ → Field → Entry
row_of k o at w low (field b lo hi) = entry_with k (holding low b) lo hi (at + skipped w low b) o (2 ^ (low % 8)) (2 ^ b)

abbrev pub item_row : ℕ → Origin → ℕ → Item → ℕ → Answer Entry
item_row k o at (packed w fs) j = and_then (field_of (packed w fs) j) (λ d. got (row_of k o at w (below (widths fs) j) d))
item_row k o at (text least most) j = refused 7 0

-- the bytes of items that are no texts
abbrev pub sizes : List Item → ℕ
sizes [] = 0
sizes (packed w fs ∷ is) = w + sizes is
sizes (text least most ∷ is) = sizes is

-- what a field's place counts from: the only or start colour; a popup's timeout; a selection's value; else the destination
abbrev pub origin_of : ℕ → Origin
origin_of f =
    pick (ltb f 31) Start
    (pick (leb f 33) Near
    (pick (ltb f 70) Start
    (pick (leb f 71) Near
    (pick (leb f 75) Far Start))))

-- the item at an origin of a command of this family, sub-command and items; where it has none, the destination
abbrev pub if_number : Item → ℕ → ℕ
if_number (packed w fs) i = i
if_number (text least most) i = 0

abbrev pub near_item : ℕ → ℕ → ℕ
near_item id sub =
    pick (eqb id 0x09) (pick (eqb sub 0x01) 0 (pick (eqb sub 0x02) 4 5)) (pick (eqb id 0x22) (pick (eqb sub 0x01) 6 0) 0)

abbrev pub far_item : List Item → ℕ
far_item is = if_number (get_or is 9 (text 0 0)) 9

abbrev pub anchor : Origin → ℕ → ℕ → List Item → ℕ
anchor Start id sub is = 0
anchor Near id sub is = near_item id sub
anchor Far id sub is = far_item is

abbrev pub placed_row : ℕ → Origin → List Item → ℕ → Spot → Answer Entry
placed_row f o is a (spot i j) = item_row f o (sizes (take (i - a) (drop a is))) (get_or is i (text 0 0)) j

-- the row that the sheets give for field f of a command of this family, sub-command and items
abbrev pub sheet_row : ℕ → ℕ → List Item → ℕ → Answer Entry
sheet_row id sub is f = and_then (spot_in fields id sub f) (λ s. placed_row f (origin_of f) is (anchor (origin_of f) id sub is) s)

-- between a row's origin and its item stand no texts
abbrev pub no_texts : List Item → Bool
no_texts [] = true
no_texts (packed w fs ∷ is) = no_texts is
no_texts (text least most ∷ is) = false

abbrev pub straight_to : List Item → ℕ → ℕ → Bool
straight_to is a i = pick (leb a i) (no_texts (take (i - a) (drop a is))) false

abbrev pub straight_by : List Item → ℕ → Answer Spot → Answer Entry → Bool
straight_by is a (refused n p) r = true
straight_by is a (got (spot i j)) (refused n p) = true
straight_by is a (got (spot i j)) (got r) = straight_to is a i

abbrev pub straight : ℕ → ℕ → List Item → ℕ → Bool
straight id sub is f = straight_by is (anchor (origin_of f) id sub is) (spot_in fields id sub f) (sheet_row id sub is f)

-- ---- THE TABLE: each field of 01's list, as the first command that has it lays it out
abbrev pub rows_in : ℕ → List Row
rows_in id =
    pick (eqb id 0x05) osd_rows
    (pick (eqb id 0x08) vtx_rows
    (pick (eqb id 0x09) led_rows
    (pick (eqb id 0x0A) general_rows
    (pick (eqb id 0x10) crossfire_rows (pick (eqb id 0x20) flow_rows screen_rows)))))

abbrev pub sheet_items : ℕ → ℕ → List Item
sheet_items id sub =
    byte ∷ byte ∷ byte
    ∷ pick (eqb id 0xFF) ack_items
    (byte ∷ pick (eqb id 0x22) (pick (eqb sub 0x01) (popup_items Selection true) (items_of screen_rows sub)) (items_of (rows_in id) sub))

abbrev pub no_row : Entry
no_row = record { number = 0; width = 0; low = 0; high = 0; place = 0; origin = Start; unit = 0; many = 0 }

abbrev pub listed_row : Listed → Entry
listed_row (everywhere k i) = value_in no_row (placed_row k Start (sheet_items 0x05 0x01) 0 (spot i 0))
listed_row (listed k id [] j) = no_row
listed_row (listed k id (of sub i ∷ at) j) =
    value_in no_row (placed_row k (origin_of k) (sheet_items id sub) (anchor (origin_of k) id sub (sheet_items id sub)) (spot i j))

abbrev pub number_listed : Listed → ℕ
number_listed (everywhere k i) = k
number_listed (listed k id at j) = k

-- 41 before 40: the rows that a command has stand together
abbrev pub baud_first : List Listed → List Listed
baud_first [] = []
baud_first (x ∷ []) = x ∷ []
baud_first (x ∷ y ∷ l) = pick (eqb (number_listed x) 40) (y ∷ x ∷ l) (x ∷ baud_first (y ∷ l))

abbrev pub table : List Entry
table = map listed_row (baud_first fields)

abbrev pub row_numbers : List Entry → List ℕ
row_numbers rs = map (λ (r : Entry). r.number) rs

-- ---- A FIELD'S ROW among those of a command: rows 0 and 1, and those from first up to end
abbrev pub searched : List Entry → ℕ → Answer Entry
searched [] f = refused 7 0
searched (r ∷ rs) f = pick (eqb f r.number) (got r) (searched rs f)

abbrev pub rows_from : ℕ → ℕ → List Entry
rows_from first end = take (end - first) (drop first table)

abbrev pub rows_of : ℕ → ℕ → List Entry
rows_of first end = take 2 table ++ rows_from first end

-- ---- AS THE CODE HAS IT: the row of a field number that a command has, at its place where near and far are known
abbrev pub origin_at : Origin → ℕ → ℕ → ℕ
origin_at Start near far = 0
origin_at Near near far = near
origin_at Far near far = far

abbrev pub row_with : ℕ → ℕ → ℕ → ℕ → ℕ → ℕ → FieldRow
row_with width low high place unit many =
    record { width = width; low = low; high = high; place = place; unit = unit; many = many }

abbrev pub located : Entry → ℕ → ℕ → FieldRow
located e near far = row_with e.width e.low e.high (origin_at e.origin near far + e.place) e.unit e.many

abbrev pub row_told : Answer Entry → ℕ → ℕ → Option FieldRow
row_told (got e) near far = Some (located e near far)
row_told (refused n p) near far = None

abbrev pub row_for : ℕ → Layout → Option FieldRow
row_for f s = row_told (searched (rows_of s.first s.end) f) s.near s.far

-- the index of the first entry with a number, counted from i; the count past the last: none
abbrev pub index_in : List Entry → ℕ → ℕ → ℕ
index_in [] i f = i
index_in (e ∷ es) i f = pick (eqb f e.number) i (index_in es (i + 1) f)

abbrev pub index_for : ℕ → ℕ
index_for f = index_in table 0 f

-- as the code tells it
abbrev pub index_found : ℕ → Option ℕ
index_found f = position (λ (e : Entry). eqb e.number f) table

-- a line of the code's table: number, width, low, high, place, unit, many. Its place in a command, and the row
abbrev pub place_from : Place → ℕ → ℕ → ℕ
place_from (AtStart n) near far = n
place_from (AtNear n) near far = near + n
place_from (AtFar n) near far = far + n

abbrev pub place_in : CodeField → ℕ → ℕ → ℕ
place_in line near far = place_from line.4 near far

abbrev pub no_line : CodeField
no_line = record { 0 = 0; 1 = 0; 2 = 0; 3 = 0; 4 = AtStart 0; 5 = 0; 6 = 0 }

abbrev pub row_from : CodeField → ℕ → ℕ → FieldRow
row_from line near far = row_with line.1 line.2 line.3 (place_in line near far) line.5 line.6

-- "The largest length is 60."
abbrev pub InPayload : ℕ → Type 0
InPayload at = at ≤ 60

-- whether a command has the row of an index
abbrev pub is_among : ℕ → ℕ → ℕ → Bool
is_among i first end = pick (ltb i 2) true (pick (ltb i first) false (ltb i end))

-- Document 01: one edit, defined on the record, and any list of them. Assumes nothing.
use Rattle.std.specs.Prelude.{ℕ, zero, suc, ◌/◌, ◌%◌, ◌≡◌, List, [], ◌∷◌, length, take, drop, get_or, ltb, eqb}
use Rattle.codec.specs.Pick.{pick}
use Rattle.codec.specs.Same.{same}
use Rattle.codec.specs.Digits.{number_of}
use Rattle.codec.specs.Sheet.{Field, field, Item, packed, text, Answer, got, refused, and_then}
use Rattle.codec.specs.Writing.{leaves}
use Rattle.codec.specs.Edit.{set_value, in_field}
use Rattle.codec.specs.Refusals.{number_in}
use Rattle.families.specs.Payload.{family_id}
use Rattle.commands.specs.Reading.{read_command}
use Rattle.commands.specs.Writing.{payload_of}
use Rattle.commands.specs.declared.DirectCommands.{DirectCommands}
use Rattle.edits.specs.Fields.{Spot, spot, fields, spot_in}
use Rattle.edits.specs.Record.{sub_of, items_in, values_in, with_values}

-- "An edit is a field number and a number below 2^32"
pub data Edit : Type 0 where
  edit : ℕ → ℕ → Edit

-- ---- ON THE RECORD
-- a field of an item, with its range; 7: it holds no such number
abbrev pub field_of : Item → ℕ → Answer Field
field_of (packed w fs) j = pick (ltb j (length fs)) (got (get_or fs j (field 0 0 0))) (refused 7 0)
field_of (text least most) j = refused 7 0

-- field j of item i, if the command has that item
abbrev pub field_at : DirectCommands → Spot → Answer Field
field_at c (spot i j) = field_of (get_or (items_in c) i (text 0 0)) j

abbrev pub spot_of : DirectCommands → ℕ → Answer Spot
spot_of c f = spot_in fields (family_id c.payload) (sub_of c.payload) f

-- "the command before it, with that one item equal to the new number and every other item as it was"
abbrev pub with_field : DirectCommands → Spot → ℕ → DirectCommands
with_field c (spot i j) n = with_values c (set_value (values_in c) i j n)

-- "7; 8"
abbrev pub set_field : DirectCommands → ℕ → ℕ → Answer DirectCommands
set_field c f n =
    and_then (spot_of c f) (λ s.
    and_then (field_at c s) (λ d.
    pick (in_field d n) (got (with_field c s n)) (refused 8 0)))

-- ---- ON A PAYLOAD'S BYTES
-- "the reader's refusal; 6 if writing what was read doesn't give these very bytes"
abbrev pub open_command : List ℕ → Answer DirectCommands
open_command p = and_then (read_command p) (λ c. pick (same (payload_of c) p) (got c) (refused 6 0))

abbrev pub edit_command : List ℕ → ℕ → ℕ → Answer DirectCommands
edit_command p f n = and_then (open_command p) (λ c. set_field c f n)

-- the bytes are those the writer makes of the command; refused, all are as they were
abbrev pub bytes_left : List ℕ → Answer DirectCommands → List ℕ
bytes_left p (got c) = payload_of c
bytes_left p (refused n l) = p

abbrev pub EditIs : ℕ → ℕ → ℕ → List ℕ → List ℕ → Type 0
EditIs f n r p p' = (r ≡ number_in (edit_command p f n)) × (p' ≡ bytes_left p (edit_command p f n))

-- ---- A LIST: each edit on the bytes that those before it left
abbrev pub numbers_of : List ℕ → List Edit → List ℕ
numbers_of p [] = []
numbers_of p (edit f n ∷ es) = number_in (edit_command p f n) ∷ numbers_of (bytes_left p (edit_command p f n)) es

abbrev pub bytes_after : List ℕ → List Edit → List ℕ
bytes_after p [] = p
bytes_after p (edit f n ∷ es) = bytes_after (bytes_left p (edit_command p f n)) es

-- an edit in a list is 8 bytes, field then number, 4 each (docs/BEHAVIOUR.md, "Lists of edits"): so many of them
abbrev pub edits_from : ℕ → List ℕ → List Edit
edits_from zero s = []
edits_from (suc k) s = edit (number_of (take 4 s)) (number_of (take 4 (drop 4 s))) ∷ edits_from k (drop 8 s)

abbrev pub edits_in : List ℕ → List Edit
edits_in s = edits_from (length s / 8) s

-- a list whose length is no multiple of 8 is 1, then fewer answer bytes than edits is 3, both before all else
abbrev pub stop_list : ℕ → ℕ → ℕ
stop_list n room = pick (eqb (n % 8) 0) (pick (ltb room (n / 8)) 3 0) 1

abbrev pub left_by : ℕ → List ℕ → List Edit → List ℕ
left_by zero p es = bytes_after p es
left_by (suc k) p es = p

-- each edit's number goes to its answer byte, and the list goes on after a refused edit
abbrev pub ListIs : List ℕ → ℕ → List ℕ → List ℕ → List ℕ → List ℕ → Type 0
ListIs es r p p' a a' =
    let stop : ℕ = stop_list (length es) (length a) in
    (r ≡ stop) × ((p' ≡ left_by stop p (edits_in es)) × (a' ≡ leaves stop (numbers_of p (edits_in es)) a))

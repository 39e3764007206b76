-- What is demanded of a list of edits (docs/BEHAVIOUR.md, "The demands"), in words of the record: the command so far, which edits are
-- refused, which bytes hold a field. Assumes nothing.
use Rattle.std.specs.Prelude.{ℕ, ◌+◌, ◌-◌, ◌*◌, Bool, true, false, ◌≡◌, List, [], ◌∷◌, length, get_or, leb, ltb}
use Rattle.codec.specs.Pick.{pick}
use Rattle.codec.specs.Sheet.{Field, field, Item, packed, text, Answer, got, refused, and_then, widths}
use Rattle.codec.specs.Edit.{place_of, below, in_field}
use Rattle.codec.specs.Refusals.{number_in, value_in}
use Rattle.commands.specs.Writing.{payload_of, stop_writing}
use Rattle.commands.specs.declared.DirectCommands.{DirectCommands}
use Rattle.edits.specs.Fields.{Spot, spot}
use Rattle.edits.specs.Record.{items_in, values_in}
use Rattle.edits.specs.Edit.{Edit, edit, field_at, spot_of, set_field, edit_command, bytes_left}

-- the command with the accepted edits so far
abbrev pub with_edit : DirectCommands → ℕ → ℕ → DirectCommands
with_edit c f n = value_in c (set_field c f n)

abbrev pub with_edits : DirectCommands → List Edit → DirectCommands
with_edits c [] = c
with_edits c (edit f n ∷ es) = with_edits (with_edit c f n) es

-- the number that a field of the command reads; 7: it has none
abbrev pub number_at : DirectCommands → Spot → ℕ
number_at c (spot i j) = get_or (get_or (values_in c) i []) j 0

abbrev pub reads_by : DirectCommands → Answer Spot → Answer ℕ
reads_by c a = and_then a (λ s. and_then (field_at c s) (λ d. got (number_at c s)))

abbrev pub reads : DirectCommands → ℕ → Answer ℕ
reads c f = reads_by c (spot_of c f)

-- an edit is refused exactly when the command has no such field (7) or the number is out of range (8)
abbrev pub named : DirectCommands → ℕ → Answer Field
named c f = and_then (spot_of c f) (λ s. field_at c s)

abbrev pub judged : Answer Field → ℕ → ℕ
judged (got d) n = pick (in_field d n) 0 8
judged (refused k p) n = 7

-- each edit's number, of the command so far
abbrev pub numbers_for : DirectCommands → List Edit → List ℕ
numbers_for c [] = []
numbers_for c (edit f n ∷ es) = judged (named c f) n ∷ numbers_for (with_edit c f n) es

-- byte q of an item of w bytes holds a bit of its field of b bits with `low` bits below it
abbrev pub holds_bit : ℕ → ℕ → ℕ → ℕ → Bool
holds_bit w low b q = pick (ltb low (8 * (w - q))) (ltb (8 * (w - (q + 1))) (low + b)) false

-- place k is one of the bytes that hold the field: the item of w bytes begins at a place
abbrev pub holds_in : ℕ → ℕ → ℕ → Field → ℕ → Bool
holds_in at w low (field b lo hi) k = pick (leb at k) (pick (ltb k (at + w)) (holds_bit w low b (k - at)) false) false

abbrev pub holds_item : ℕ → Item → ℕ → ℕ → Bool
holds_item at (packed w fs) j k = holds_in at w (below (widths fs) j) (get_or fs j (field 0 0 0)) k
holds_item at (text least most) j k = false

abbrev pub holds_spot : DirectCommands → Answer Spot → ℕ → Bool
holds_spot c (got (spot i j)) k = holds_item (place_of (items_in c) (values_in c) i) (get_or (items_in c) i (text 0 0)) j k
holds_spot c (refused n p) k = false

-- only the bytes that hold the field, and the check byte, may differ
abbrev pub OnlyThere : DirectCommands → ℕ → List ℕ → List ℕ → Type 0
OnlyThere c f p p' =
    (length p' ≡ length p)
    × ((k : ℕ) → holds_spot c (spot_of c f) k ≡ false → (k ≡ length p - 1 → ⊥) → get_or p' k 0 ≡ get_or p k 0)

-- the same of a list: place k holds a field that one of its edits names
abbrev pub holds_any : DirectCommands → List Edit → ℕ → Bool
holds_any c [] k = false
holds_any c (edit f n ∷ es) k = pick (holds_spot c (spot_of c f) k) true (holds_any (with_edit c f n) es k)

abbrev pub OnlyThose : DirectCommands → List Edit → List ℕ → List ℕ → Type 0
OnlyThose c es p p' =
    (length p' ≡ length p) × ((k : ℕ) → holds_any c es k ≡ false → (k ≡ length p - 1 → ⊥) → get_or p' k 0 ≡ get_or p k 0)

-- an edit that was made: field, number, what was answered, and the bytes that were left
pub data Done : Type 0 where
  done : ℕ → ℕ → ℕ → List ℕ → Done

-- THE DEMAND, of edits made one after the other: before the first and after each, the writer accepts the command so far and makes just
-- these bytes
abbrev pub DemandedOf : DirectCommands → List ℕ → List Done → Type 0
DemandedOf c p [] = (stop_writing c 60 ≡ 0) × (p ≡ payload_of c)
DemandedOf c p (done f n r q ∷ ds) =
    (stop_writing c 60 ≡ 0) × ((p ≡ payload_of c) × ((r ≡ judged (named c f) n) × (OnlyThere c f p q × DemandedOf (with_edit c f n) q ds)))

-- of a list of edits, by the definition of one
abbrev pub done_from : List ℕ → List Edit → List Done
done_from p [] = []
done_from p (edit f n ∷ es) =
    done f n (number_in (edit_command p f n)) (bytes_left p (edit_command p f n)) ∷ done_from (bytes_left p (edit_command p f n)) es

abbrev pub Demanded : DirectCommands → List ℕ → List Edit → Type 0
Demanded c p es = DemandedOf c p (done_from p es)

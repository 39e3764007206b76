-- Edits of a lent payload: the answer as one word, and the bytes that are left. Assumes nothing.
use Rattle.std.specs.Prelude.{ℕ, ◌≡◌, List, length}
use Rattle.codec.specs.Sheet.{Answer}
use Rattle.codec.specs.Writing.{leaves}
use Rattle.codec.specs.Refusals.{number_in}
use Rattle.commands.specs.declared.DirectCommands.{DirectCommands}
use Rattle.edits.specs.Edit.{edits_in, stop_list, left_by, numbers_of, bytes_left}
use Rattle.images.specs.Word.{word}

-- the number in its bits, no count, place 0; with each number "lent memory keeps its bytes"
abbrev pub EditsOut : Answer DirectCommands → ℕ → List ℕ → List ℕ → Type 0
EditsOut a r p p' = (r ≡ word (number_in a) 0 0) × (p' ≡ bytes_left p a)

-- 1 or 3 for the list itself (docs/BEHAVIOUR.md, "Lists of edits"), and then no lent byte changes; else 0, and each edit's number goes to
-- its answer byte
abbrev pub ListsOut : List ℕ → ℕ → List ℕ → List ℕ → List ℕ → List ℕ → Type 0
ListsOut es r p p' a a' =
    let stop : ℕ = stop_list (length es) (length a) in
    (r ≡ word stop 0 0) × ((p' ≡ left_by stop p (edits_in es)) × (a' ≡ leaves stop (numbers_of p (edits_in es)) a))

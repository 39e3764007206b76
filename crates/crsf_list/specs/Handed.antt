-- What the program hands to the system's write, for its private contracts. Assumes nothing.
use Rattle.std.specs.Prelude.{ℕ, suc, List, Result, Ok, Err, ◌≡◌}
use Rattle.console.specs.declared.Said.{Said}
use Rattle.listing.specs.Chunks.{state_in, chunk}
use Rattle.listing.specs.Parts.{parts, text_of_parts, text_of_chunk}
use Rattle.listing.specs.declared.Listing.{Listing}
use Rattle.crsf_list.specs.declared.Progress.{Progress}

-- the text of part k, counted from 0, of a chunk i that begins in the state s, with so much room for a part
abbrev pub part_text : ℕ → Listing → List ℕ → ℕ → List ℕ
part_text room s i k = (parts room s i (suc k)).text

-- all of a chunk was written: its parts up to the last come to the text of its lines, and its state is the chunk's
abbrev pub Whole : ℕ → Listing → List ℕ → Result Progress Said → Type 0
Whole room s i (Ok r) = (r.state ≡ state_in (chunk s i)) × (text_of_parts room s i (suc r.last) ≡ text_of_chunk s i)
Whole room s i (Err said) = Unit {0}

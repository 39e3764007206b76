-- The text of a line: it has room in `longestText` bytes, and is put whole. Assumes nothing.
use Rattle.std.specs.Prelude.{Result, Ok}
use Prim.Native.Nat.{ℕ, ◌<◌, ◌≤◌}
use mathlib.Core.Bool.{true}
use mathlib.Core.List.{List, ◌++◌}
use mathlib.Core.Path.{◌≡◌, ap, sym, ◌∙◌}
use native.Mathlib.Omega.{arith}
use lib.ListN.{length, length-append}
use Rattle.codec.specs.Writing.{stop_room, counted}
use Rattle.codec.specs.Told.{WritesAll, told_written}
use Rattle.codec.specs.Sheet.{got}
use Rattle.codec.specs.declared.refusal.Refusal.{Refusal}
use Rattle.codec.proofs.InTurn.{item-goes}
use Rattle.codec.proofs.Writes.{out_told}
use Rattle.text.specs.Pieces.{hex_of, decimal, space, numbered_text, read_word, refused_word}
use Rattle.text.proofs.Digits.{bits64, decimal-length, end_length}
use Rattle.listing.specs.Text.{text_of, longest_text}
use Rattle.listing.specs.declared.line.Line.{Line}
use Rattle.listing.specs.declared.line.Line.TheVariants.{Read, Refused, Cut, End}

-- no text is empty
pub text-some : (l : Line) → 0 < length (text_of l)
text-some (Read k f n) = rw (length-append (decimal k) (read_word ++ (hex_of f ++ numbered_text space n))) (omega arith)
text-some (Refused k n) = rw (length-append (decimal k) (numbered_text refused_word n)) (omega arith)
text-some (Cut k) = omega arith
text-some (End k) = omega arith

-- of a text at the front of a lent slice: what is counted had room
pub written-fits : (r : Result ℕ Refusal) (k : ℕ) (w s s' : List ℕ) → WritesAll w r s s' → r ≡ Ok k → k ≤ length s
written-fits r k w s s' h e =
    let g : got k ≡ counted (stop_room (length s) (length w)) (length w) = sym (ap told_written e)
    ∙ out_told r (stop_room (length s) (length w)) (length w) h.0 in
    let i = item-goes true (length s) (length w) 0 k g in
    omega (arith, i.1.0, i.1.1)

-- ---- no text is longer than `longestText`: its numbers have at most 20 digits
-- a line's numbers are what its types hold
abbrev pub Typed : Line → Type 0
Typed (Read k f n) = (k < bits64) × (n < bits64)
Typed (Refused k n) = (k < bits64) × (n < bits64)
Typed (Cut k) = k < bits64
Typed (End k) = k < bits64

pub longest : (l : Line) → Typed l → length (text_of l) ≤ longest_text
longest (Read k f n) h =
    rw (length-append (decimal k) (read_word ++ (hex_of f ++ numbered_text space n)))
    (omega (arith, decimal-length k h.0, end_length n h.1))
longest (Refused k n) h =
    rw (length-append (decimal k) (numbered_text refused_word n)) (omega (arith, decimal-length k h.0, end_length n h.1))
longest (Cut k) h = omega (arith, end_length k h)
longest (End k) h = omega (arith, end_length k h)

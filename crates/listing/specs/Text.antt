-- Document 01, "The listing": the text of a line, in ASCII. Assumes nothing.
use Rattle.std.specs.Prelude.{ℕ, ◌≤◌, List, [], ◌∷◌, ◌++◌, length}
use Rattle.text.specs.Pieces.{hex_of, decimal, space, numbered_text, read_word, refused_word, end_word}
use Rattle.text.specs.Putting.{PutsBehind}
use Rattle.listing.specs.declared.line.Line.{Line}
use Rattle.listing.specs.declared.line.Line.TheVariants.{Read, Refused, Cut, End}

-- "cut "
abbrev pub cut_word : List ℕ
cut_word = 99 ∷ 117 ∷ 116 ∷ 32 ∷ []

abbrev pub text_of : Line → List ℕ
text_of (Read k f n) = decimal k ++ (read_word ++ (hex_of f ++ numbered_text space n))
text_of (Refused k n) = decimal k ++ numbered_text refused_word n
text_of (Cut k) = numbered_text cut_word k
text_of (End k) = numbered_text end_word k

-- no text is longer, of a line whose numbers are below 2^64 (`longest` in proofs/TextLaws.antt)
abbrev pub longest_text : ℕ
longest_text = 64

-- For contracts of private functions, nobody has to believe what follows. A line's text put behind the text that waits
pub record PutsText (line : Line) (at r : ℕ) (s s' : List ℕ) : Type 0 where
  pub put : PutsBehind (text_of line) at r s s'
  pub longest : length (text_of line) ≤ longest_text

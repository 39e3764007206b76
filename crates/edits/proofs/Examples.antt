-- Document 01, "Examples marked for proof", whole: the rows of reading, writing and constructors, and between them those of edits. One
-- table, one statement over it. Assumes nothing.
use Prim.Native.Nat.{ℕ, ◌≤◌}
use mathlib.Core.List.{List, [], ◌∷◌, ◌++◌, map}
use mathlib.Core.Path.{◌≡◌, refl, ap, ap₂, sym, subst, ◌∙◌}
use native.Mathlib.Omega.{arith}
use lib.ListN.{length, get_or}
use Rattle.crc.specs.Polynomial.{remainder}
use Rattle.crc.specs.Check.{check_of}
use Rattle.crc.proofs.Zeros.{bytes-zeros}
use Rattle.codec.specs.Pick.{pick}
use Rattle.codec.specs.Same.{same}
use Rattle.codec.specs.Sheet.{Answer, got, refused, and_then}
use Rattle.commands.specs.Reading.{read_command}
use Rattle.commands.specs.Writing.{payload_of}
use Rattle.commands.specs.declared.DirectCommands.{DirectCommands}
use Rattle.commands.proofs.Examples as base
use Rattle.commands.proofs.Examples.{disarm, frequency, m1, m3, earlier, later, earlier-marked, later-marked, m3_read}
use Rattle.commands.proofs.Promised.{Sound, payload-laid}
use Rattle.edits.specs.Edit.{set_field, edit_command}

-- a row of the table: one of those below; or a payload, a field number, a number, and the bytes that the edit leaves
pub data Example : Type 0 where
  row : base.Example → Example
  edits : List ℕ → ℕ → ℕ → Answer (List ℕ) → Example

abbrev pub edited : List ℕ → ℕ → ℕ → Answer (List ℕ)
edited p f n = and_then (edit_command p f n) (λ c. got (payload_of c))

abbrev pub worked : Example → Example
worked (row x) = row (base.worked x)
worked (edits p f n a) = edits p f n (edited p f n)

-- M2's payload, and M3's after its edit
abbrev pub m2 : List ℕ
m2 = 0xC8 ∷ 0xEA ∷ 0x01 ∷ 0x01 ∷ 0x00 ∷ 0xFE ∷ []

abbrev pub m3' : List ℕ
m3' = 0xC8 ∷ 0xEA ∷ 0x08 ∷ 0x02 ∷ 0x13 ∷ 0x88 ∷ 0x90 ∷ []

abbrev pub edit_rows : List Example
edit_rows =
    -- M2: "an edit answers 6"
    edits m2 1 0 (refused 6 0)
    -- M3: "field 20 set to 5000 gives `C8 EA 08 02 13 88 90`"
    ∷ edits m3 20 5000 (got m3')
    -- M4: "On M3, field 20 set to 4999 is 8; field 24 is 7."
    ∷ edits m3 20 4999 (refused 8 0)
    ∷ edits m3 24 0 (refused 7 0)
    ∷ []

abbrev pub examples : List Example
examples = map row earlier ++ (edit_rows ++ map row later)

-- ---- what was read of M2, from the table below
answer_in : base.Example → Answer DirectCommands
answer_in (base.reads p a) = a
answer_in (base.writes c n a) = refused 0 0
answer_in (base.counts c n a) = refused 0 0
answer_in (base.rewrites p a) = refused 0 0
answer_in (base.texts v a) = refused 0 0
answer_in (base.acks k t a) = refused 0 0
answer_in (base.popups f a) = refused 0 0

m2_read : read_command m2 ≡ got disarm
unfolding answer_in
m2_read = ap (λ (l : List base.Example). answer_in (get_or l 1 (base.texts [] (refused 0 0)))) earlier-marked

-- what is written of them
disarm-laid : payload_of disarm ≡ m1
unfolding check_of remainder
disarm-laid = payload-laid disarm refl refl (bytes-zeros 55) refl

pub m3-laid : payload_of (frequency 5800) ≡ m3
unfolding check_of remainder
m3-laid = payload-laid (frequency 5800) refl refl (bytes-zeros 55) refl

pub m3'-laid : payload_of (frequency 5000) ≡ m3'
unfolding check_of remainder
m3'-laid = payload-laid (frequency 5000) refl refl (bytes-zeros 55) refl

pub m3-sound : Sound (frequency 5800)
m3-sound = record {
  destination = omega arith;
  source = omega arith;
  in_range = refl;
  is_made = refl;
  stored = bytes-zeros 55;
  size = refl;
  short = subst (λ (p : List ℕ). length p ≤ 60) (sym m3-laid) (omega arith);
}

-- ---- the rows of edits
-- what an edit leaves, from what was opened
abbrev left_from : ℕ → ℕ → Answer DirectCommands → Answer (List ℕ)
left_from f n a = and_then (and_then a (λ c. set_field c f n)) (λ c. got (payload_of c))

-- of a payload p that was read as c, of which the writer makes q
edited-by : (p q : List ℕ) (f n : ℕ) (c : DirectCommands) → read_command p ≡ got c → payload_of c ≡ q
    → edited p f n ≡ left_from f n (pick (same q p) (got c) (refused 6 0))
edited-by p q f n c e g =
    ap (λ (a : Answer DirectCommands). left_from f n (and_then a (λ d. pick (same (payload_of d) p) (got d) (refused 6 0)))) e
    ∙ ap (λ (s : List ℕ). left_from f n (pick (same s p) (got c) (refused 6 0))) g

m2-edit : edited m2 1 0 ≡ refused 6 0
m2-edit = edited-by m2 m1 1 0 disarm m2_read disarm-laid

m3-edit : (f n : ℕ) → edited m3 f n ≡ left_from f n (got (frequency 5800))
m3-edit f n = edited-by m3 m3 f n (frequency 5800) m3_read m3-laid

edits-marked : map worked edit_rows ≡ edit_rows
edits-marked = same_rows m2-edit (m3-edit 20 5000 ∙ ap (λ (p : List ℕ). got p) m3'-laid) (m3-edit 20 4999) (m3-edit 24 0)
  where
    rows : Answer (List ℕ) → Answer (List ℕ) → Answer (List ℕ) → Answer (List ℕ) → List Example
    rows a b c d = edits m2 1 0 a ∷ edits m3 20 5000 b ∷ edits m3 20 4999 c ∷ edits m3 24 0 d ∷ []

    same_rows : {a a' b b' c c' d d' : Answer (List ℕ)} → a ≡ a' → b ≡ b' → c ≡ c' → d ≡ d' → rows a b c d ≡ rows a' b' c' d'
    same_rows e f g h = rw (e, f, g, h)

-- ---- THE statement
rows-worked : (l : List base.Example) → map worked (map row l) ≡ map row (map base.worked l)
rows-worked [] = refl
rows-worked (x ∷ l) = ap (λ (s : List Example). row (base.worked x) ∷ s) (rows-worked l)

map_append : (k l : List Example) → map worked (k ++ l) ≡ map worked k ++ map worked l
map_append [] l = refl
map_append (x ∷ k) l = ap (λ (s : List Example). worked x ∷ s) (map_append k l)

pub marked : map worked examples ≡ examples
marked =
    map_append (map row earlier) (edit_rows ++ map row later)
    ∙ ap₂ (λ (k l : List Example). k ++ l) (rows-worked earlier ∙ ap (map row) earlier-marked)
    (map_append edit_rows (map row later) ∙ ap₂ (λ (k l : List Example). k ++ l) edits-marked
    (rows-worked later ∙ ap (map row) later-marked))

-- Wrong answers that the contracts of the public functions rule out: the definition that the contract names, worked out for an input
-- where the wrong answer would be another. That no other answer is allowed there is in OneAnswer.antt. Assumes nothing.
use Rattle.std.specs.Prelude.{Result, Ok, Err, Bool}
use Rattle.codec.specs.declared.refusal.Refusal.{Refusal}
use Prim.Native.Nat.{ℕ}
use mathlib.Core.Bool.{true, false}
use mathlib.Core.List.{List, [], ◌∷◌}
use mathlib.Core.Path.{◌≡◌, refl, ap}
use native.Mathlib.Omega.{arith}
use seplogic.Ra.Ura.{Ura}
use base.Logic.{SProp, ent}
use prog.Memory.{Memory}
use prog.Routine.{Routine}
use types.Logic.{Logic}
use contract.Lifetimes.{Lfts}
use contract.Monad.{Fun, fact, fact_mono}
use denote.Ref.{Bor, MutBor}
use denote.Triple.Clauses.{AtExit}
use lib.ListN.{length, drop}
use Rattle.codec.specs.Pick.{pick}
use Rattle.codec.specs.Digits.{bytes_of}
use Rattle.codec.specs.Sheet.{got, refused, number, byte, word, long, flag, text}
use Rattle.codec.specs.Reading.{read_item}
use Rattle.codec.specs.Writing.{stop_room, counted, put_at}
use Rattle.codec.specs.Refusals.{refusal_number}
use Rattle.codec.specs.Told.{width_of, told_number, told_flag, told_text, bit, Writes}
use Rattle.codec.specs.declared.refusal.Refusal.TheVariants.{BufferOverflow, FamilyLeftBehind}
use Rattle.codec.specs.declared.reader.Width.TheVariants.{Two}
use Rattle.codec.specs.declared.reader.TextRead.{TextRead}
use Rattle.codec.specs.declared.reader.Reader.{Reader}
use Rattle.codec.specs.contracts.reader.Reader.new as new
use Rattle.codec.specs.contracts.reader.Reader.byte as next-byte
use Rattle.codec.specs.contracts.reader.Reader.u16 as next-u16
use Rattle.codec.specs.contracts.reader.Reader.u24 as next-u24
use Rattle.codec.specs.contracts.reader.Reader.u32 as next-u32
use Rattle.codec.specs.contracts.reader.Reader.boolean as next-boolean
use Rattle.codec.specs.contracts.reader.Reader.string as next-string

-- ---- u8::from of a Refusal
-- the number of another row: no room is not InvalidPayload, a family left behind is not an unknown one
pub overflow_3 : refusal_number BufferOverflow ≡ 3
overflow_3 = refl

pub left_behind_4 : refusal_number FamilyLeftBehind ≡ 4
left_behind_4 = refl

-- ---- reader::read_number
-- a byte past the end is none, and not 0
pub short-number : read_item (number (width_of Two) 0 65535) (drop 1 (0x12 ∷ 0x34 ∷ [])) ≡ refused 1 0
unfolding read_item
short-number = refl

-- the range is not judged before the item is complete
pub missing_first : read_item (number (width_of Two) 5000 6000) (drop 0 (0xFF ∷ [])) ≡ refused 1 0
unfolding read_item
missing_first = refl

-- ---- reader::read_byte, read_word, Reader::u32
-- a missing byte is not 0
pub no_byte : read_item byte (drop 1 (7 ∷ [])) ≡ refused 1 0
unfolding read_item
no_byte = refl

-- the highest byte stands first
pub word_high_first : read_item word (drop 1 (0 ∷ 0x12 ∷ 0x34 ∷ [])) ≡ got (0x1234 ∷ [])
unfolding read_item
word_high_first = refl

-- three bytes are no long
pub long-short : read_item long (drop 0 (1 ∷ 2 ∷ 3 ∷ [])) ≡ refused 1 0
unfolding read_item
long-short = refl

-- ---- Reader::boolean
-- 2 is no flag
pub flag_of_two : read_item flag (drop 0 (2 ∷ [])) ≡ refused 2 0
unfolding read_item
flag_of_two = refl

-- a missing flag is not one that is off
pub no_flag : read_item flag (drop 1 (1 ∷ [])) ≡ refused 1 0
unfolding read_item
no_flag = refl

-- ---- reader::read_text
-- the end of the bytes doesn't stand for a 00
pub text_unended : read_item (text 0 51) (drop 0 (0x41 ∷ 0x42 ∷ [])) ≡ refused 1 0
unfolding read_item
text_unended = refl

-- a text over its limit is not cut
pub text-over : read_item (text 0 1) (drop 0 (0x41 ∷ 0x42 ∷ 0 ∷ [])) ≡ refused 1 0
unfolding read_item
text-over = refl

-- ---- Reader::new, and the methods that take an item, of the contract itself
module _ {M : Type 1} {𝓤 : Ura M} (𝓛 : Logic 𝓤) (mem : Memory → SProp 𝓤) (run : Routine → Fun 𝓤) where
  -- these bytes, at this place of memory
  abbrev lent : ℕ → List ℕ → Bor (List ℕ)
  lent at s = record { ref_ptr = (at, 0); now = s }

  abbrev reader : ℕ → List ℕ → Reader
  reader at s = record { remaining = lent at s }

  -- no byte is taken yet
  pub new_takes_none : (κs : Lfts 1) (e : AtExit new.ended κs)
      → ent 𝓤 ((new.clauses 𝓛 mem run κs (lent 0 (1 ∷ 2 ∷ []), tt)).ensures tt (reader 0 (2 ∷ [])) e) (fact 𝓤 ⊥)
  new_takes_none κs e = fact_mono 𝓤 _ ⊥ (λ p. let n = ap (λ (r : Bor (List ℕ)). length r.now) p in omega arith)

  -- the bytes are the caller's, and no copy of them
  pub new_copies_none : (κs : Lfts 1) (e : AtExit new.ended κs)
      → ent 𝓤 ((new.clauses 𝓛 mem run κs (lent 0 (1 ∷ 2 ∷ []), tt)).ensures tt (reader 1 (1 ∷ 2 ∷ [])) e) (fact 𝓤 ⊥)
  new_copies_none κs e = fact_mono 𝓤 _ ⊥ (λ p. let n = ap (λ (r : Bor (List ℕ)). r.ref_ptr.0) p in omega arith)

  abbrev held : List ℕ → MutBor Reader
  held s = record { ref_ptr = (9, 0); ghost_name = 0; now = reader 0 s }

  -- the byte behind is not passed over: it is still to come
  pub byte_takes_one : (κs : Lfts 2) (x : Result ℕ Refusal) (e : AtExit next-byte.ended κs)
      → ent 𝓤 ((next-byte.clauses 𝓛 mem run κs (held (7 ∷ 9 ∷ []), tt)).ensures tt x e)
      (fact 𝓤 ((told_number x ≡ got (7 ∷ [])) × (e.0.now.remaining.now ≡ 9 ∷ [])))
  unfolding read_item
  byte_takes_one κs x e = fact_mono 𝓤 _ _ (λ p. (p.0.0, rw p.0.0 at p.0.1))

  -- of too few bytes none is left to be read as a shorter number
  pub word-short : (κs : Lfts 2) (x : Result ℕ Refusal) (e : AtExit next-u16.ended κs)
      → ent 𝓤 ((next-u16.clauses 𝓛 mem run κs (held (7 ∷ []), tt)).ensures tt x e)
      (fact 𝓤 ((told_number x ≡ refused 1 0) × (e.0.now.remaining.now ≡ [])))
  unfolding read_item
  word-short κs x e = fact_mono 𝓤 _ _ (λ p. (p.0.0, rw p.0.0 at p.0.1))

  -- the highest byte stands first
  pub u24_high_first : (κs : Lfts 2) (x : Result ℕ Refusal) (e : AtExit next-u24.ended κs)
      → ent 𝓤 ((next-u24.clauses 𝓛 mem run κs (held (0xB3 ∷ 0xE4 ∷ 0x64 ∷ []), tt)).ensures tt x e) (fact 𝓤 (told_number x ≡ got (0xB3E464 ∷ [])))
  unfolding read_item
  u24_high_first κs x e = fact_mono 𝓤 _ _ (λ p. p.0.0)

  -- four bytes, and not three with the rest still to come
  pub u32_takes_four : (κs : Lfts 2) (x : Result ℕ Refusal) (e : AtExit next-u32.ended κs)
      → ent 𝓤 ((next-u32.clauses 𝓛 mem run κs (held (0 ∷ 1 ∷ 0xC2 ∷ 0 ∷ 9 ∷ []), tt)).ensures tt x e)
      (fact 𝓤 ((told_number x ≡ got (115200 ∷ [])) × (e.0.now.remaining.now ≡ 9 ∷ [])))
  unfolding read_item
  u32_takes_four κs x e = fact_mono 𝓤 _ _ (λ p. (p.0.0, rw p.0.0 at p.0.1))

  -- 2 is no flag that is on
  pub no_boolean_2 : (κs : Lfts 2) (x : Result Bool Refusal) (e : AtExit next-boolean.ended κs)
      → ent 𝓤 ((next-boolean.clauses 𝓛 mem run κs (held (2 ∷ 1 ∷ []), tt)).ensures tt x e) (fact 𝓤 (told_flag x ≡ refused 2 0))
  unfolding read_item
  no_boolean_2 κs x e = fact_mono 𝓤 _ _ (λ p. p.0)

  -- the 00 belongs to the text: what is still to come begins behind it
  pub string_takes_its_00 : (κs : Lfts 2) (x : Result TextRead Refusal) (e : AtExit next-string.ended κs)
      → ent 𝓤 ((next-string.clauses 𝓛 mem run κs (held (0x41 ∷ 0 ∷ 9 ∷ []), tt)).ensures tt x e)
      (fact 𝓤 ((told_text (0x41 ∷ 0 ∷ 9 ∷ []) 0 x ≡ got (0x41 ∷ [])) × (e.0.now.remaining.now ≡ 9 ∷ [])))
  unfolding read_item
  string_takes_its_00 κs x e = fact_mono 𝓤 _ _ (λ p. (p.0.0, rw p.0.0 at p.0.1))

-- ---- writer::values_first (and must-fail/room_first)
-- a good value makes no room
pub values_then_room : counted (pick true (stop_room 2 3) 2) 3 ≡ refused 3 0
values_then_room = refl

-- ---- writer::bit_of
-- a flag that is on is 1, and no other number that isn't 0
pub bit-on : bit true ≡ 1
bit-on = refl

pub bit_off : bit false ≡ 0
bit_off = refl

-- ---- writer::put_number
-- no number is half written
pub number-whole : put_at (1 ∷ 2 ∷ 3 ∷ []) 2 (bytes_of (width_of Two) 0x1234) ≡ 1 ∷ 2 ∷ 3 ∷ []
number-whole = refl

-- the bytes before and behind keep theirs, and the highest stands first
pub number-there : put_at (1 ∷ 2 ∷ 3 ∷ 4 ∷ []) 1 (bytes_of (width_of Two) 0x1234) ≡ 1 ∷ 0x12 ∷ 0x34 ∷ 4 ∷ []
number-there = refl

-- ---- writer::put_byte
-- behind the end none is put
pub byte-whole : put_at (1 ∷ 2 ∷ []) 2 (8 ∷ []) ≡ 1 ∷ 2 ∷ []
byte-whole = refl

-- ---- writer::put_bytes
-- what has no room is not cut
pub bytes_whole : put_at (1 ∷ 2 ∷ []) 1 (8 ∷ 9 ∷ []) ≡ 1 ∷ 2 ∷ []
bytes_whole = refl

-- the bytes before and behind keep theirs
pub bytes-there : put_at (1 ∷ 2 ∷ 3 ∷ 4 ∷ []) 1 (8 ∷ 9 ∷ []) ≡ 1 ∷ 8 ∷ 9 ∷ 4 ∷ []
bytes-there = refl

-- ---- writer::write_alone
-- its contract: this answer, with these bytes left of those
abbrev PutsAlone : ℕ → Result ℕ Refusal → List ℕ → List ℕ → Type 0
PutsAlone sub r s s' = Writes (stop_room (length s) 1) (sub ∷ []) r s s'

-- one byte, and no more, is counted and put
pub alone_is_one : PutsAlone 0x05 (Ok 1) (7 ∷ 8 ∷ []) (0x05 ∷ 8 ∷ [])
alone_is_one = (refl, refl)

-- no count without a byte for it
pub alone_no_room : PutsAlone 0x05 (Err BufferOverflow) [] []
alone_no_room = (refl, refl)

-- ---- writer::write_with_byte
-- the same of it
abbrev PutsWithByte : ℕ → ℕ → Result ℕ Refusal → List ℕ → List ℕ → Type 0
PutsWithByte sub v r s s' = Writes (stop_room (length s) 2) (sub ∷ v ∷ []) r s s'

-- the sub-command stands before its byte
pub with_byte_order : PutsWithByte 0x05 9 (Ok 2) (6 ∷ 7 ∷ 8 ∷ []) (0x05 ∷ 9 ∷ 8 ∷ [])
with_byte_order = (refl, refl)

-- where only one of the two has room, neither is put
pub with_byte_no_room : PutsWithByte 0x05 9 (Err BufferOverflow) (6 ∷ []) (6 ∷ [])
with_byte_no_room = (refl, refl)

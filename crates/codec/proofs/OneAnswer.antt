-- Any two answers that a public function's contract allows coincide, and so do the bytes that it leaves in a lent slice. `Post` is
-- the contract as the check reads it from the source, and no copy of it. Assumes nothing.
use Rattle.std.specs.Prelude.{Result, Ok, Err, Bool}
use Rattle.codec.specs.declared.refusal.Refusal.{Refusal}
use Prim.Native.Nat.{ℕ, ◌+◌, ◌<◌}
use mathlib.Core.List.{List}
use mathlib.Core.Path.{◌≡◌, refl, sym, ap, ◌∙◌}
use native.Mathlib.Omega.{arith}
use seplogic.Ra.Ura.{Ura}
use base.Logic.{SProp, ent, sep}
use prog.Memory.{Memory}
use prog.Routine.{Routine}
use types.Logic.{Logic}
use contract.Lifetimes.{Lfts}
use contract.Monad.{Fun, fact, fact_mono}
use borrow.Fn.Kinds.{Dens, res_t, ended_of}
use denote.Triple.Clauses.{AtExit}
use denote.Triple.Entry.{Args, Res}
use denote.Triple.Walked.{needs}
use denote.Ref.{Bor}
use lib.ListN.{length, take, drop, length-drop}
use lib.Seq.{length-take-le}
use Rattle.codec.specs.Sheet.{Item, Answer, got, refused}
use Rattle.codec.specs.Reading.{read_item}
use Rattle.codec.specs.Told.{told_number, told_flag, told_text, text_in, told_written}
use Rattle.codec.specs.Taking.{behind_item}
use Rattle.codec.specs.declared.reader.TextRead.{TextRead}
use Rattle.codec.specs.declared.reader.Reader.{Reader}
use Rattle.codec.proofs.Writes.{refusal_of, refusal_back, number_told, number-told, flag_told, flag-told, written_told, written-told, written_fixed}
use Rattle.codec.proofs.refusal.U8FromRefusal.from.Reads as number
use Rattle.codec.proofs.refusal.U8FromRefusal.from.Kinds as number-kinds
use Rattle.codec.proofs.reader.read_number.Reads as read_number
use Rattle.codec.proofs.reader.read_number.Kinds as read-number-kinds
use Rattle.codec.proofs.reader.read_byte.Reads as read_byte
use Rattle.codec.proofs.reader.read_byte.Kinds as read-byte-kinds
use Rattle.codec.proofs.reader.read_word.Reads as read_word
use Rattle.codec.proofs.reader.read_word.Kinds as read-word-kinds
use Rattle.codec.proofs.reader.read_text.Reads as read-text
use Rattle.codec.proofs.reader.read_text.Kinds as read-text-kinds
use Rattle.codec.proofs.writer.bit_of.Reads as bit-of
use Rattle.codec.proofs.writer.bit_of.Kinds as bit-of-kinds
use Rattle.codec.proofs.writer.values_first.Reads as values-first
use Rattle.codec.proofs.writer.values_first.Kinds as values-first-kinds
use Rattle.codec.proofs.writer.put_number.Reads as put-number
use Rattle.codec.proofs.writer.put_number.Kinds as put-number-kinds
use Rattle.codec.proofs.writer.put_byte.Reads as put_byte
use Rattle.codec.proofs.writer.put_byte.Kinds as put-byte-kinds
use Rattle.codec.proofs.writer.put_bytes.Reads as put-bytes
use Rattle.codec.proofs.writer.put_bytes.Kinds as put-bytes-kinds
use Rattle.codec.proofs.writer.write_alone.Reads as write_alone
use Rattle.codec.proofs.writer.write_alone.Kinds as write-alone-kinds
use Rattle.codec.proofs.writer.write_with_byte.Reads as write-with-byte
use Rattle.codec.proofs.writer.write_with_byte.Kinds as write-with-byte-kinds
use Rattle.codec.specs.contracts.reader.Reader.new as reader-new
use Rattle.codec.specs.contracts.reader.Reader.byte as reader-byte
use Rattle.codec.specs.contracts.reader.Reader.u16 as reader-u16
use Rattle.codec.specs.contracts.reader.Reader.u24 as reader-u24
use Rattle.codec.specs.contracts.reader.Reader.u32 as reader-u32
use Rattle.codec.specs.contracts.reader.Reader.boolean as reader-boolean
use Rattle.codec.specs.contracts.reader.Reader.string as reader-string

-- what is told fixes the answer
number_fixed : (x y : Result ℕ Refusal) (a : Answer (List ℕ)) → told_number x ≡ a → told_number y ≡ a → x ≡ y
number_fixed x y a p q = sym (number-told x) ∙ ap number_told (p ∙ sym q) ∙ number-told y

flag_fixed : (x y : Result Bool Refusal) (a : Answer (List ℕ)) → told_flag x ≡ a → told_flag y ≡ a → x ≡ y
flag_fixed x y a p q = sym (flag-told x) ∙ ap flag_told (p ∙ sym q) ∙ flag-told y

told_fixed : (x y : Result ℕ Refusal) (a : Answer ℕ) → told_written x ≡ a → told_written y ≡ a → x ≡ y
told_fixed x y a p q = sym (written-told x) ∙ ap written_told (p ∙ sym q) ∙ written-told y

-- the length of a text's bytes is the length that was told, since they are all there
text-length : (s : List ℕ) (at n : ℕ) → at + n < length s → length (take n (drop at s)) ≡ n
text-length s at n h = length-take-le n (drop at s) (rw (length-drop at s) (omega arith))

answer-length : Answer (List ℕ) → ℕ
answer-length (got v) = length v
answer-length (refused n p) = 0

answer-number : Answer (List ℕ) → ℕ
answer-number (got v) = 0
answer-number (refused n p) = n

text_read : {t u : TextRead} → t.len ≡ u.len → t.next ≡ u.next → record { len = t.len; next = t.next } ≡ u
text_read {t} {u} l k = rw (l, k)

text_fixed : (s : List ℕ) (at : ℕ) (x y : Result TextRead Refusal) → told_text s at x ≡ told_text s at y → text_in s at x → text_in s at y → x ≡ y
unfolding answer-length answer-number
text_fixed s at (Ok t) (Ok u) e p q =
    let l : t.len ≡ u.len = sym (text-length s at t.len p.0) ∙ ap answer-length e ∙ text-length s at u.len q.0 in
    let k : t.next ≡ u.next = p.1 ∙ ap (λ (i : ℕ). at + (i + 1)) l ∙ sym q.1 in
    ap Ok (text_read l k)
text_fixed s at (Ok t) (Err r) e p q = let z : ◌≡◌ {A = ℕ} 0 1 = cc in absurd (omega arith)
text_fixed s at (Err r) (Ok t) e p q = let z : ◌≡◌ {A = ℕ} 0 1 = cc in absurd (omega arith)
text_fixed s at (Err r) (Err r') e p q =
    ap Err (sym (refusal_back r) ∙ ap refusal_of (ap answer-number e) ∙ refusal_back r')

pub number_one : (κs : Lfts 0) (a : Dens κs number-kinds.ps) (x y : (res_t number-kinds.r κs).Denot) (s t : AtExit (ended_of 0 number-kinds.ps number-kinds.r) κs)
    → number.Post κs a x s → number.Post κs a y t → x ≡ y
number_one κs a x y s t p q = p ∙ sym q

pub read_number_one : (κs : Lfts 1) (a : Dens κs read-number-kinds.ps) (x y : (res_t read-number-kinds.r κs).Denot)
    (s t : AtExit (ended_of 1 read-number-kinds.ps read-number-kinds.r) κs)
    → read_number.Post κs a x s → read_number.Post κs a y t → x ≡ y
read_number_one κs a x y s t p q = number_fixed x y _ p.0 q.0

pub read_byte_one : (κs : Lfts 1) (a : Dens κs read-byte-kinds.ps) (x y : (res_t read-byte-kinds.r κs).Denot)
    (s t : AtExit (ended_of 1 read-byte-kinds.ps read-byte-kinds.r) κs)
    → read_byte.Post κs a x s → read_byte.Post κs a y t → x ≡ y
read_byte_one κs a x y s t p q = number_fixed x y _ p.0 q.0

pub read_word_one : (κs : Lfts 1) (a : Dens κs read-word-kinds.ps) (x y : (res_t read-word-kinds.r κs).Denot)
    (s t : AtExit (ended_of 1 read-word-kinds.ps read-word-kinds.r) κs)
    → read_word.Post κs a x s → read_word.Post κs a y t → x ≡ y
read_word_one κs a x y s t p q = number_fixed x y _ p.0 q.0

pub read_text_one : (κs : Lfts 1) (a : Dens κs read-text-kinds.ps) (x y : (res_t read-text-kinds.r κs).Denot)
    (s t : AtExit (ended_of 1 read-text-kinds.ps read-text-kinds.r) κs)
    → read-text.Post κs a x s → read-text.Post κs a y t → x ≡ y
read_text_one κs a x y s t p q = text_fixed a.0.now a.1.0 x y (p.0 ∙ sym q.0) p.1 q.1

pub bit_of_one : (κs : Lfts 0) (a : Dens κs bit-of-kinds.ps) (x y : (res_t bit-of-kinds.r κs).Denot) (s t : AtExit (ended_of 0 bit-of-kinds.ps bit-of-kinds.r) κs)
    → bit-of.Post κs a x s → bit-of.Post κs a y t → x ≡ y
bit_of_one κs a x y s t p q = p ∙ sym q

pub values_first_one : (κs : Lfts 0) (a : Dens κs values-first-kinds.ps) (x y : (res_t values-first-kinds.r κs).Denot)
    (s t : AtExit (ended_of 0 values-first-kinds.ps values-first-kinds.r) κs)
    → values-first.Post κs a x s → values-first.Post κs a y t → x ≡ y
values_first_one κs a x y s t p q = told_fixed x y _ p q

pub put_number_one : (κs : Lfts 1) (a : Dens κs put-number-kinds.ps) (x y : (res_t put-number-kinds.r κs).Denot)
    (s t : AtExit (ended_of 1 put-number-kinds.ps put-number-kinds.r) κs)
    → put-number.Post κs a x s → put-number.Post κs a y t → (x ≡ y) × (s.0.now ≡ t.0.now)
put_number_one κs a x y s t p q = (refl, p ∙ sym q)

pub put_byte_one : (κs : Lfts 1) (a : Dens κs put-byte-kinds.ps) (x y : (res_t put-byte-kinds.r κs).Denot)
    (s t : AtExit (ended_of 1 put-byte-kinds.ps put-byte-kinds.r) κs)
    → put_byte.Post κs a x s → put_byte.Post κs a y t → (x ≡ y) × (s.0.now ≡ t.0.now)
put_byte_one κs a x y s t p q = (refl, p ∙ sym q)

pub put_bytes_one : (κs : Lfts 2) (a : Dens κs put-bytes-kinds.ps) (x y : (res_t put-bytes-kinds.r κs).Denot)
    (s t : AtExit (ended_of 2 put-bytes-kinds.ps put-bytes-kinds.r) κs)
    → put-bytes.Post κs a x s → put-bytes.Post κs a y t → (x ≡ y) × (s.0.now ≡ t.0.now)
put_bytes_one κs a x y s t p q = (refl, p ∙ sym q)

pub write_alone_one : (κs : Lfts 1) (a : Dens κs write-alone-kinds.ps) (x y : (res_t write-alone-kinds.r κs).Denot)
    (s t : AtExit (ended_of 1 write-alone-kinds.ps write-alone-kinds.r) κs)
    → write_alone.Post κs a x s → write_alone.Post κs a y t → (x ≡ y) × (s.1.0.now ≡ t.1.0.now)
write_alone_one κs a x y s t p q = (written_fixed x y _ p.0 q.0, p.1 ∙ sym q.1)

pub write_with_byte_one : (κs : Lfts 1) (a : Dens κs write-with-byte-kinds.ps)
    (x y : (res_t write-with-byte-kinds.r κs).Denot)
    (s t : AtExit (ended_of 1 write-with-byte-kinds.ps write-with-byte-kinds.r) κs)
    → write-with-byte.Post κs a x s → write-with-byte.Post κs a y t → (x ≡ y) × (s.1.1.0.now ≡ t.1.1.0.now)
write_with_byte_one κs a x y s t p q = (written_fixed x y _ p.0 q.0, p.1 ∙ sym q.1)

-- ---- those of `Reader`, whose proofs are walks: they have no `Post`. `clauses` is their contract, as read from the source; its `ensures` is
-- an assertion, and where it holds of two answers they are one
both_say : {M : Type 1} (𝓤 : Ura M) (φ ψ χ : Type 0) → (φ → ψ → χ) → ent 𝓤 (sep 𝓤 (fact 𝓤 φ) (fact 𝓤 ψ)) (fact 𝓤 χ)
both_say 𝓤 φ ψ χ f = needs 𝓤 ψ (fact 𝓤 φ) (λ q. fact_mono 𝓤 φ χ (λ p. f p q))

-- two takings of an item leave the same bytes
taken_same : (i : Item) (s : List ℕ) {a b : Answer (List ℕ)} {s' s'' : List ℕ} → a ≡ read_item i s → b ≡ read_item i s
    → s' ≡ behind_item i a s → s'' ≡ behind_item i b s → s' ≡ s''
taken_same i s p q f g = f ∙ ap (λ (x : Answer (List ℕ)). behind_item i x s) (p ∙ sym q) ∙ sym g

abbrev holding : Bor (List ℕ) → Reader
holding s = record { remaining = s }

module _ {M : Type 1} {𝓤 : Ura M} (𝓛 : Logic 𝓤) (mem : Memory → SProp 𝓤) (run : Routine → Fun 𝓤) where
  pub reader_new_one : (κs : Lfts 1) (a : Args reader-new.signature κs) (x y : Res reader-new.signature κs) (s t : AtExit reader-new.ended κs)
      → ent 𝓤 (sep 𝓤 ((reader-new.clauses 𝓛 mem run κs a).ensures tt x s) ((reader-new.clauses 𝓛 mem run κs a).ensures tt y t)) (fact 𝓤 (x ≡ y))
  reader_new_one κs a x y s t = both_say 𝓤 _ _ (x ≡ y) (λ p q. ap holding (p ∙ sym q))

  pub reader_byte_one : (κs : Lfts 2) (a : Args reader-byte.signature κs) (x y : Res reader-byte.signature κs) (s t : AtExit reader-byte.ended κs)
      → ent 𝓤 (sep 𝓤 ((reader-byte.clauses 𝓛 mem run κs a).ensures tt x s) ((reader-byte.clauses 𝓛 mem run κs a).ensures tt y t))
      (fact 𝓤 ((x ≡ y) × (s.0.now.remaining.now ≡ t.0.now.remaining.now)))
  reader_byte_one κs a x y s t = both_say 𝓤 _ _ _ (λ p q. (number_fixed x y _ p.0.0 q.0.0, taken_same _ _ p.0.0 q.0.0 p.0.1 q.0.1))

  pub reader_u16_one : (κs : Lfts 2) (a : Args reader-u16.signature κs) (x y : Res reader-u16.signature κs) (s t : AtExit reader-u16.ended κs)
      → ent 𝓤 (sep 𝓤 ((reader-u16.clauses 𝓛 mem run κs a).ensures tt x s) ((reader-u16.clauses 𝓛 mem run κs a).ensures tt y t))
      (fact 𝓤 ((x ≡ y) × (s.0.now.remaining.now ≡ t.0.now.remaining.now)))
  reader_u16_one κs a x y s t = both_say 𝓤 _ _ _ (λ p q. (number_fixed x y _ p.0.0 q.0.0, taken_same _ _ p.0.0 q.0.0 p.0.1 q.0.1))

  pub reader_u24_one : (κs : Lfts 2) (a : Args reader-u24.signature κs) (x y : Res reader-u24.signature κs) (s t : AtExit reader-u24.ended κs)
      → ent 𝓤 (sep 𝓤 ((reader-u24.clauses 𝓛 mem run κs a).ensures tt x s) ((reader-u24.clauses 𝓛 mem run κs a).ensures tt y t))
      (fact 𝓤 ((x ≡ y) × (s.0.now.remaining.now ≡ t.0.now.remaining.now)))
  reader_u24_one κs a x y s t = both_say 𝓤 _ _ _ (λ p q. (number_fixed x y _ p.0.0 q.0.0, taken_same _ _ p.0.0 q.0.0 p.0.1 q.0.1))

  pub reader_u32_one : (κs : Lfts 2) (a : Args reader-u32.signature κs) (x y : Res reader-u32.signature κs) (s t : AtExit reader-u32.ended κs)
      → ent 𝓤 (sep 𝓤 ((reader-u32.clauses 𝓛 mem run κs a).ensures tt x s) ((reader-u32.clauses 𝓛 mem run κs a).ensures tt y t))
      (fact 𝓤 ((x ≡ y) × (s.0.now.remaining.now ≡ t.0.now.remaining.now)))
  reader_u32_one κs a x y s t = both_say 𝓤 _ _ _ (λ p q. (number_fixed x y _ p.0.0 q.0.0, taken_same _ _ p.0.0 q.0.0 p.0.1 q.0.1))

  pub reader_boolean_one : (κs : Lfts 2) (a : Args reader-boolean.signature κs) (x y : Res reader-boolean.signature κs) (s t : AtExit reader-boolean.ended κs)
      → ent 𝓤 (sep 𝓤 ((reader-boolean.clauses 𝓛 mem run κs a).ensures tt x s) ((reader-boolean.clauses 𝓛 mem run κs a).ensures tt y t))
      (fact 𝓤 ((x ≡ y) × (s.0.now.remaining.now ≡ t.0.now.remaining.now)))
  reader_boolean_one κs a x y s t = both_say 𝓤 _ _ _ (λ p q. (flag_fixed x y _ p.0 q.0, taken_same _ _ p.0 q.0 p.1 q.1))

  pub reader_string_one : (κs : Lfts 2) (a : Args reader-string.signature κs) (x y : Res reader-string.signature κs) (s t : AtExit reader-string.ended κs)
      → ent 𝓤 (sep 𝓤 ((reader-string.clauses 𝓛 mem run κs a).ensures tt x s) ((reader-string.clauses 𝓛 mem run κs a).ensures tt y t))
      (fact 𝓤 ((x ≡ y) × (s.0.now.remaining.now ≡ t.0.now.remaining.now)))
  reader_string_one κs a x y s t = both_say 𝓤 _ _ _
      (λ p q. (
        text_fixed a.0.now.remaining.now 0 x y (p.0.0 ∙ sym q.0.0) p.1 q.1,
        taken_same _ _ p.0.0 q.0.0 p.0.1 q.0.1,
      ))

-- The word of a refusal, and what writing a command answers as a word. Assumes nothing.
use Rattle.std.specs.Prelude.{Result, Ok, Err}
use Prim.Native.Nat.{ℕ}
use mathlib.Core.List.{List}
use mathlib.Core.Path.{◌≡◌, refl, ap, ◌∙◌}
use lib.ListN.{length}
use Rattle.codec.specs.Sheet.{Answer}
use Rattle.codec.specs.Refusals.{refusal_number}
use Rattle.codec.specs.Told.{Writes, told_written}
use Rattle.codec.specs.declared.refusal.Refusal.{Refusal}
use Rattle.codec.specs.declared.refusal.Refusal.TheVariants.{InvalidPayloadLength, InvalidPayload, BufferOverflow, FamilyLeftBehind, RecordNotMade, NotAsWritten, NoSuchField, NumberOutsideRange}
use Rattle.codec.proofs.Refused.{Some}
use Rattle.codec.proofs.Writes.{out_told}
use Rattle.commands.specs.Reading.{CommandIs}
use Rattle.commands.specs.Writing.{payload_of, stop_writing}
use Rattle.commands.specs.declared.DirectCommands.{DirectCommands}
use Rattle.commands.proofs.Known.{accepted_is, refused_is}
use Rattle.images.specs.Word.{word, answer_word, WritesOut}

-- a refusal's number fills no more than its 8 bits
pub refusal_word : (why : Refusal) → word (refusal_number why) 0 0 ≡ refusal_number why
refusal_word InvalidPayloadLength = refl
refusal_word InvalidPayload = refl
refusal_word BufferOverflow = refl
refusal_word FamilyLeftBehind = refl
refusal_word RecordNotMade = refl
refusal_word NotAsWritten = refl
refusal_word NoSuchField = refl
refusal_word NumberOutsideRange = refl

-- ---- a command that was got is written; of one that was refused, no byte is
module _ (a : Answer DirectCommands) (g : Some a) (x : Result DirectCommands Refusal) (i : CommandIs a x) where
  pub writes-on : (c : DirectCommands) (w : Result ℕ Refusal) (r : ℕ) (s s' : List ℕ) → x ≡ Ok c
      → Writes (stop_writing c (length s)) (payload_of c) w s s' → r ≡ answer_word (told_written w) → WritesOut a r s s'
  writes-on c w r s s' e h f =
      rw (accepted_is a x c i e) (
        f ∙ ap answer_word (out_told w (stop_writing c (length s)) (length (payload_of c)) h.0),
        h.1,
      )

  pub writes-not : (why : Refusal) (r : ℕ) (s : List ℕ) → x ≡ Err why → r ≡ word (refusal_number why) 0 0 → WritesOut a r s s
  writes-not why r s e f =
      let n = refused_is a x why i e in
      let z : n.0 ≡ 0 = (g (refusal_number why) n.0 n.1).1 in
      rw (n.1, z) (f, refl)

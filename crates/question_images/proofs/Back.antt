-- A question's image reads back as that question. Assumes nothing.
use Prim.Native.Nat.{◌^◌, ◌<◌}
use mathlib.Core.Bool.{Bool, true, false}
use mathlib.Core.Path.{◌≡◌, refl, ◌∙◌}
use native.Mathlib.Omega.{arith}
use lib.ListN.{length}
use lib.Dec.{leb}
use borrow.Author.Tests.{eq-eqb}
use Rattle.codec.specs.Sheet.{got}
use Rattle.codec.specs.Told.{bit}
use Rattle.codec.proofs.Digits.{number-bytes}
use Rattle.families.proofs.ScreenLaws.{bit_is}
use Rattle.images.specs.Number.{number_at}
use Rattle.images.proofs.TextLaws.{byte_mod}
use Rattle.images.proofs.NumberLaws.{number-there}
use Rattle.questions.specs.declared.Question.{Question}
use Rattle.question_images.specs.Image.{question_image, question_from}
use Rattle.question_images.proofs.Putting.{question-size}

-- what its types keep, and a stored length of one byte
pub record TypedQuestion (q : Question) : Type 0 where
  pub sent : q.sent < 2 ^ 32
  pub last : q.last < 2 ^ 32
  pub len : q.popup.len < 256
  pub bytes : length q.popup.bytes ≡ 55

bit-low : (b : Bool) → leb (bit b) 1 ≡ true
bit-low true = refl
bit-low false = refl

pub question_back : (q : Question) → TypedQuestion q → question_from (question_image q) ≡ got q
question_back q k =
    let s = question_image q in
    let l = question-size q k.bytes in
    let sent_is : number_at s 2 4 ≡ q.sent = number-there s 2 4 (omega (arith, l)) ∙ number-bytes 4 q.sent k.sent in
    let last-is : number_at s 6 4 ≡ q.last = number-there s 6 4 (omega (arith, l)) ∙ number-bytes 4 q.last k.last in
    rw (
      eq-eqb (length s) 66 l,
      bit-low q.started,
      bit-low q.«open»,
      bit_is q.started,
      bit_is q.«open»,
      sent_is,
      last-is,
      byte_mod q.popup.len k.len,
    )

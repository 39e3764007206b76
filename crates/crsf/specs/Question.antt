-- Questions and their answers: the answer's word, and the bytes that are left of the question. Assumes nothing.
use Rattle.std.specs.Prelude.{Result, ℕ, ◌≡◌, List}
use Rattle.codec.specs.Sheet.{Answer, got, refused, and_then}
use Rattle.images.specs.Popup.{popup_from}
use Rattle.images.specs.Record.{record_from}
use Rattle.images.specs.Word.{word}
use Rattle.questions.specs.Table.{Call, asks, returns, Told, opened, processed, cancelled, expired}
use Rattle.questions.specs.Kept.{told_reply, reply_to, kept_after, call_of}
use Rattle.questions.specs.declared.Question.{Question}
use Rattle.questions.specs.declared.Reason.{Reason}
use Rattle.questions.specs.declared.Reply.{Reply}
use Rattle.question_images.specs.Image.{question_image, question_from}
use Rattle.crsf.specs.Handed.{image_left}

-- what a call hands back: what is told, and the question that is kept now
pub data Called : Type 0 where
  called : Told → Question → Called

abbrev pub called_on : Question → Call → Answer Called
called_on q c = and_then (reply_to q c) (λ t. got (called t (kept_after q c (got t))))

-- 5 for the image of no question, or of nothing that could call
abbrev pub call_on : List ℕ → Answer Call → Answer Called
call_on s a = and_then (question_from s) (λ q. and_then a (λ c. called_on q c))

-- the count says how it closed: 1 processed, 2 cancelled, 3 expired; 0 for one that opened
abbrev pub closing : Told → ℕ
closing opened = 0
closing processed = 1
closing cancelled = 2
closing expired = 3

abbrev pub called_word : Answer Called → ℕ
called_word (got (called t q)) = word 0 (closing t) 0
called_word (refused n p) = word n 0 p

abbrev pub question_out : Called → List ℕ
question_out (called t q) = question_image q

-- r is the answer's word, and s' is left of the question s
pub record HandsBack (a : Answer Called) (r : ℕ) (s s' : List ℕ) : Type 0 where
  pub word : r ≡ called_word a
  pub left : s' ≡ image_left question_out a s

-- what each function is handed beside the question: at a second, the image of a popup that is sent; a value that is returned, with a
-- response; the image of a command that was sent, or has arrived
pub data Given : Type 0 where
  asking : ℕ → List ℕ → Given
  returning : ℕ → ℕ → ℕ → Given
  commanding : ℕ → List ℕ → Given

-- the call that it makes; 5 for the image of no popup, or of no record
abbrev pub call_in : Given → Answer Call
call_in (asking second popup) = and_then (popup_from popup) (λ p. got (asks second p))
call_in (returning second value response) = got (returns second value response)
call_in (commanding second command) = and_then (record_from command) (λ c. got (call_of second c))

-- A CALL ON A QUESTION answers r and leaves s' of the question s
abbrev pub CallsOut : Given → ℕ → List ℕ → List ℕ → Type 0
CallsOut given r s s' = HandsBack (call_on s (call_in given)) r s s'

-- ---- for the contract of a private function
abbrev pub reply_called : Result Reply Reason → Question → Answer Called
reply_called r q = and_then (told_reply r) (λ t. got (called t q))

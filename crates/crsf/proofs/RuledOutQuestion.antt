-- Wrong answers that the contracts of the calls on a question rule out: the definition that they name, worked out for an input where the
-- wrong answer would be another. That no other answer is allowed there is in OneAnswerQuestion.antt. Assumes nothing.
use Prim.Native.Nat.{ℕ}
use mathlib.Core.List.{List, ◌∷◌, ◌++◌}
use mathlib.Core.Path.{refl}
use lib.ListN.{replicate}
use Rattle.codec.specs.Reading.{read_item}
use Rattle.images.specs.Values.{payload_laid, payload_at}
use Rattle.crsf.specs.Question.{asking, returning, commanding, CallsOut}

-- the stored bytes of a popup without texts, with a timeout of 9 seconds and no close button; and of one that has a selection labelled "A",
-- with value, min, max and default 4, 3, 5 and 4
abbrev plain_bytes : List ℕ
plain_bytes = 0 ∷ 0 ∷ 9 ∷ 0 ∷ replicate 51 0

abbrev plain : List ℕ
plain = 4 ∷ plain_bytes

abbrev selection : List ℕ
selection = 11 ∷ 0 ∷ 0 ∷ 9 ∷ 0 ∷ 0x41 ∷ 0 ∷ 4 ∷ 3 ∷ 5 ∷ 4 ∷ 0 ∷ replicate 44 0

-- a new question; one of this popup, sent at a second, with the last accepted second; one that is closed
abbrev new : List ℕ
new = replicate 66 0

abbrev asked : ℕ → ℕ → List ℕ → List ℕ
asked sent last popup = 1 ∷ 1 ∷ 0 ∷ 0 ∷ 0 ∷ sent ∷ 0 ∷ 0 ∷ 0 ∷ last ∷ popup

abbrev closed : ℕ → List ℕ
closed last = 1 ∷ 0 ∷ 0 ∷ 0 ∷ 0 ∷ 0 ∷ 0 ∷ 0 ∷ 0 ∷ last ∷ replicate 56 0

-- ---- crsf_question_ask
-- it opens: started and open, this second twice, the popup
pub ask_opens : CallsOut (asking 7 plain) 0 new (asked 7 7 plain)
unfolding read_item
ask_opens = record { word = refl; left = refl }

-- a question of 65 bytes, one whose started is 2: 5, whatever is asked
pub ask_65 : (second : ℕ) (popup : List ℕ) → CallsOut (asking second popup) 5 (replicate 65 0) (replicate 65 0)
ask_65 second popup = record { word = refl; left = refl }

pub ask_started_2 : (second : ℕ) (popup : List ℕ) → CallsOut (asking second popup) 5 (2 ∷ replicate 65 0) (2 ∷ replicate 65 0)
ask_started_2 second popup = record { word = refl; left = refl }

-- a popup image of 55 bytes
pub ask_popup_55 : CallsOut (asking 7 plain_bytes) 5 new new
ask_popup_55 = record { word = refl; left = refl }

-- a popup that is not made is 5, before the 27 of a clock that goes back; that comes before 28
pub ask_not_made : CallsOut (asking 6 (replicate 56 0)) 5 (closed 7) (closed 7)
unfolding read_item
ask_not_made = record { word = refl; left = refl }

pub ask_back : CallsOut (asking 6 plain) 27 (asked 7 7 plain) (asked 7 7 plain)
unfolding read_item
ask_back = record { word = refl; left = refl }

-- 9 seconds after it is in time: the first is open still; a second later the new one opens
pub ask_open : CallsOut (asking 16 plain) 28 (asked 7 7 selection) (asked 7 7 selection)
unfolding read_item
ask_open = record { word = refl; left = refl }

pub ask_after : CallsOut (asking 17 plain) 0 (asked 7 7 selection) (asked 17 17 plain)
unfolding read_item
ask_after = record { word = refl; left = refl }

-- ---- crsf_question_return
-- a response of 2 is 2, before the 27 of a clock that goes back
pub return_response_2 : CallsOut (returning 6 4 2) 2 (asked 7 7 plain) (asked 7 7 plain)
unfolding read_item
return_response_2 = record { word = refl; left = refl }

-- 9 seconds after it is in time: processed is 1 in the count's bits, and nothing of the popup is left; a second later it is 3, expired
pub return-processed : CallsOut (returning 16 5 1) 0x100 (asked 7 7 selection) (closed 16)
unfolding read_item
return-processed = record { word = refl; left = refl }

pub return-expired : CallsOut (returning 17 6 1) 0x300 (asked 7 7 selection) (closed 17)
unfolding read_item
return-expired = record { word = refl; left = refl }

-- 6 is above the selection's 5; cancelled it is not judged
pub return_above : CallsOut (returning 16 6 1) 30 (asked 7 7 selection) (asked 7 7 selection)
unfolding read_item
return_above = record { word = refl; left = refl }

pub return-cancelled : CallsOut (returning 16 6 0) 0x200 (asked 7 7 selection) (closed 16)
unfolding read_item
return-cancelled = record { word = refl; left = refl }

-- a second return
pub return_again : CallsOut (returning 16 5 1) 29 (closed 16) (closed 16)
return_again = record { word = refl; left = refl }

-- beyond its limits: sent after the last accepted second
pub return_sent_late : CallsOut (returning 9 5 1) 5 (asked 8 7 plain) (asked 8 7 plain)
unfolding read_item
return_sent_late = record { word = refl; left = refl }

-- ---- crsf_question_command
-- the image of no record is 5
pub command_69 : CallsOut (commanding 6 (replicate 69 0)) 5 (closed 7) (closed 7)
command_69 = record { word = refl; left = refl }

-- a disarm is 2, before the 27 of a clock that goes back
pub command_other : CallsOut (commanding 6 (1 ∷ 2 ∷ 0x01 ∷ 0x01 ∷ replicate 66 0)) 2 (closed 7) (closed 7)
unfolding payload_laid payload_at
command_other = record { word = refl; left = refl }

-- a popup asks by its stored bytes
pub command-asks : CallsOut (commanding 7 (1 ∷ 2 ∷ 0x22 ∷ 0x01 ∷ replicate 10 0 ++ plain)) 0 new (asked 7 7 plain)
unfolding read_item payload_laid payload_at
command-asks = record { word = refl; left = refl }

-- a returned value hands on its value and response; its stored bytes may be anything
pub command-returns : CallsOut (commanding 16 (1 ∷ 2 ∷ 0x22 ∷ 0x02 ∷ 5 ∷ 1 ∷ replicate 8 0 ++ replicate 56 9)) 0x100
    (asked 7 7 selection) (closed 16)
unfolding read_item payload_laid payload_at
command-returns = record { word = refl; left = refl }

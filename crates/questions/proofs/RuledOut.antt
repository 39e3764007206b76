-- Wrong answers that the contracts of the public functions rule out: the definition that the contract names, worked out for an input
-- where the wrong answer would be another. That no other answer is allowed there is in OneAnswer.antt. Assumes nothing.
use Prim.Native.Nat.{ℕ, ◌<◌}
use mathlib.Core.Bool.{Bool, true, false}
use mathlib.Core.Path.{◌≡◌, refl}
use native.Mathlib.Omega.{arith}
use lib.Dec.{leb}
use borrow.Author.Tests.{le-leb}
use Rattle.codec.specs.Pick.{pick}
use Rattle.codec.specs.Sheet.{got, refused}
use Rattle.codec.specs.Reading.{read_item}
use Rattle.families.specs.declared.fc.FcCommand.TheVariants.{ForceDisarm}
use Rattle.families.specs.declared.screen.ScreenCommand.TheVariants.{PopupMessageStart, SelectionReturnValue}
use Rattle.families.specs.declared.screen.ScreenAdditionalData.{ScreenAdditionalData}
use Rattle.families.specs.declared.screen.ScreenAdditionalData.TheVariants.{Absent, Empty, Selection}
use Rattle.families.specs.declared.screen.ScreenPopupFields.{ScreenPopupFields}
use Rattle.families.specs.declared.screen.ScreenPopup.{ScreenPopup}
use Rattle.families.specs.declared.payload.CommandPayload.{CommandPayload}
use Rattle.families.specs.declared.payload.CommandPayload.TheVariants.{Fc, Screen}
use Rattle.commands.specs.declared.DirectCommands.{DirectCommands}
use Rattle.questions.specs.Table.{unset, closed, asks, returns, opened, processed, cancelled, expired, in_range}
use Rattle.questions.specs.Kept.{reason_number, state_of, new_question, reply_to, opens, closes, call_of, lowest, highest}
use Rattle.questions.specs.Calls.{kept_next}
use Rattle.questions.specs.declared.Question.{Question}
use Rattle.questions.specs.declared.Reason.TheVariants.{Clock, QuestionOpen, NoQuestion, Value}
use Rattle.questions.proofs.Examples.{plain, choice, not_made}

-- ---- number
pub clock_27 : reason_number Clock ≡ 27
clock_27 = refl

-- a question that is open is not one that is missing
pub open_28 : reason_number QuestionOpen ≡ 28
open_28 = refl

pub none_29 : reason_number NoQuestion ≡ 29
none_29 = refl

pub value_30 : reason_number Value ≡ 30
value_30 = refl

-- ---- Question::new
-- no second is accepted, not even 0
pub new-unset : (state_of new_question).clock ≡ unset
new-unset = refl

pub new-closed : (state_of new_question).asked ≡ closed
new-closed = refl

-- ---- Question::ask
-- "The first call may carry any second."
pub first_any : (second : ℕ) → reply_to new_question (asks second plain) ≡ got opened
unfolding read_item
first_any second = refl

-- that opens with this popup and this second, which is the last accepted one
pub opens_kept : (second : ℕ) → kept_next new_question (asks second plain) ≡ opens second plain
unfolding read_item
opens_kept second = refl

-- asked at 100, with 10 seconds: open at 110, expired at 111, and then it makes way
pub open_at_110 : reply_to (opens 100 choice) (asks 110 plain) ≡ refused 28 0
unfolding read_item
open_at_110 = refl

pub expired_at_111 : reply_to (opens 100 choice) (asks 111 plain) ≡ got opened
unfolding read_item
expired_at_111 = refl

pub makes_way : kept_next (opens 100 choice) (asks 111 plain) ≡ opens 111 plain
unfolding read_item
makes_way = refl

-- the clock before the open question, and the same second is not lower
pub clock_before_open : reply_to (opens 100 choice) (asks 99 plain) ≡ refused 27 0
unfolding read_item
clock_before_open = refl

pub same_second : reply_to (closes 100) (asks 100 plain) ≡ got opened
unfolding read_item
same_second = refl

-- a popup not made before the clock
pub made_before_clock : reply_to (opens 100 choice) (asks 99 not_made) ≡ refused 5 0
unfolding read_item
made_before_clock = refl

-- a refusal moves no clock
pub refused-kept : kept_next (opens 100 choice) (asks 110 plain) ≡ opens 100 choice
unfolding read_item
refused-kept = refl

-- beyond its limits, 5 before all else: sent later than the last second; open with a popup that is not made; a sent second, a popup or
-- an unset clock's second where none is open
abbrev kept : Bool → Bool → ℕ → ℕ → ScreenPopup → Question
kept started isOpen sent last popup = record { started = started; «open» = isOpen; sent = sent; last = last; popup = popup }

pub sent-later : reply_to (kept true true 101 100 choice) (asks 200 plain) ≡ refused 5 0
sent-later = refl

pub beyond-kept : kept_next (kept true true 101 100 choice) (asks 200 plain) ≡ kept true true 101 100 choice
beyond-kept = refl

pub open_not_made : reply_to (kept true true 100 100 not_made) (asks 200 plain) ≡ refused 5 0
unfolding read_item
open_not_made = refl

pub closed-sent : reply_to (kept true false 1 100 not_made) (asks 200 plain) ≡ refused 5 0
closed-sent = refl

pub closed-popup : reply_to (kept true false 0 100 plain) (asks 200 plain) ≡ refused 5 0
closed-popup = refl

pub unstarted-last : reply_to (kept false false 0 100 not_made) (asks 200 plain) ≡ refused 5 0
unstarted-last = refl

pub unstarted_open : reply_to (kept false true 0 0 choice) (asks 200 plain) ≡ refused 5 0
unstarted_open = refl

-- ---- Question::returned
-- in time at 110, expired at 111, whatever the value and the response
pub in_time_at_110 : reply_to (opens 100 choice) (returns 110 5 1) ≡ got processed
unfolding read_item
in_time_at_110 = refl

pub late_at_111 : reply_to (opens 100 choice) (returns 111 5 1) ≡ got expired
unfolding read_item
late_at_111 = refl

pub late_any : (value : ℕ) → reply_to (opens 100 choice) (returns 111 value 1) ≡ got expired
unfolding read_item
late_any value = refl

pub late_cancelled : reply_to (opens 100 choice) (returns 111 5 0) ≡ got expired
unfolding read_item
late_cancelled = refl

-- it closes and moves the clock
pub late_closes : kept_next (opens 100 choice) (returns 111 5 1) ≡ closes 111
unfolding read_item
late_closes = refl

-- from min to max, both of them in; and the question waits on
pub below_min : reply_to (opens 100 choice) (returns 105 2 1) ≡ refused 30 0
unfolding read_item
below_min = refl

pub at_min : reply_to (opens 100 choice) (returns 105 3 1) ≡ got processed
unfolding read_item
at_min = refl

pub at_max : reply_to (opens 100 choice) (returns 105 7 1) ≡ got processed
unfolding read_item
at_max = refl

pub above_max : reply_to (opens 100 choice) (returns 105 8 1) ≡ refused 30 0
unfolding read_item
above_max = refl

pub value_kept : kept_next (opens 100 choice) (returns 105 8 1) ≡ opens 100 choice
unfolding read_item
value_kept = refl

-- a cancelled one is not judged, nor is any without a selection
pub cancelled_any : (value : ℕ) → reply_to (opens 100 choice) (returns 105 value 0) ≡ got cancelled
unfolding read_item
cancelled_any value = refl

pub plain_any : (value : ℕ) → reply_to (opens 100 plain) (returns 105 value 1) ≡ got processed
unfolding read_item
plain_any value = refl

-- a second return
pub second_return : reply_to (kept_next (opens 100 choice) (returns 105 5 1)) (returns 105 5 1) ≡ refused 29 0
unfolding read_item
second_return = refl

-- the clock before a missing question and before a value; response 2 before both
pub clock_before_none : reply_to (closes 100) (returns 99 5 1) ≡ refused 27 0
clock_before_none = refl

pub clock_before_value : reply_to (opens 100 choice) (returns 99 8 1) ≡ refused 27 0
unfolding read_item
clock_before_value = refl

pub response_before_clock : reply_to (closes 100) (returns 99 5 2) ≡ refused 2 0
response_before_clock = refl

pub response_before_none : reply_to new_question (returns 99 5 2) ≡ refused 2 0
response_before_none = refl

-- limits before the response
pub limits_before_response : reply_to (kept true false 1 100 not_made) (returns 99 5 2) ≡ refused 5 0
limits_before_response = refl

-- ---- Question::command
abbrev command : CommandPayload → ScreenPopup → DirectCommands
command payload stored = record { dst_addr = 0xC8; src_addr = 0xEA; payload = payload; len = stored.len; bytes = stored.bytes }

-- of another family: 2 at any second, an open question's timeout past or not, and nothing changes; only limits come before
pub another_family : (second : ℕ) → reply_to (opens 100 choice) (call_of second (command (Fc ForceDisarm) not_made)) ≡ refused 2 0
unfolding read_item
another_family second = refl

pub another_kept : (second : ℕ) → kept_next (opens 100 choice) (call_of second (command (Fc ForceDisarm) not_made)) ≡ opens 100 choice
unfolding read_item
another_kept second = refl

pub limits_before_family : reply_to (kept true false 1 100 not_made) (call_of 200 (command (Fc ForceDisarm) not_made)) ≡ refused 5 0
limits_before_family = refl

-- a returned value's stored bytes are not looked at
pub stored_any : (second value : ℕ) (stored : ScreenPopup)
    → call_of second (command (Screen (SelectionReturnValue value true)) stored) ≡ returns second value 1
stored_any second value stored = refl

-- response 0 is not 1
pub response_0 : (second value : ℕ) (stored : ScreenPopup)
    → call_of second (command (Screen (SelectionReturnValue value false)) stored) ≡ returns second value 0
response_0 second value stored = refl

-- a popup asks with its stored bytes
pub popup-asks : (second : ℕ) → kept_next new_question (call_of second (command (Screen PopupMessageStart) choice)) ≡ opens second choice
unfolding read_item
popup-asks second = refl

pub popup_not_made : reply_to (opens 100 choice) (call_of 99 (command (Screen PopupMessageStart) not_made)) ≡ refused 5 0
unfolding read_item
popup_not_made = refl

-- ---- a processed value: a byte lies in the range that a popup without a selection has
pub range_is : (k : ScreenAdditionalData) (f : ScreenPopupFields) (value : ℕ) → value < 256
    → in_range k f value ≡ pick (leb (lowest k f) value) (leb value (highest k f)) false
range_is Absent f value l = rw (le-leb 0 value (omega arith), le-leb value 255 (omega arith))
range_is Empty f value l = rw (le-leb 0 value (omega arith), le-leb value 255 (omega arith))
range_is Selection f value l = refl

-- What is kept between calls, and a call on it: the table's answer, the state that it tells. Assumes nothing.
use Rattle.std.specs.Prelude.{ℕ, Bool, true, false, ◌≡◌, [], leb, eqb, Option, Some, None, Result, Ok, Err}
use Rattle.codec.specs.Pick.{pick}
use Rattle.codec.specs.Sheet.{Answer, got, refused}
use Rattle.codec.specs.Told.{bit}
use Rattle.families.specs.Text.{zeros}
use Rattle.families.specs.Fields.{popup_of, made_popup}
use Rattle.families.specs.declared.screen.ScreenAdditionalData.{ScreenAdditionalData}
use Rattle.families.specs.declared.screen.ScreenAdditionalData.TheVariants.{Absent, Empty, Selection}
use Rattle.families.specs.declared.screen.ScreenCommand.TheVariants.{PopupMessageStart, SelectionReturnValue}
use Rattle.families.specs.declared.screen.ScreenPopup.{ScreenPopup}
use Rattle.families.specs.declared.screen.ScreenPopupFields.{ScreenPopupFields}
use Rattle.families.specs.declared.payload.CommandPayload.{CommandPayload}
use Rattle.families.specs.declared.payload.CommandPayload.TheVariants.{Fc, Osd, Vtx, Led, General, Crossfire, FlowControl, Screen, Ack}
use Rattle.commands.specs.declared.DirectCommands.{DirectCommands}
use Rattle.questions.specs.Table.{closed, «open», unset, accepted, State, Call, asks, returns, neither, Told, opened, processed, cancelled, expired, answer, fields_in}
use Rattle.questions.specs.declared.Question.{Question}
use Rattle.questions.specs.declared.Reason.{Reason}
use Rattle.questions.specs.declared.Reason.TheVariants.{RecordNotMade, InvalidPayload, Clock as ClockBack, QuestionOpen, NoQuestion, Value}
use Rattle.questions.specs.declared.Reply.{Reply}
use Rattle.questions.specs.declared.Reply.TheVariants.{Opened, Processed, Cancelled, Expired}
use Rattle.questions.specs.declared.kept.Terms.{Terms}

-- the number of each name, 01's and 02's
abbrev pub reason_number : Reason → ℕ
reason_number RecordNotMade = 5
reason_number InvalidPayload = 2
reason_number ClockBack = 27
reason_number QuestionOpen = 28
reason_number NoQuestion = 29
reason_number Value = 30

-- what a reply tells, and a refusal
abbrev pub told_reply : Result Reply Reason → Answer Told
told_reply (Ok Opened) = got opened
told_reply (Ok Processed) = got processed
told_reply (Ok Cancelled) = got cancelled
told_reply (Ok Expired) = got expired
told_reply (Err why) = refused (reason_number why) 0

-- the table's state that a kept one tells
abbrev pub state_of : Question → State
state_of q = record {
  clock = pick q.started (accepted q.last) unset;
  asked = pick q.«open» («open» (fields_in q.popup) q.sent) closed;
}

-- a new one
abbrev pub new_question : Question
new_question = record { started = false; «open» = false; sent = 0; last = 0; popup = popup_of [] }

-- its own limits: not open, sent and popup are 0 throughout
abbrev pub nothing_sent : Question → Bool
nothing_sent q = pick (eqb q.sent 0) (pick (eqb q.popup.len 0) (zeros q.popup.bytes) false) false

-- open, the popup is made and sent is at most the last accepted second
abbrev pub soundly_sent : Question → Bool
soundly_sent q = pick (leb q.sent q.last) (made_popup q.popup) false

-- not started, all the rest is 0
abbrev pub in_limits : Question → Bool
in_limits q =
    pick q.started
    (pick q.«open» (soundly_sent q) (nothing_sent q))
    (pick q.«open» false (pick (eqb q.last 0) (nothing_sent q) false))

-- THE REPLY. "A state handed in beyond its own limits .. is 5, before all else, and comes back as it was."
abbrev pub reply_to : Question → Call → Answer Told
reply_to q c = pick (in_limits q) (answer (state_of q) c) (refused 5 0)

-- the question that is kept after it: one that opens has this popup, one that closes is kept no longer
abbrev pub opens : ℕ → ScreenPopup → Question
opens second popup = record { started = true; «open» = true; sent = second; last = second; popup = popup }

abbrev pub closes : ℕ → Question
closes second = record { started = true; «open» = false; sent = 0; last = second; popup = popup_of [] }

abbrev pub kept_after : Question → Call → Answer Told → Question
kept_after q c (refused n p) = q
kept_after q (asks second popup) (got t) = opens second popup
kept_after q (returns second value response) (got t) = closes second
kept_after q neither (got t) = q

-- A CALL on q answers r and leaves q'
pub record StepIs (q : Question) (c : Call) (r : Result Reply Reason) (q' : Question) : Type 0 where
  pub reply : told_reply r ≡ reply_to q c
  pub question : q' ≡ kept_after q c (reply_to q c)

-- THE LINK TO COMMANDS: a popup asks with its stored bytes, a returned value hands on its value and response; of any other command
-- nothing is looked at
abbrev pub call_by : ℕ → CommandPayload → ScreenPopup → Call
call_by second (Fc c) popup = neither
call_by second (Osd c) popup = neither
call_by second (Vtx c) popup = neither
call_by second (Led c) popup = neither
call_by second (General c) popup = neither
call_by second (Crossfire c) popup = neither
call_by second (FlowControl c) popup = neither
call_by second (Screen PopupMessageStart) popup = asks second popup
call_by second (Screen (SelectionReturnValue value response)) popup = returns second value (bit response)
call_by second (Ack a) popup = neither

abbrev pub call_of : ℕ → DirectCommands → Call
call_of second c = call_by second c.payload (record { len = c.len; bytes = c.bytes })

-- ---- for the contracts of private functions: what a popup's question goes by. Without a selection any value is in range
abbrev pub lowest : ScreenAdditionalData → ScreenPopupFields → ℕ
lowest Absent f = 0
lowest Empty f = 0
lowest Selection f = f.min_value

abbrev pub highest : ScreenAdditionalData → ScreenPopupFields → ℕ
highest Absent f = 255
highest Empty f = 255
highest Selection f = f.max_value

abbrev pub terms_of : ScreenPopupFields → Terms
terms_of f = record {
  timeout = f.max_timeout_interval;
  low = lowest f.additional_data f;
  high = highest f.additional_data f;
}

-- a popup's: 5 where it is not made
abbrev pub TermsIn : ScreenPopup → Result Terms Reason → Type 0
TermsIn p (Ok t) = (made_popup p ≡ true) × (t ≡ terms_of (fields_in p))
TermsIn p (Err why) = (made_popup p ≡ false) × (why ≡ RecordNotMade)

-- a kept question's: 5 beyond its limits, none where it is not open, else its popup's
abbrev pub TermsAre : Question → Result (Option Terms) Reason → Type 0
TermsAre q (Ok None) = (in_limits q ≡ true) × (q.«open» ≡ false)
TermsAre q (Ok (Some t)) = (in_limits q ≡ true) × ((q.«open» ≡ true) × (t ≡ terms_of (fields_in q.popup)))
TermsAre q (Err why) = (in_limits q ≡ false) × (why ≡ RecordNotMade)

-- Document 02, Wish 13: popup questions and their answers, "this simple table of open and closed", on a popup's fields. Assumes nothing.
use Rattle.std.specs.Prelude.{ℕ, zero, suc, ◌-◌, Bool, true, false, List, [], ◌∷◌, leb, ltb}
use Rattle.codec.specs.Pick.{pick}
use Rattle.codec.specs.Sheet.{Answer, got, refused, and_then}
use Rattle.codec.specs.Refusals.{value_in}
use Rattle.families.specs.Fields.{blank_fields, inspect}
use Rattle.families.specs.declared.screen.ScreenAdditionalData.{ScreenAdditionalData}
use Rattle.families.specs.declared.screen.ScreenAdditionalData.TheVariants.{Absent, Empty, Selection}
use Rattle.families.specs.declared.screen.ScreenPopup.{ScreenPopup}
use Rattle.families.specs.declared.screen.ScreenPopupFields.{ScreenPopupFields}

-- "The box keeps at most one open question, the popup last sent, with the caller's second count."
pub data Asked : Type 0 where
  closed : Asked
  «open» : ScreenPopupFields → ℕ → Asked

-- the last accepted second; "The first call may carry any second."
pub data Clock : Type 0 where
  unset : Clock
  accepted : ℕ → Clock

pub record State : Type 0 where
  pub clock : Clock
  pub asked : Asked

abbrev pub new_state : State
new_state = record { clock = unset; asked = closed }

-- a call: at a second a popup is sent; at a second a value is returned, with a response; a command that is neither
pub data Call : Type 0 where
  asks : ℕ → ScreenPopup → Call
  returns : ℕ → ℕ → ℕ → Call
  neither : Call

-- what is answered where nothing is refused
pub data Told : Type 0 where
  opened : Told
  processed : Told
  cancelled : Told
  expired : Told

-- "if it arrives at most the popup's timeout after it"
abbrev pub in_time : ScreenPopupFields → ℕ → ℕ → Bool
in_time f sent second = leb (second - sent) f.max_timeout_interval

-- "for a selection a processed value must lie from min to max"
abbrev pub in_range : ScreenAdditionalData → ScreenPopupFields → ℕ → Bool
in_range Absent f value = true
in_range Empty f value = true
in_range Selection f value = pick (leb f.min_value value) (leb value f.max_value) false

-- "A second count lower than the last accepted one is refused."
abbrev pub clocked : Clock → ℕ → Answer Told → Answer Told
clocked unset second a = a
clocked (accepted last) second a = pick (ltb second last) (refused 27 0) a

-- "A new popup while one is open is refused until it is answered or expired, and then opens."
abbrev pub to_popup : Asked → ℕ → Answer Told
to_popup closed second = got opened
to_popup («open» f sent) second = pick (in_time f sent second) (refused 28 0) (got opened)

-- "A returned value closes it as processed or cancelled": response 1 or 0
abbrev pub to_value : ScreenPopupFields → ℕ → ℕ → Answer Told
to_value f value zero = got cancelled
to_value f value (suc response) = pick (in_range f.additional_data f value) (got processed) (refused 30 0)

-- "A later return, whatever its value, leaves it closed as expired; a second return, or one without a question, is refused."
abbrev pub to_return : Asked → ℕ → ℕ → ℕ → Answer Told
to_return closed second value response = refused 29 0
to_return («open» f sent) second value response = pick (in_time f sent second) (to_value f value response) (got expired)

-- THE TABLE. "Refusals: 5 for a popup not made, 27 clock, 28 question open, 29 no question, 30 value, in that order"; 2 for a response
-- above 1, and for a command that is neither, before the clock
abbrev pub answer : State → Call → Answer Told
answer s (asks second popup) = and_then (inspect popup) (λ f. clocked s.clock second (to_popup s.asked second))
answer s (returns second value response) =
    pick (leb response 1) (clocked s.clock second (to_return s.asked second value response)) (refused 2 0)
answer s neither = refused 2 0

-- a popup's fields
abbrev pub fields_in : ScreenPopup → ScreenPopupFields
fields_in popup = value_in blank_fields (inspect popup)

-- the state after an answer; of refusals: "none changes the state"
abbrev pub after : State → Call → Answer Told → State
after s c (refused n p) = s
after s (asks second popup) (got t) = record { clock = accepted second; asked = «open» (fields_in popup) second }
after s (returns second value response) (got t) = record { clock = accepted second; asked = closed }
after s neither (got t) = s

abbrev pub next : State → Call → State
next s c = after s c (answer s c)

-- "Over any calls the answers are those of this simple table of open and closed."
abbrev pub answers : State → List Call → List (Answer Told)
answers s [] = []
answers s (c ∷ cs) = answer s c ∷ answers (next s c) cs

abbrev pub state_after : State → List Call → State
state_after s [] = s
state_after s (c ∷ cs) = state_after (next s c) cs

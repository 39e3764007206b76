-- What is answered where a call is accepted: a popup opens and is made, a returned value closes and finds a question open. Assumes nothing.
use Prim.Native.Nat.{ℕ, zero, suc}
use mathlib.Core.Bool.{Bool, true, false}
use mathlib.Core.Path.{◌≡◌, refl}
use native.Mathlib.Omega.{arith}
use lib.Dec.{leb, ltb}
use Rattle.codec.specs.Pick.{pick}
use Rattle.codec.specs.Sheet.{Answer, got, refused, and_then}
use Rattle.codec.specs.Refusals.{value_in}
use Rattle.families.specs.Fields.{blank_fields, inspect}
use Rattle.families.specs.declared.screen.ScreenPopup.{ScreenPopup}
use Rattle.families.specs.declared.screen.ScreenPopupFields.{ScreenPopupFields}
use Rattle.questions.specs.Table.{Asked, closed, «open», Clock, unset, accepted, State, Call, asks, returns, Told, opened, processed, cancelled, expired, in_time, in_range, clocked, to_popup, to_value, to_return, answer, fields_in, next}
use Rattle.questions.specs.Once.{closing, is_open}

pub refused-got : {A : Type 0} {P : Type 0} (n p : ℕ) (t : A) → refused n p ≡ got t → P
refused-got n p t e = let z : ◌≡◌ {A = ℕ} 0 1 = cc in absurd (omega arith)

-- ---- where a value is answered, it is one of these
abbrev Only : (Told → Type 0) → Answer Told → Type 0
Only P a = (t : Told) → a ≡ got t → P t

only-refused : (P : Told → Type 0) (n p : ℕ) → Only P (refused n p)
only-refused P n p t e = refused-got n p t e

only-got : (P : Told → Type 0) (u : Told) → P u → Only P (got u)
only-got P u h t e = let f : u ≡ t = cc in rw f at h

only-pick : (P : Told → Type 0) (b : Bool) (x y : Answer Told) → Only P x → Only P y → Only P (pick b x y)
only-pick P true x y g h = g
only-pick P false x y g h = h

only-clocked : (P : Told → Type 0) (c : Clock) (second : ℕ) (a : Answer Told) → Only P a → Only P (clocked c second a)
only-clocked P unset second a h = h
only-clocked P (accepted last) second a h = only-pick P (ltb second last) _ _ (only-refused P 27 0) h

-- ---- a popup
popup-opens : (k : Asked) (second : ℕ) → Only (λ t. t ≡ opened) (to_popup k second)
popup-opens closed second = only-got (λ t. t ≡ opened) opened refl
popup-opens («open» f sent) second =
    only-pick (λ t. t ≡ opened) (in_time f sent second) _ _ (only-refused (λ t. t ≡ opened) 28 0) (only-got (λ t. t ≡ opened) opened refl)

-- it is made, and opens
asks-by : (c : Clock) (k : Asked) (second : ℕ) (t : Told) (a : Answer ScreenPopupFields)
    → and_then a (λ f. clocked c second (to_popup k second)) ≡ got t → (a ≡ got (value_in blank_fields a)) × (t ≡ opened)
asks-by c k second t (got f) e = (refl, only-clocked (λ u. u ≡ opened) c second (to_popup k second) (popup-opens k second) t e)
asks-by c k second t (refused n p) e = refused-got n p t e

pub asks-accepted : (s : State) (second : ℕ) (popup : ScreenPopup) (t : Told) → answer s (asks second popup) ≡ got t
    → (inspect popup ≡ got (fields_in popup)) × (t ≡ opened)
asks-accepted s second popup t e = asks-by s.clock s.asked second t (inspect popup) e

-- ---- a returned value
value_closes : (f : ScreenPopupFields) (value response : ℕ) → Only (λ t. closing t ≡ true) (to_value f value response)
value_closes f value zero = only-got (λ t. closing t ≡ true) cancelled refl
value_closes f value (suc response) =
    only-pick (λ t. closing t ≡ true) (in_range f.additional_data f value) _ _ (only-got (λ t. closing t ≡ true) processed refl)
    (only-refused (λ t. closing t ≡ true) 30 0)

abbrev Closes : Asked → Told → Type 0
Closes k t = (closing t ≡ true) × (is_open k ≡ true)

return_closes : (k : Asked) (second value response : ℕ) → Only (Closes k) (to_return k second value response)
return_closes closed second value response = only-refused (Closes closed) 29 0
return_closes («open» f sent) second value response =
    only-pick (Closes («open» f sent)) (in_time f sent second) _ _ (λ t e. (value_closes f value response t e, refl))
    (only-got (Closes («open» f sent)) expired (refl, refl))

pub returns-accepted : (s : State) (second value response : ℕ) (t : Told) → answer s (returns second value response) ≡ got t
    → (closing t ≡ true) × (is_open s.asked ≡ true)
returns-accepted s second value response t e =
    let P = Closes s.asked in
    only-pick P (leb response 1) _ _
    (only-clocked P s.clock second _ (return_closes s.asked second value response)) (only-refused P 2 0) t e

-- ---- a refusal leaves the state as it was
pub refused_stays : (s : State) (c : Call) (n p : ℕ) → answer s c ≡ refused n p → next s c ≡ s
refused_stays s c n p e = rw e

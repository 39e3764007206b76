-- What the functions of Screen cite: reading, inspection. Assumes nothing.
use Rattle.std.specs.Prelude.{Result, Ok, Err}
use Prim.Native.Nat.{ℕ, ◌+◌}
use mathlib.Core.Bool.{Bool, true, false}
use mathlib.Core.List.{List}
use mathlib.Core.Path.{◌≡◌, refl, ap, sym, ◌∙◌}
use native.Mathlib.Omega.{arith}
use lib.ListN.{length, take}
use lib.Dec.{leb, eqb}
use borrow.Author.Tests.{eq-eqb, ne_eqb}
use Rattle.crc.specs.Check.{Bytes}
use Rattle.codec.specs.Pick.{pick}
use Rattle.codec.specs.Sheet.{Answer, got, refused, and_then}
use Rattle.codec.specs.Refusals.{Gives}
use Rattle.codec.specs.Told.{bit}
use Rattle.codec.specs.declared.refusal.Refusal.{Refusal}
use Rattle.families.specs.Popup.{Popup, read_popup, write_popup, fitted}
use Rattle.families.specs.Fields.{popup_of, fields_of, whole, is_got}
use Rattle.families.specs.Screen.{ScreenSaid, started, ScreenIs, started_by}
use Rattle.families.specs.Places.{popup_at, PlacesIn, told_places, places_in, StoredIs}
use Rattle.families.specs.declared.screen.ScreenCommand.TheVariants.{PopupMessageStart}
use Rattle.families.specs.declared.screen.ScreenRead.{ScreenRead}
use Rattle.families.specs.declared.screen.ScreenPopupFields.{ScreenPopupFields}
use Rattle.families.specs.declared.popup.Places.{Places}
use Rattle.families.proofs.PlaceLaws.{places_end}
use Rattle.families.proofs.PopupLaws.{popup_forth}

-- ---- what a parse says
abbrev pub Parsed : List ℕ → ℕ → Places → Type 0
Parsed s at p = (read_popup s at ≡ got (popup_at s p)) × ((at + length (write_popup (popup_at s p)) ≡ p.values.next) × PlacesIn s at p)

pub places-from : (s : List ℕ) (at : ℕ) (p : Places) → (told_places s (Ok p) ≡ read_popup s at) × places_in s at (Ok p) → Parsed s at p
places-from s at p h = (sym h.0, (places_end s at p h.1, h.1))

-- ---- reading
fit_is : (q : Popup) (r : Result ScreenRead Refusal) → StoredIs (length (write_popup q)) (write_popup q) r → ScreenIs (and_then (fitted q) (λ p. got (started p))) r
fit_is q r h = by (leb (length (write_popup q)) 55) r h
  where
    by : (t : Bool) (r : Result ScreenRead Refusal)
        → Gives (λ x. x) (pick t (got (record { command = PopupMessageStart; popup = popup_of (write_popup q) })) (refused 1 0)) r
        → ScreenIs (and_then (pick t (got q) (refused 1 0)) (λ p. got (started p))) r
    by true (Ok x) g = g
    by true (Err k) g = g
    by false (Ok x) g = g
    by false (Err k) g = g

pub is_by : (a b : Answer ScreenSaid) (r : Result ScreenRead Refusal) → a ≡ b → ScreenIs b r → ScreenIs a r
is_by a b r e h = rw e h

-- what was read is what would be written: the bytes are stored as they are
pub screen_popup : (s : List ℕ) (n : ℕ) (q : Popup) (r : Result ScreenRead Refusal) → Bytes s → read_popup s 0 ≡ got q
    → 0 + length (write_popup q) ≡ n → StoredIs n (take n s) r → ScreenIs (started_by (read_popup s 0)) r
screen_popup s n q r y f g h =
    let w = popup_forth s 0 q y (omega arith) f in
    let l : n ≡ length (write_popup q) = omega arith in
    let k : StoredIs (length (write_popup q)) (write_popup q) r = rw (l, w.1.1) at h in
    is_by (started_by (read_popup s 0)) (and_then (fitted q) (λ p. got (started p))) r (ap started_by f) (fit_is q r k)

pub bit_is : (b : Bool) → eqb (bit b) 1 ≡ b
bit_is true = refl
bit_is false = refl

-- ---- inspection
got-pick : (t : Bool) (f : ScreenPopupFields) → is_got (pick t (got f) (refused 5 0)) ≡ t
got-pick true f = refl
got-pick false f = refl

pub whole_is : (s : List ℕ) (m n : ℕ) (q : Popup) → read_popup s 0 ≡ got q → 0 + length (write_popup q) ≡ n → eqb n m ≡ is_got (whole m (read_popup s 0))
whole_is s m n q e f =
    let l : length (write_popup q) ≡ n = omega arith in
    sym (ap (λ (a : Answer Popup). is_got (whole m a)) e ∙ got-pick (eqb (length (write_popup q)) m) (fields_of q) ∙ ap (λ (i : ℕ). eqb i m) l)

pub whole-there : (s : List ℕ) (n : ℕ) (q : Popup) → read_popup s 0 ≡ got q → 0 + length (write_popup q) ≡ n
    → n ≡ length s → whole (length s) (read_popup s 0) ≡ got (fields_of q)
whole-there s n q e f g =
    let l : length (write_popup q) ≡ length s = omega arith in
    ap (λ (a : Answer Popup). whole (length s) a) e ∙ rw (eq-eqb (length (write_popup q)) (length s) l)

pub whole_less : (s : List ℕ) (n : ℕ) (q : Popup) → read_popup s 0 ≡ got q → 0 + length (write_popup q) ≡ n
    → (n ≡ length s → ⊥) → whole (length s) (read_popup s 0) ≡ refused 5 0
whole_less s n q e f g =
    let l : length (write_popup q) ≡ n = omega arith in
    ap (λ (a : Answer Popup). whole (length s) a) e ∙ rw (l, ne_eqb n (length s) g)

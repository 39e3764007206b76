-- The table held against the sheets: the rows that a command is given are those that 01's list and its sheet give, for every field
-- number. Assumes nothing.
use Prim.Native.Nat.{ℕ, ◌+◌}
use mathlib.Core.Bool.{Bool, true, false}
use mathlib.Core.List.{List, [], ◌∷◌, map}
use mathlib.Core.Path.{◌≡◌, refl, ap, sym, ◌∙◌}
use native.Mathlib.Omega.{arith}
use lib.Dec.{eqb}
use borrow.Author.Tests.{eqb-true}
use Rattle.codec.specs.Pick.{pick}
use Rattle.codec.specs.Sheet.{Item, refused, byte}
use Rattle.codec.proofs.Back.{both}
use Rattle.families.specs.Popup.{popup}
use Rattle.families.specs.Body.{body_items, start_items}
use Rattle.families.specs.Payload.{family_id}
use Rattle.families.specs.declared.fc.FcCommand.TheVariants.{ForceDisarm, ScaleChannel}
use Rattle.families.specs.declared.vtx.VtxCommand.TheVariants.{SetFrequency, EnablePitModeOnPowerUp, PowerUpFromPitMode, SetDynamicPower, SetPower}
use Rattle.families.specs.declared.led.LedCommand.TheVariants.{SetDefault, OverrideColor, OverridePulse, OverrideBlink, OverrideShift}
use Rattle.families.specs.declared.general.GeneralCommand.TheVariants.{SpeedProposal, SpeedProposalResponse}
use Rattle.families.specs.declared.crossfire.CrossfireCommand.TheVariants.{SetReceiverInBindMode, CancelBindMode, SetBindId, ModelSelection, CurrentModelSelection, ReplyCurrentModelSelection, EnableRxTelemetry, DisableRxTelemetry, FactoryReset, ResetToFactoryFirmware}
use Rattle.families.specs.declared.flow_control.FlowControlCommand.TheVariants.{Subscribe, Unsubscribe}
use Rattle.families.specs.declared.screen.ScreenAdditionalData.{ScreenAdditionalData}
use Rattle.families.specs.declared.screen.ScreenAdditionalData.TheVariants.{Absent, Empty, Selection}
use Rattle.families.specs.declared.screen.ScreenCommand.TheVariants.{PopupMessageStart, SelectionReturnValue}
use Rattle.families.specs.declared.payload.CommandPayload.{CommandPayload}
use Rattle.families.specs.declared.payload.CommandPayload.TheVariants.{Fc, Osd, Vtx, Led, General, Crossfire, FlowControl, Screen, Ack}
use Rattle.edits.specs.Fields.{Listed, everywhere, listed, fields, spot_in}
use Rattle.edits.specs.Record.{sub_of}
use Rattle.edits.specs.Table.{Entry, number_listed, row_numbers, sheet_row, straight, searched, rows_of, index_for}
use Rattle.edits.specs.Layout.{layout_for}

-- ---- a number among numbers
abbrev among : ℕ → List ℕ → Bool
among f [] = false
among f (k ∷ ks) = pick (eqb f k) true (among f ks)

abbrev all_among : List ℕ → List ℕ → Bool
all_among [] ls = true
all_among (k ∷ ks) ls = pick (among k ls) (all_among ks ls) false

not-among : (f : ℕ) (ks ls : List ℕ) → all_among ks ls ≡ true → among f ls ≡ false → among f ks ≡ false
not-among f [] ls h n = refl
not-among f (k ∷ ks) ls h n = let b = both (among k ls) (all_among ks ls) h in by (eqb f k) refl b.0 (not-among f ks ls b.1 n)
  where
    by : (t : Bool) → eqb f k ≡ t → among k ls ≡ true → among f ks ≡ false → pick t true (among f ks) ≡ false
    by true e m go =
        let g : true ≡ false = sym m ∙ ap (λ (x : ℕ). among x ls) (sym (eqb-true f k e)) ∙ n in
        let z : ◌≡◌ {A = ℕ} 0 1 = cc in
        absurd (omega arith)
    by false e m go = go

-- what agrees on each of them agrees
heads : {A : Type 0} (a b : A) (s t : List A) → a ∷ s ≡ b ∷ t → (a ≡ b) × (s ≡ t)
heads a b s t d = (cc, cc)

agrees : {A : Type 0} (g h : ℕ → A) (ks : List ℕ) → map g ks ≡ map h ks → (f : ℕ) → among f ks ≡ true → g f ≡ h f
agrees g h [] e f n = let z : ◌≡◌ {A = ℕ} 0 1 = cc in absurd (omega arith)
agrees g h (k ∷ ks) e f n = let d = heads (g k) (h k) (map g ks) (map h ks) e in by (eqb f k) refl d.0 (agrees g h ks d.1 f) n
  where
    by : (t : Bool) → eqb f k ≡ t → g k ≡ h k → (among f ks ≡ true → g f ≡ h f) → pick t true (among f ks) ≡ true → g f ≡ h f
    by true d i go m = let q = eqb-true f k d in ap g q ∙ i ∙ sym (ap h q)
    by false d i go m = go m

-- ---- 01's numbers, and those of rows
abbrev numbers_in : List Listed → List ℕ
numbers_in l = map number_listed l

pub first-not : (a b : Bool) → pick a true b ≡ false → (a ≡ false) × (b ≡ false)
first-not true b h = let z : ◌≡◌ {A = ℕ} 0 1 = cc in absurd (omega arith)
first-not false b h = (refl, h)

unlisted : (l : List Listed) (id sub f : ℕ) → among f (numbers_in l) ≡ false → spot_in l id sub f ≡ refused 7 0
unlisted [] id sub f n = refl
unlisted (everywhere k i ∷ l) id sub f n = let p = first-not (eqb f k) (among f (numbers_in l)) n in rw p.0 (unlisted l id sub f p.1)
unlisted (listed k fam at j ∷ l) id sub f n = let p = first-not (eqb f k) (among f (numbers_in l)) n in rw p.0
    (unlisted l id sub f p.1)

unfound : (rs : List Entry) (f : ℕ) → among f (row_numbers rs) ≡ false → searched rs f ≡ refused 7 0
unfound [] f n = refl
unfound (r ∷ rs) f n = let p = first-not (eqb f r.number) (among f (row_numbers rs)) n in rw p.0 (unfound rs f p.1)

-- ---- THE test: on each of 01's numbers both give the same row
abbrev Tested : ℕ → ℕ → List Item → ℕ → ℕ → Type 0
Tested id sub is first end =
    (map (sheet_row id sub is) (numbers_in fields) ≡ map (searched (rows_of first end)) (numbers_in fields))
    × ((all_among (row_numbers (rows_of first end)) (numbers_in fields) ≡ true)
    × (map (straight id sub is) (numbers_in fields) ≡ map (λ (f : ℕ). true) (numbers_in fields)))

-- so on every number
abbrev pub Held : ℕ → ℕ → List Item → ℕ → ℕ → Type 0
Held id sub is first end =
    ((f : ℕ) → sheet_row id sub is f ≡ searched (rows_of first end) f) × ((f : ℕ) → straight id sub is f ≡ true)

tested : (id sub : ℕ) (is : List Item) (first end : ℕ) → Tested id sub is first end → Held id sub is first end
tested id sub is first end h = (λ f. rows f (among f (numbers_in fields)) refl, λ f. no-texts f (among f (numbers_in fields)) refl)
  where
    rows : (f : ℕ) (t : Bool) → among f (numbers_in fields) ≡ t → sheet_row id sub is f ≡ searched (rows_of first end) f
    rows f true e = agrees (sheet_row id sub is) (searched (rows_of first end)) (numbers_in fields) h.0 f e
    rows f false e =
        rw (unlisted fields id sub f e)
        (sym (unfound (rows_of first end) f (not-among f (row_numbers (rows_of first end)) (numbers_in fields) h.1.0
        e)))

    no-texts : (f : ℕ) (t : Bool) → among f (numbers_in fields) ≡ t → straight id sub is f ≡ true
    no-texts f true e = agrees (straight id sub is) (λ (k : ℕ). true) (numbers_in fields) h.1.1 f e
    no-texts f false e = rw (unlisted fields id sub f e)

-- a command's items, from the destination on
abbrev opening : List Item → List Item
opening is = byte ∷ byte ∷ byte ∷ is

-- ---- a popup has its rows by its kind
abbrev pub popup_last : ScreenAdditionalData → ℕ
popup_last Absent = 71
popup_last Empty = 71
popup_last Selection = 75

abbrev PopupTested : ScreenAdditionalData → Bool → List (List ℕ) → Type 0
PopupTested k p vs = Tested 0x22 0x01 (opening (start_items (popup k p vs))) (index_for 70) (index_for (popup_last k) + 1)

abbrev PopupHeld : ScreenAdditionalData → Bool → List (List ℕ) → Type 0
PopupHeld k p vs = Held 0x22 0x01 (opening (start_items (popup k p vs))) (index_for 70) (index_for (popup_last k) + 1)

pub popup-held : (k : ScreenAdditionalData) (p : Bool) (vs : List (List ℕ)) → PopupHeld k p vs
popup-held k p vs = tested 0x22 0x01 (opening (start_items (popup k p vs))) (index_for 70) (index_for (popup_last k) + 1) (test k p)
  where
    test : (k : ScreenAdditionalData) (p : Bool) → PopupTested k p vs
    test Absent true = (refl, (refl, refl))
    test Absent false = (refl, (refl, refl))
    test Empty true = (refl, (refl, refl))
    test Empty false = (refl, (refl, refl))
    test Selection true = (refl, (refl, refl))
    test Selection false = (refl, (refl, refl))

-- ---- every other command by its sub-command
abbrev pub NoPopup : CommandPayload → Type 0
NoPopup (Fc c) = Unit {0}
NoPopup (Osd c) = Unit {0}
NoPopup (Vtx c) = Unit {0}
NoPopup (Led c) = Unit {0}
NoPopup (General c) = Unit {0}
NoPopup (Crossfire c) = Unit {0}
NoPopup (FlowControl c) = Unit {0}
NoPopup (Screen PopupMessageStart) = ⊥
NoPopup (Screen (SelectionReturnValue value response)) = Unit {0}
NoPopup (Ack a) = Unit {0}

abbrev HeldFor : CommandPayload → List ℕ → ℕ → List ℕ → Type 0
HeldFor q t n s = Held (family_id q) (sub_of q) (opening (body_items q t)) (layout_for q n s).first (layout_for q n s).end

pub held : (q : CommandPayload) (t : List ℕ) (n : ℕ) (s : List ℕ) → NoPopup q → HeldFor q t n s
held q t n s h = tested (family_id q) (sub_of q) (opening (body_items q t)) (layout_for q n s).first (layout_for q n s).end (test q h)
  where
    test : (q : CommandPayload) → NoPopup q → Tested (family_id q) (sub_of q) (opening (body_items q t))
        (layout_for q n s).first (layout_for q n s).end
    test (Fc ForceDisarm) h = (refl, (refl, refl))
    test (Fc ScaleChannel) h = (refl, (refl, refl))
    test (Osd c) h = (refl, (refl, refl))
    test (Vtx (SetFrequency f)) h = (refl, (refl, refl))
    test (Vtx (EnablePitModeOnPowerUp m k w)) h = (refl, (refl, refl))
    test (Vtx PowerUpFromPitMode) h = (refl, (refl, refl))
    test (Vtx (SetDynamicPower p)) h = (refl, (refl, refl))
    test (Vtx (SetPower p)) h = (refl, (refl, refl))
    test (Led SetDefault) h = (refl, (refl, refl))
    test (Led (OverrideColor a)) h = (refl, (refl, refl))
    test (Led (OverridePulse d a b)) h = (refl, (refl, refl))
    test (Led (OverrideBlink d a b)) h = (refl, (refl, refl))
    test (Led (OverrideShift d a)) h = (refl, (refl, refl))
    test (General (SpeedProposal p b)) h = (refl, (refl, refl))
    test (General (SpeedProposalResponse p a)) h = (refl, (refl, refl))
    test (Crossfire SetReceiverInBindMode) h = (refl, (refl, refl))
    test (Crossfire CancelBindMode) h = (refl, (refl, refl))
    test (Crossfire SetBindId) h = (refl, (refl, refl))
    test (Crossfire (ModelSelection m)) h = (refl, (refl, refl))
    test (Crossfire CurrentModelSelection) h = (refl, (refl, refl))
    test (Crossfire (ReplyCurrentModelSelection m)) h = (refl, (refl, refl))
    test (Crossfire EnableRxTelemetry) h = (refl, (refl, refl))
    test (Crossfire DisableRxTelemetry) h = (refl, (refl, refl))
    test (Crossfire FactoryReset) h = (refl, (refl, refl))
    test (Crossfire ResetToFactoryFirmware) h = (refl, (refl, refl))
    test (FlowControl (Subscribe k i)) h = (refl, (refl, refl))
    test (FlowControl (Unsubscribe k)) h = (refl, (refl, refl))
    test (Screen PopupMessageStart) h = absurd h
    test (Screen (SelectionReturnValue v r)) h = (refl, (refl, refl))
    test (Ack a) h = (refl, (refl, refl))

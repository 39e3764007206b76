-- A body in range on a family's sheet is what some command says: of each family, that its inverse is one on that side too. Assumes nothing.
use Prim.Native.Nat.{ℕ, ◌≤◌}
use mathlib.Core.Bool.{Bool, true, false}
use mathlib.Core.List.{List, [], ◌∷◌}
use mathlib.Core.Path.{◌≡◌, refl}
use native.Mathlib.Omega.{arith}
use lib.Dec.{ltb, eqb}
use borrow.Author.Tests.{ltb-false, eqb-true}
use Rattle.codec.specs.Pick.{pick}
use Rattle.codec.specs.Sheet.{Field, field, Item, packed, text, Row, row, said}
use Rattle.codec.specs.Reading.{within}
use Rattle.codec.specs.Writing.{ok_item, ok_items, items_of}
use Rattle.codec.specs.Sound.{has_row}
use Rattle.codec.specs.Told.{bit}
use Rattle.codec.proofs.Back.{both, passed}
use Rattle.codec.proofs.Items.{flag-bit}
use Rattle.families.specs.Sheets.{fc_rows, osd_rows, vtx_rows, led_rows, general_rows, crossfire_rows, flow_rows, screen_rows}
use Rattle.families.specs.Fc.{fc_says, fc_of}
use Rattle.families.specs.Osd.{osd_says, osd_of}
use Rattle.families.specs.Vtx.{vtx_says, vtx_of}
use Rattle.families.specs.Led.{led_says, led_of}
use Rattle.families.specs.General.{general_says, general_of}
use Rattle.families.specs.Crossfire.{crossfire_says, crossfire_of}
use Rattle.families.specs.FlowControl.{flow_says, flow_of}
use Rattle.families.specs.Screen.{return_of}
use Rattle.families.specs.declared.screen.ScreenCommand.TheVariants.{SelectionReturnValue}

-- ---- What is to be shown of every body in range on a sheet: a case for each row, over a number for each field, at most its greatest, and any text
abbrev OfFields : List Field → (List ℕ → Type 0) → Type 0
OfFields [] P = P []
OfFields (field b lo hi ∷ fs) P = (n : ℕ) → n ≤ hi → OfFields fs (λ ns. P (n ∷ ns))

abbrev OfItems : List Item → (List (List ℕ) → Type 0) → Type 0
OfItems [] P = P []
OfItems (packed w fs ∷ is) P = OfFields fs (λ v. OfItems is (λ vs. P (v ∷ vs)))
OfItems (text least most ∷ is) P = (v : List ℕ) → OfItems is (λ vs. P (v ∷ vs))

abbrev OfRows : List Row → (ℕ → List (List ℕ) → Type 0) → Type 0
OfRows [] P = Unit {0}
OfRows (row k is ∷ rs) P = OfItems is (P k) × OfRows rs P

-- ---- and it then holds
of_fields : (fs : List Field) (P : List ℕ → Type 0) (v : List ℕ) → OfFields fs P → within fs v ≡ true → P v
of_fields [] P [] p h = p
of_fields [] P (n ∷ ns) p h = let z : ◌≡◌ {A = ℕ} 0 1 = cc in absurd (omega arith)
of_fields (field b lo hi ∷ fs) P [] p h = let z : ◌≡◌ {A = ℕ} 0 1 = cc in absurd (omega arith)
of_fields (field b lo hi ∷ fs) P (n ∷ ns) p h =
    let l = passed (ltb n lo) (pick (ltb hi n) false (within fs ns)) h in
    let g = passed (ltb hi n) (within fs ns) l.1 in
    of_fields fs (λ ms. P (n ∷ ms)) ns (p n (ltb-false hi n g.0)) g.1

of-items : (is : List Item) (P : List (List ℕ) → Type 0) (vs : List (List ℕ)) → OfItems is P → ok_items is vs ≡ true → P vs
of-items [] P [] p h = p
of-items [] P (v ∷ vs) p h = let z : ◌≡◌ {A = ℕ} 0 1 = cc in absurd (omega arith)
of-items (i ∷ is) P [] p h = let z : ◌≡◌ {A = ℕ} 0 1 = cc in absurd (omega arith)
of-items (packed w fs ∷ is) P (v ∷ vs) p h =
    let o = both (within fs v) (ok_items is vs) h in
    of-items is (λ ws. P (v ∷ ws)) vs (of_fields fs (λ u. OfItems is (λ ws. P (u ∷ ws))) v p o.0) o.1
of-items (text least most ∷ is) P (v ∷ vs) p h =
    let o = both (ok_item (text least most) v) (ok_items is vs) h in of-items is (λ ws. P (v ∷ ws)) vs (p v) o.1

of-rows : (rs : List Row) (P : ℕ → List (List ℕ) → Type 0) → OfRows rs P
    → (sub : ℕ) (vs : List (List ℕ)) → has_row rs sub ≡ true → ok_items (items_of rs sub) vs ≡ true → P sub vs
of-rows [] P p sub vs h o = let z : ◌≡◌ {A = ℕ} 0 1 = cc in absurd (omega arith)
of-rows (row k is ∷ rs) P p sub vs h o = by (eqb sub k) refl h o (of-rows rs P p.1 sub vs)
  where
    by : (t : Bool) → eqb sub k ≡ t → pick t true (has_row rs sub) ≡ true → ok_items (pick t is (items_of rs sub)) vs ≡ true
        → (has_row rs sub ≡ true → ok_items (items_of rs sub) vs ≡ true → P sub vs) → P sub vs
    by true e h o go = rw (eqb-true sub k e) (of-items is (P k) vs p.0 o)
    by false e h o go = go h o

-- ---- 0x01 FC
pub fc_said : (sub : ℕ) (vs : List (List ℕ)) → has_row fc_rows sub ≡ true → ok_items (items_of fc_rows sub) vs ≡ true
    → fc_says (fc_of (said sub vs)) ≡ said sub vs
fc_said = of-rows fc_rows _ (refl, (refl, tt))

-- ---- 0x05 OSD
pub osd_said : (sub : ℕ) (vs : List (List ℕ)) → has_row osd_rows sub ≡ true → ok_items (items_of osd_rows sub) vs ≡ true
    → osd_says (osd_of (said sub vs)) ≡ said sub vs
osd_said = of-rows osd_rows _ (λ buttons _. refl, tt)

-- ---- 0x08 VTX: the flag of the pit byte is 0 or 1
pub vtx_said : (sub : ℕ) (vs : List (List ℕ)) → has_row vtx_rows sub ≡ true → ok_items (items_of vtx_rows sub) vs ≡ true
    → vtx_says (vtx_of (said sub vs)) ≡ said sub vs
vtx_said = of-rows vtx_rows _
    (λ f _. refl, (λ switch _ control _ mode h. rw (flag-bit mode h), (refl, (λ p _. refl, (λ p _. refl, tt)))))

-- ---- 0x09 LED
pub led_said : (sub : ℕ) (vs : List (List ℕ)) → has_row led_rows sub ≡ true → ok_items (items_of led_rows sub) vs ≡ true
    → led_says (led_of (said sub vs)) ≡ said sub vs
led_said = of-rows led_rows _
    (refl, (λ h _ s _ v _. refl, (λ t _ h _ s _ v _ h' _ s' _ v' _. refl, (λ t _ h _ s _ v _ h' _ s' _ v' _. refl, (λ t _ h _ s _ v _. refl, tt)))))

-- ---- 0x0A General
pub general_said : (sub : ℕ) (vs : List (List ℕ)) → has_row general_rows sub ≡ true → ok_items (items_of general_rows sub) vs ≡ true
    → general_says (general_of (said sub vs)) ≡ said sub vs
general_said = of-rows general_rows _ (λ port _ baud _. refl, (λ port _ accepted h. rw (flag-bit accepted h), tt))

-- ---- 0x10 Crossfire
pub crossfire_said : (sub : ℕ) (vs : List (List ℕ)) → has_row crossfire_rows sub ≡ true → ok_items (items_of crossfire_rows sub) vs ≡ true
    → crossfire_says (crossfire_of (said sub vs)) ≡ said sub vs
crossfire_said = of-rows crossfire_rows _
    (refl, (refl, (refl, (refl, (refl, (refl, (refl, (refl, (λ model _. refl, (λ model _. refl, tt))))))))))

-- ---- 0x20 Flow control
pub flow_said : (sub : ℕ) (vs : List (List ℕ)) → has_row flow_rows sub ≡ true → ok_items (items_of flow_rows sub) vs ≡ true
    → flow_says (flow_of (said sub vs)) ≡ said sub vs
flow_said = of-rows flow_rows _ (λ frame _ interval _. refl, (λ frame _. refl, tt))

-- ---- 0x22 Screen: the returned value
pub return-said : (sub : ℕ) (vs : List (List ℕ)) → has_row screen_rows sub ≡ true → ok_items (items_of screen_rows sub) vs ≡ true
    → (value : ℕ) × ((response : Bool) × ((return_of (said sub vs) ≡ SelectionReturnValue value response)
    × (said sub vs ≡ said 0x02 ((value ∷ []) ∷ (bit response ∷ []) ∷ []))))
return-said = of-rows screen_rows _ (λ value _ response h. (value, (eqb response 1, (refl, rw (flag-bit response h)))), tt)

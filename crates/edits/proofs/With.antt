-- A command with one item changed is as sound as the command before it, and says just what it is to say. Assumes nothing.
use Prim.Native.Nat.{ℕ, zero, suc, ◌+◌, ◌-◌, ◌≤◌, ◌<◌}
use mathlib.Core.Bool.{Bool, true, false}
use mathlib.Core.List.{List, [], ◌∷◌}
use mathlib.Core.Path.{◌≡◌, refl, ap, sym, subst, ◌∙◌}
use native.Mathlib.Omega.{arith}
use lib.ListN.{length, take, get_or, set, replicate, length-append, length-replicate}
use lib.Seq.{sets, length-sets, get_or-set_other}
use lib.Dec.{ltb, leb, eqb}
use borrow.Author.Tests.{ltb-true, ltb-false, leb-true, eqb-true}
use Rattle.crc.specs.Check.{Bytes}
use Rattle.codec.specs.Pick.{pick}
use Rattle.codec.specs.Digits.{join, bytes_of}
use Rattle.codec.specs.Sheet.{Field, field, Item, packed, text, Row, Said, said, Answer, got, refused, and_then, byte, widths, size_of, first}
use Rattle.codec.specs.Writing.{nonzero, ok_item, ok_items, item_bytes, write_items, items_of}
use Rattle.codec.specs.Sound.{sound_items, sound_rows, has_row, known}
use Rattle.codec.specs.Edit.{set_value, place_of, in_field}
use Rattle.crc.proofs.Zeros.{bytes-zeros}
use Rattle.crc.proofs.Laws.{bytes_take, bytes_append}
use Rattle.codec.proofs.Back.{both, joined, passed, sound-of}
use Rattle.codec.proofs.Forth.{digit_bytes}
use Rattle.codec.proofs.Packed.{byte_ok}
use Rattle.codec.proofs.Patch.{items-set, ok_length, patch_ok}
use Rattle.codec.proofs.Joins.{Each, none, one, each_of}
use Rattle.families.specs.Sheets.{fc_rows, osd_rows, vtx_rows, led_rows, general_rows, crossfire_rows, flow_rows, screen_rows}
use Rattle.families.specs.Fc.{fc_says, fc_of}
use Rattle.families.specs.Osd.{osd_says, osd_of}
use Rattle.families.specs.Vtx.{vtx_says, vtx_of}
use Rattle.families.specs.Led.{led_says, led_of}
use Rattle.families.specs.General.{general_says, general_of}
use Rattle.families.specs.Crossfire.{crossfire_says, crossfire_of}
use Rattle.families.specs.FlowControl.{flow_says, flow_of}
use Rattle.families.specs.Text.{padded, made_bytes}
use Rattle.families.specs.Ack.{ack_items, ack_says, ack_of, made_information}
use Rattle.families.specs.Popup.{Popup, popup, popup_items, alone, ok_popup, write_popup}
use Rattle.families.specs.Fields.{popup_says, popup_of, is_got, made_popup}
use Rattle.families.specs.Screen.{return_of}
use Rattle.families.specs.Body.{said_items, said_values, popup_in, start_items, start_values, return_says, body_items, body_values}
use Rattle.families.specs.Payload.{family_id}
use Rattle.families.specs.declared.screen.ScreenAdditionalData.{ScreenAdditionalData}
use Rattle.families.specs.declared.screen.ScreenAdditionalData.TheVariants.{Absent, Empty, Selection}
use Rattle.families.specs.declared.screen.ScreenCommand.{ScreenCommand}
use Rattle.families.specs.declared.screen.ScreenCommand.TheVariants.{PopupMessageStart, SelectionReturnValue}
use Rattle.families.specs.declared.screen.ScreenPopup.{ScreenPopup}
use Rattle.families.specs.declared.screen.ScreenPopupFields.{ScreenPopupFields}
use Rattle.families.specs.declared.ack.CommandAck.{CommandAck}
use Rattle.families.specs.declared.payload.CommandPayload.{CommandPayload}
use Rattle.families.specs.declared.payload.CommandPayload.TheVariants.{Fc, Osd, Vtx, Led, General, Crossfire, FlowControl, Screen, Ack}
use Rattle.families.proofs.RoundTrip.{fc_known, osd_known, vtx_known, led_known, general_known, crossfire_known, flow_known}
use Rattle.families.proofs.Said.{fc_said, osd_said, vtx_said, led_said, general_said, crossfire_said, flow_said, return-said}
use Rattle.families.proofs.TextLaws.{made-padded, made-stands}
use Rattle.families.proofs.Made.{inspect-of, made_decided, single_of, constructed}
use Rattle.families.proofs.Answered.{unpadded}
use Rattle.commands.specs.Command.{with_stored, command_of, stored_in, made_none, made_beside, made}
use Rattle.commands.specs.Writing.{payload_of}
use Rattle.commands.specs.declared.DirectCommands.{DirectCommands}
use Rattle.commands.proofs.Promised.{Sound, payload-laid, id_byte, popup_in_lem}
use Rattle.edits.specs.Fields.{spot, Standing, of, Listed, everywhere, listed, fields, item_in, spot_in}
use Rattle.edits.specs.Record.{said_sub, sub_of, items_in, values_in, said_by, payload_with, popup_with, stored_with}
use Rattle.edits.specs.Edit.{field_of, field_at, spot_of, with_field}

-- ---- all items of the payload are in range
pub items_ok : (c : DirectCommands) → Sound c → ok_items (items_in c) (values_in c) ≡ true
items_ok c s =
    joined _ _ (byte_ok c.dst_addr s.destination)
    (joined _ _ (byte_ok c.src_addr s.source) (joined _ _ (byte_ok (family_id c.payload) (id_byte c.payload)) s.in_range))

-- ---- each item is sound
said-sound : (rs : List Row) (b : Said) → sound_rows rs ≡ true → sound_items (said_items rs b) ≡ true
said-sound rs (said sub vs) h = sound-of rs sub h

popup-sound : (k : ScreenAdditionalData) (p : Bool) → sound_items (popup_items k p) ≡ true
popup-sound Absent true = refl
popup-sound Absent false = refl
popup-sound Empty true = refl
popup-sound Empty false = refl
popup-sound Selection true = refl
popup-sound Selection false = refl

start-sound : (q : Popup) → sound_items (start_items q) ≡ true
start-sound (popup k p vs) = popup-sound k p

body-sound : (p : CommandPayload) (t : List ℕ) → sound_items (body_items p t) ≡ true
body-sound (Fc c) t = said-sound fc_rows (fc_says c) refl
body-sound (Osd c) t = said-sound osd_rows (osd_says c) refl
body-sound (Vtx c) t = said-sound vtx_rows (vtx_says c) refl
body-sound (Led c) t = said-sound led_rows (led_says c) refl
body-sound (General c) t = said-sound general_rows (general_says c) refl
body-sound (Crossfire c) t = said-sound crossfire_rows (crossfire_says c) refl
body-sound (FlowControl c) t = said-sound flow_rows (flow_says c) refl
body-sound (Screen PopupMessageStart) t = start-sound (popup_in t)
body-sound (Screen (SelectionReturnValue value response)) t = said-sound screen_rows (return_says value response) refl
body-sound (Ack a) t = refl

pub items-sound : (c : DirectCommands) → sound_items (items_in c) ≡ true
items-sound c = body-sound c.payload (stored_in c)

-- ---- "The payload's own command id and the sub-command are no fields": neither 2, nor 3 unless in an ACK
abbrev pub free_in : ℕ → ℕ → Bool
free_in id i = pick (eqb i 2) false (pick (eqb id 0xFF) true (pick (eqb i 3) false true))

abbrev pub Free : DirectCommands → ℕ → Type 0
Free c i = free_in (family_id c.payload) i ≡ true

-- of 01's list, by one test of it
abbrev stand_free : ℕ → List Standing → Bool
stand_free id [] = true
stand_free id (of k i ∷ l) = pick (free_in id i) (stand_free id l) false

abbrev list_free : List Listed → Bool
list_free [] = true
list_free (everywhere k i ∷ l) = pick (ltb i 2) (list_free l) false
list_free (listed k id at j ∷ l) = pick (stand_free id at) (list_free l) false

both_true : (t : Bool) → pick t true true ≡ true
both_true true = refl
both_true false = refl

low_free : (id i : ℕ) → i < 2 → free_in id i ≡ true
low_free id zero h = both_true (eqb id 0xFF)
low_free id (suc zero) h = both_true (eqb id 0xFF)
low_free id (suc (suc i)) h = absurd (omega arith)

stand_free_lem : (id sub i : ℕ) (l : List Standing) → stand_free id l ≡ true → item_in l sub ≡ got i → free_in id i ≡ true
stand_free_lem id sub i [] h e = let z : ◌≡◌ {A = ℕ} 0 1 = cc in absurd (omega arith)
stand_free_lem id sub i (of k x ∷ l) h e =
    let o = both (free_in id x) (stand_free id l) h in
    by (eqb sub k) o.0 (stand_free_lem id sub i l o.1) e
  where
    by : (t : Bool) → free_in id x ≡ true → (item_in l sub ≡ got i → free_in id i ≡ true)
        → pick t (got x) (item_in l sub) ≡ got i → free_in id i ≡ true
    by true o go g = let d : x ≡ i = cc in rw (← d) o
    by false o go g = go g

list_free_lem : (l : List Listed) (id sub f i j : ℕ) → list_free l ≡ true → spot_in l id sub f ≡ got (spot i j) → free_in id i ≡ true
list_free_lem [] id sub f i j h e = let z : ◌≡◌ {A = ℕ} 0 1 = cc in absurd (omega arith)
list_free_lem (everywhere k x ∷ l) id sub f i j h e =
    let o = both (ltb x 2) (list_free l) h in by (eqb f k) (low_free id x (ltb-true x 2 o.0)) (list_free_lem l id sub f i j o.1) e
  where
    by : (t : Bool) → free_in id x ≡ true → (spot_in l id sub f ≡ got (spot i j) → free_in id i ≡ true)
        → pick t (got (spot x 0)) (spot_in l id sub f) ≡ got (spot i j) → free_in id i ≡ true
    by true o go g = let d : x ≡ i = cc in rw (← d) o
    by false o go g = go g
list_free_lem (listed k family at y ∷ l) id sub f i j h e =
    let o = both (stand_free family at) (list_free l) h in by (eqb f k) (eqb id family) refl o.0 (list_free_lem l id sub f i j o.1) e
  where
    here : (a : Answer ℕ) → item_in at sub ≡ a → id ≡ family → stand_free family at ≡ true
        → and_then a (λ x. got (spot x y)) ≡ got (spot i j) → free_in id i ≡ true
    here (got x) p q o g = let d : x ≡ i = cc in rw (← d, q) (stand_free_lem family sub x at o p)
    here (refused n m) p q o g = let z : ◌≡◌ {A = ℕ} 0 1 = cc in absurd (omega arith)

    by : (t u : Bool) → eqb id family ≡ u → stand_free family at ≡ true → (spot_in l id sub f ≡ got (spot i j) → free_in id i ≡ true)
        → pick t (pick u (and_then (item_in at sub) (λ x. got (spot x y))) (refused 7 0)) (spot_in l id sub f) ≡ got (spot i j)
        → free_in id i ≡ true
    by true true p o go g = here (item_in at sub) refl (eqb-true id family p) o g
    by true false p o go g = let z : ◌≡◌ {A = ℕ} 0 1 = cc in absurd (omega arith)
    by false u p o go g = go g

pub spot_free : (c : DirectCommands) (f i j : ℕ) → spot_of c f ≡ got (spot i j) → Free c i
spot_free c f i j e = list_free_lem fields (family_id c.payload) (sub_of c.payload) f i j refl e

-- ---- THE BODY WITH OTHER VALUES, in range and of the same sub-command: the payload and the bytes beside it say just these
abbrev Says : CommandPayload → List ℕ → List (List ℕ) → CommandPayload → List ℕ → Type 0
Says p t us p' t' =
    ((body_items p' t' ≡ body_items p t) × ((body_values p' t' ≡ us) × (sub_of p' ≡ sub_of p)))
    × ((family_id p' ≡ family_id p) × (made_beside p' (length t') (padded 55 t') ≡ true))

-- a body of a sheet
abbrev SaysAgain : List Row → Said → List (List ℕ) → Said → Type 0
SaysAgain rows b us b' = (said_items rows b' ≡ said_items rows b) × ((said_values b' ≡ us) × (said_sub b' ≡ said_sub b))

abbrev Law : List Row → (Said → Said) → Type 0
Law rows again = (sub : ℕ) (vs : List (List ℕ)) → has_row rows sub ≡ true → ok_items (items_of rows sub) vs ≡ true
    → again (said sub vs) ≡ said sub vs

said_with : (rows : List Row) (again : Said → Said) → Law rows again → (b : Said) → known rows b ≡ true → (us : List (List ℕ))
    → ok_items (said_items rows b) us ≡ true → get_or us 0 [] ≡ said_sub b ∷ [] → SaysAgain rows b us (again (said_by us))
said_with rows again law (said sub vs) k [] o e = let z : ◌≡◌ {A = ℕ} 0 1 = cc in absurd (omega arith)
said_with rows again law (said sub vs) k (u ∷ us) o e =
    let r = (both (has_row rows sub) (pick (ltb sub 256) (eqb (length (items_of rows sub)) (length vs)) false) k).0 in
    let w = (both (ok_item byte u) (ok_items (items_of rows sub) us) o).1 in
    let a : again (said (first u) us) ≡ said sub us = ap (λ (v : List ℕ). again (said (first v) us)) e ∙ law sub us r w in
    (ap (λ (d : Said). said_items rows d) a, (ap said_values a ∙ ap (λ (v : List ℕ). v ∷ us) (sym e), ap said_sub a))

-- a returned value
abbrev returned_by : ScreenCommand → Said
returned_by PopupMessageStart = said 0x01 []
returned_by (SelectionReturnValue value response) = return_says value response

return_law : Law screen_rows (λ b. returned_by (return_of b))
return_law sub vs r o = let y = return-said sub vs r o in ap returned_by y.1.1.0 ∙ sym y.1.1.1

-- an ACK
ack_with_lem : (us : List (List ℕ)) → Each ack_items us
    → (ack_says (ack_of us) (get_or us 3 []) ≡ us) × (made_information (length (get_or us 3 [])) (padded 55 (get_or us 3 [])) ≡ true)
ack_with_lem us (one {v = v1} p1 (one {v = v2} p2 (one {v = v3} p3 (one {v = v4} p4 none)))) =
    let m = both (leb (length v4) 52) (nonzero v4) p4 in (
      rw ((single_of 0 255 v1 p1).0, (single_of 0 255 v2 p2).0, (single_of 0 1 v3 p3).0),
      made-padded 52 55 v4 m.1
          (leb-true (length v4) 52 m.0),
    )

-- a popup
popup_again : (k : ScreenAdditionalData) (p : Bool) (vs : List (List ℕ)) → ok_popup (popup k p vs) ≡ true
    → length (write_popup (popup k p vs)) ≤ 55
    → (popup_in (write_popup (popup k p vs)) ≡ popup k p vs) × (made_popup (popup_of (write_popup (popup k p vs))) ≡ true)
popup_again k p vs o l = (popup_in_lem (popup k p vs) o l, ap (λ (a : Answer ScreenPopupFields). is_got a) (inspect-of k p vs o l))

-- n bytes that stand at the front of b, zeros after
abbrev pub Stand : ℕ → List ℕ → Type 0
Stand n b = (n ≤ 55) × ((length (take n b) ≡ n) × (padded 55 (take n b) ≡ b))

-- the popup that is kept in them
abbrev pub Kept : ℕ → List ℕ → Type 0
Kept n b = (ok_popup (popup_in (take n b)) ≡ true) × ((write_popup (popup_in (take n b)) ≡ take n b) × Stand n b)

kept_by : (n : ℕ) (b : List ℕ) (q : Popup) → ok_popup q ≡ true → length (write_popup q) ≤ 55
    → ◌≡◌ {A = ScreenPopup} (record { len = n; bytes = b }) (popup_of (write_popup q)) → Kept n b
kept_by n b q o k e =
    let t : take n b ≡ write_popup q = ap (λ (x : ScreenPopup). take x.len x.bytes) e ∙ unpadded (write_popup q) in
    let l : length (write_popup q) ≡ n = sym (ap (λ (x : ScreenPopup). x.len) e) in
    let p : popup_in (take n b) ≡ q = ap popup_in t ∙ popup_in_lem q o k in (
      ap ok_popup p ∙ o,
      (
        ap write_popup p ∙ sym t,
        (
          omega (arith, l, k),
          (
            ap (λ (x : List ℕ). length x) t ∙ l,
            ap (λ (x : List ℕ). padded 55 x) t
                ∙ sym (ap (λ (x : ScreenPopup). x.bytes) e),
          ),
        ),
      ),
    )

pub popup-kept : (n : ℕ) (b : List ℕ) → Bytes b → length b ≡ 55 → made_popup (record { len = n; bytes = b }) ≡ true → Kept n b
popup-kept n b y l m =
    let d = made_decided (record { len = n; bytes = b }) y l m in
    let g = constructed d.0 (record { len = n; bytes = b }) d.1 in
    kept_by n b (popup_says d.0) g.0 g.1.0 g.1.1

start_with : (t : List ℕ) (us : List (List ℕ)) → ok_popup (popup_in t) ≡ true → ok_items (start_items (popup_in t)) us ≡ true
    → get_or us 0 [] ≡ 0x01 ∷ []
    → length (popup_with (popup_in t) us) ≤ 55 → Says (Screen PopupMessageStart) t us (Screen PopupMessageStart) (popup_with (popup_in t) us)
start_with t [] k o e l = let z : ◌≡◌ {A = ℕ} 0 1 = cc in absurd (omega arith)
start_with t (u ∷ us) k o e l = let r = by (popup_in t) k o l in ((r.0, (r.1.0, refl)), (refl, r.1.1))
  where
    by : (q : Popup) → ok_popup q ≡ true → ok_items (start_items q) (u ∷ us) ≡ true → length (popup_with q (u ∷ us)) ≤ 55
        → (start_items (popup_in (popup_with q (u ∷ us))) ≡ start_items q)
        × ((start_values (popup_in (popup_with q (u ∷ us))) ≡ u ∷ us) × (made_popup (popup_of (popup_with q (u ∷ us))) ≡ true))
    by (popup c p vs) k o l =
        let a = (passed (alone c p) (ok_items (popup_items c p) vs) k).0 in
        let w = (both (ok_item byte u) (ok_items (popup_items c p) us) o).1 in
        let r = popup_again c p us (rw a w) l in
        (ap start_items r.0, (ap start_values r.0 ∙ ap (λ (v : List ℕ). v ∷ us) (sym e), r.1))

-- of every family
body_with : (p : CommandPayload) (n : ℕ) (b : List ℕ) (us : List (List ℕ)) → Bytes b → length b ≡ 55 → made_beside p n b ≡ true
    → ok_items (body_items p (take n b)) us ≡ true → ((family_id p ≡ 0xFF → ⊥) → get_or us 0 [] ≡ sub_of p ∷ [])
    → length (stored_with p (take n b) us) ≤ 55
    → Says p (take n b) us (payload_with p us) (stored_with p (take n b) us)
body_with (Fc c) n b us y z m o e l =
    (said_with fc_rows (λ d. fc_says (fc_of d)) fc_said (fc_says c) (fc_known c) us o (e (λ q. omega arith)), (refl, refl))
body_with (Osd c) n b us y z m o e l =
    (said_with osd_rows (λ d. osd_says (osd_of d)) osd_said (osd_says c) (osd_known c) us o (e (λ q. omega arith)), (refl, refl))
body_with (Vtx c) n b us y z m o e l =
    (said_with vtx_rows (λ d. vtx_says (vtx_of d)) vtx_said (vtx_says c) (vtx_known c) us o (e (λ q. omega arith)), (refl, refl))
body_with (Led c) n b us y z m o e l =
    (said_with led_rows (λ d. led_says (led_of d)) led_said (led_says c) (led_known c) us o (e (λ q. omega arith)), (refl, refl))
body_with (General c) n b us y z m o e l = (
  said_with general_rows (λ d. general_says (general_of d)) general_said (general_says c) (general_known c) us o
      (e (λ q. omega arith)),
  (refl, refl),
)
body_with (Crossfire c) n b us y z m o e l = (
  said_with crossfire_rows (λ d. crossfire_says (crossfire_of d)) crossfire_said (crossfire_says c) (crossfire_known c)
      us o (e (λ q. omega arith)),
  (refl, refl),
)
body_with (FlowControl c) n b us y z m o e l =
    (said_with flow_rows (λ d. flow_says (flow_of d)) flow_said (flow_says c) (flow_known c) us o (e (λ q. omega arith)), (refl, refl))
body_with (Screen PopupMessageStart) n b us y z m o e l = let k = popup-kept n b y z m in start_with (take n b) us
    k.0 o (e (λ q. omega arith)) l
body_with (Screen (SelectionReturnValue value response)) n b us y z m o e l =
    let r = said_with screen_rows (λ d. returned_by (return_of d)) return_law (return_says value response) refl us o (e (λ q. omega arith)) in
    ((r.0, (r.1.0, refl)), (refl, refl))
body_with (Ack a) n b us y z m o e l = let r = ack_with_lem us (each_of ack_items us o) in ((refl, (r.0, refl)), (refl, r.1))

-- ---- ONE VALUE SET: it stays in range, as long as it was, and bytes
bytes-set : (s : List ℕ) (i x : ℕ) → Bytes s → x < 256 → Bytes (set s i x)
bytes-set [] i x y h = tt
bytes-set (b ∷ s) zero x y h = (h, y.1)
bytes-set (b ∷ s) (suc i) x y h = (y.0, bytes-set s i x y.1 h)

bytes-sets : (w s : List ℕ) (i : ℕ) → Bytes s → Bytes w → Bytes (sets s i w)
bytes-sets [] s i y h = y
bytes-sets (x ∷ w) s i y h = bytes-sets w (set s i x) (suc i) (bytes-set s i x y h.0) h.1

padded-size : (t : List ℕ) → length t ≤ 55 → length (padded 55 t) ≡ 55
padded-size t h = rw (length-append t (replicate (55 - length t) 0), length-replicate {A = ℕ} (55 - length t) 0) (omega arith)

pub field-of : (w j : ℕ) (fs : List Field) (d : Field) → field_of (packed w fs) j ≡ got d → (j < length fs) × (get_or fs j (field 0 0 0) ≡ d)
field-of w j fs d h = by (ltb j (length fs)) refl h
  where
    by : (t : Bool) → ltb j (length fs) ≡ t → pick t (got (get_or fs j (field 0 0 0))) (refused 7 0) ≡ got d
        → (j < length fs) × (get_or fs j (field 0 0 0) ≡ d)
    by true e g = (ltb-true j (length fs) e, cc)
    by false e g = let z : ◌≡◌ {A = ℕ} 0 1 = cc in absurd (omega arith)

-- among items, item k has a field j: the item's bytes and its fields
pub record FieldIn (is : List Item) (k j : ℕ) (d : Field) : Type 0 where
  pub wide : ℕ
  pub all : List Field
  pub holds : get_or is k (text 0 0) ≡ packed wide all
  pub inside : k < length is
  pub within : j < length all
  pub this : get_or all j (field 0 0 0) ≡ d

pub field-there : (is : List Item) (k j : ℕ) (d : Field) → field_of (get_or is k (text 0 0)) j ≡ got d → FieldIn is k j d
field-there [] k j d e = let z : ◌≡◌ {A = ℕ} 0 1 = cc in absurd (omega arith)
field-there (packed w fs ∷ is) zero j d e =
    let x = field-of w j fs d e in
    record { wide = w; all = fs; holds = refl; inside = omega arith; within = x.0; this = x.1 }
field-there (text least most ∷ is) zero j d e = let z : ◌≡◌ {A = ℕ} 0 1 = cc in absurd (omega arith)
field-there (i ∷ is) (suc k) j d e =
    let t = field-there is k j d e in
    record { wide = t.wide; all = t.all; holds = t.holds; inside = omega (arith, t.inside); within = t.within; this = t.this }

set_with : (is : List Item) (vs : List (List ℕ)) (k j n : ℕ) (d : Field) → sound_items is ≡ true → ok_items is vs ≡ true
    → field_of (get_or is k (text 0 0)) j ≡ got d → in_field d n ≡ true
    → (ok_items is (set_value vs k j n) ≡ true)
    × ((length (write_items is (set_value vs k j n)) ≡ length (write_items is vs)) × (Bytes (write_items is vs)
    → Bytes (write_items is (set_value vs k j n))))
set_with is vs k j n d s o f h =
    let t = field-there is k j d f in
    let w = t.wide in
    let fs = t.all in
    let e = t.holds in
    let l = t.inside in
    let v = set (get_or vs k []) j n in
    let z : size_of (get_or is k (text 0 0)) v ≡ size_of (get_or is k (text 0 0)) (get_or vs k []) = rw e in
    let q = items-set is vs k v (ok_length is vs o) l z in
    let x : write_items is (set vs k v) ≡ sets (write_items is vs) (place_of is vs k) (bytes_of w (join (widths fs) v)) = rw e at q in (
      patch_ok is vs k j n w fs o s l e t.within (rw t.this h),
      (
        ap (λ (r : List ℕ). length r) q ∙ length-sets (write_items is vs) (place_of is vs k) (item_bytes (get_or is k (text 0 0)) v),
        λ y. subst Bytes (sym x) (bytes-sets (bytes_of w (join (widths fs) v)) (write_items is vs) (place_of is vs k) y
            (digit_bytes w (join (widths fs) v))),
      ),
    )

-- ---- the sub-command is the first value
said-first : (b : Said) → get_or (said_values b) 0 [] ≡ said_sub b ∷ []
said-first (said sub vs) = refl

sub-first : (p : CommandPayload) (t : List ℕ) → (family_id p ≡ 0xFF → ⊥) → get_or (body_values p t) 0 [] ≡ sub_of p ∷ []
sub-first (Fc c) t h = said-first (fc_says c)
sub-first (Osd c) t h = said-first (osd_says c)
sub-first (Vtx c) t h = said-first (vtx_says c)
sub-first (Led c) t h = said-first (led_says c)
sub-first (General c) t h = said-first (general_says c)
sub-first (Crossfire c) t h = said-first (crossfire_says c)
sub-first (FlowControl c) t h = said-first (flow_says c)
sub-first (Screen PopupMessageStart) t h = refl
sub-first (Screen (SelectionReturnValue value response)) t h = refl
sub-first (Ack a) t h = absurd (h refl)

-- ---- the bytes beside it: those that were there, and of a popup those of its values with one set
abbrev Beside : CommandPayload → List ℕ → List (List ℕ) → Type 0
Beside p t us = Bytes (stored_with p t us) × (length (stored_with p t us) ≤ 55)

stand_by : (most n : ℕ) (b : List ℕ) → made_bytes most n b ≡ true → length b ≡ 55 → most ≤ 55 → Stand n b
stand_by most n b m z l = let d = made-stands most 55 n b m z l in (omega (arith, d.0), (d.1.1.0, sym d.1.1.1))

none_stored : (n : ℕ) (b : List ℕ) → made_none n b ≡ true → length b ≡ 55 → ([] ≡ take n b) × Stand n b
none_stored n b m z = let d = made-stands 0 55 n b m z (omega arith) in
    (sym (empty (take n b) (omega (arith, d.0, d.1.1.0))), stand_by 0 n b m z (omega arith))
  where
    empty : (t : List ℕ) → length t ≤ 0 → t ≡ []
    empty [] h = refl
    empty (x ∷ t) h = absurd (omega arith)

pub stored_same : (p : CommandPayload) (n : ℕ) (b : List ℕ) → Bytes b → length b ≡ 55 → made_beside p n b ≡ true
    → (stored_with p (take n b) (body_values p (take n b)) ≡ take n b) × Stand n b
stored_same (Fc c) n b y z m = none_stored n b m z
stored_same (Osd c) n b y z m = none_stored n b m z
stored_same (Vtx c) n b y z m = none_stored n b m z
stored_same (Led c) n b y z m = none_stored n b m z
stored_same (General c) n b y z m = none_stored n b m z
stored_same (Crossfire c) n b y z m = none_stored n b m z
stored_same (FlowControl c) n b y z m = none_stored n b m z
stored_same (Screen PopupMessageStart) n b y z m = (popup-kept n b y z m).1
stored_same (Screen (SelectionReturnValue value response)) n b y z m = none_stored n b m z
stored_same (Ack a) n b y z m = (refl, stand_by 52 n b m z (omega arith))

beside_same : (p : CommandPayload) (n : ℕ) (b : List ℕ) → Bytes b → length b ≡ 55 → made_beside p n b ≡ true
    → Beside p (take n b) (body_values p (take n b))
beside_same p n b y z m =
    let r = stored_same p n b y z m in
    subst (λ (t : List ℕ). Bytes t × (length t ≤ 55)) (sym r.0) (bytes_take n b y, omega (arith, r.1.0, r.1.1.0))

start-set : (q : Popup) (k j n : ℕ) (d : Field) → ok_popup q ≡ true → Bytes (write_popup q) → length (write_popup q) ≤ 55
    → field_of (get_or (start_items q) (suc k) (text 0 0)) j ≡ got d → in_field d n ≡ true
    → Bytes (popup_with q (set_value (start_values q) (suc k) j n)) × (length (popup_with q (set_value (start_values q) (suc k) j n)) ≤ 55)
start-set (popup c p vs) k j n d o y l f h =
    let r = set_with (popup_items c p) vs k j n d (popup-sound c p) (passed (alone c p) (ok_items (popup_items c p) vs) o).1 f h in
    (r.1.1 y, omega (arith, r.1.0, l))

ack_set : (a : CommandAck) (t : List ℕ) (k j n : ℕ) (d : Field) → field_of (get_or ack_items k (text 0 0)) j ≡ got d
    → get_or (set_value (ack_says a t) k j n) 3 [] ≡ t
ack_set a t zero j n d f = refl
ack_set a t (suc zero) j n d f = refl
ack_set a t (suc (suc zero)) j n d f = refl
ack_set a t (suc (suc (suc zero))) j n d f = let z : ◌≡◌ {A = ℕ} 0 1 = cc in absurd (omega arith)
ack_set a t (suc (suc (suc (suc k)))) j n d f = refl

beside-set : (p : CommandPayload) (n : ℕ) (b : List ℕ) (k j m : ℕ) (d : Field) → Bytes b → length b ≡ 55 → made_beside p n b ≡ true
    → ((family_id p ≡ 0xFF → ⊥) → k ≡ 0 → ⊥) → field_of (get_or (body_items p (take n b)) k (text 0 0)) j ≡ got d → in_field d m ≡ true
    → Beside p (take n b) (set_value (body_values p (take n b)) k j m)
beside-set (Fc c) n b k j m d y z e g f h = (tt, omega arith)
beside-set (Osd c) n b k j m d y z e g f h = (tt, omega arith)
beside-set (Vtx c) n b k j m d y z e g f h = (tt, omega arith)
beside-set (Led c) n b k j m d y z e g f h = (tt, omega arith)
beside-set (General c) n b k j m d y z e g f h = (tt, omega arith)
beside-set (Crossfire c) n b k j m d y z e g f h = (tt, omega arith)
beside-set (FlowControl c) n b k j m d y z e g f h = (tt, omega arith)
beside-set (Screen PopupMessageStart) n b zero j m d y z e g f h = absurd (g (λ q. omega arith) refl)
beside-set (Screen PopupMessageStart) n b (suc k) j m d y z e g f h =
    let s = popup-kept n b y z e in
    let v = beside_same (Screen PopupMessageStart) n b y z e in
    start-set (popup_in (take n b)) k j m d s.0 v.0 v.1 f h
beside-set (Screen (SelectionReturnValue value response)) n b k j m d y z e g f h = (tt, omega arith)
beside-set (Ack a) n b k j m d y z e g f h =
    subst (λ (t : List ℕ). Bytes t × (length t ≤ 55)) (sym (ack_set a (take n b) k j m d f)) (beside_same (Ack a) n b y z e)

-- ---- THE COMMAND WITH OTHER VALUES
-- the length of a payload, from its items
pub length_is : (c : DirectCommands) → ok_items (body_items c.payload (stored_in c)) (body_values c.payload (stored_in c)) ≡ true
    → made c ≡ true → Bytes c.bytes → length c.bytes ≡ 55
    → length (payload_of c) ≡ length (write_items (body_items c.payload (stored_in c)) (body_values c.payload (stored_in c))) + 4
length_is c o m y l =
    let w = write_items (body_items c.payload (stored_in c)) (body_values c.payload (stored_in c)) in
    ap length (payload-laid c o m y l) ∙ ap (λ (n : ℕ). suc (suc (suc n))) (length-append w _) ∙ omega arith

-- c' is of the kind of c, says these values, and is sound
pub record Changed (c : DirectCommands) (vs : List (List ℕ)) (c' : DirectCommands) : Type 0 where
  pub items : items_in c' ≡ items_in c
  pub values : values_in c' ≡ vs
  pub family : family_id c'.payload ≡ family_id c.payload
  pub sub : sub_of c'.payload ≡ sub_of c.payload
  pub sound : Sound c'

-- what a field of one byte takes
byte-field : (j n : ℕ) (d : Field) → field_of byte j ≡ got d → in_field d n ≡ true → (j ≡ 0) × (n < 256)
byte-field zero n d f h =
    let e : d ≡ field 8 0 255 = cc in
    let k : in_field (field 8 0 255) n ≡ true = subst (λ (x : Field). in_field x n ≡ true) e h in
    let p = passed (ltb n 0) (pick (ltb 255 n) false true) k in
    (refl, omega (arith, ltb-false 255 n (passed (ltb 255 n) true p.1).0))
byte-field (suc j) n d f h = by (ltb (suc j) 1) refl f
  where
    by : (t : Bool) → ltb (suc j) 1 ≡ t
        → pick t (got (get_or (field 8 0 255 ∷ []) (suc j) (field 0 0 0))) (refused 7 0) ≡ got d → (suc j ≡ 0) × (n < 256)
    by true p g = absurd (omega (arith, ltb-true (suc j) 1 p))
    by false p g = let z : ◌≡◌ {A = ℕ} 0 1 = cc in absurd (omega arith)

not-sub : (id k : ℕ) → free_in id (suc (suc (suc k))) ≡ true → (id ≡ 0xFF → ⊥) → k ≡ 0 → ⊥
not-sub id zero f q z = by (eqb id 0xFF) refl f
  where
    by : (t : Bool) → eqb id 0xFF ≡ t → pick t true false ≡ true → ⊥
    by true e g = q (eqb-true id 0xFF e)
    by false e g = let z : ◌≡◌ {A = ℕ} 0 1 = cc in omega arith
not-sub id (suc k) f q z = omega arith

command_with : (c : DirectCommands) (dst src : ℕ) (us : List (List ℕ)) → Sound c → dst < 256 → src < 256
    → ok_items (body_items c.payload (stored_in c)) us ≡ true
    → ((family_id c.payload ≡ 0xFF → ⊥) → get_or us 0 [] ≡ sub_of c.payload ∷ [])
    → Beside c.payload (stored_in c) us
    → length (write_items (body_items c.payload (stored_in c)) us)
    ≡ length (write_items (body_items c.payload (stored_in c)) (body_values c.payload (stored_in c)))
    → Changed c ((dst ∷ []) ∷ (src ∷ []) ∷ (family_id c.payload ∷ []) ∷ us)
    (command_of dst src (with_stored (payload_with c.payload us) (stored_with c.payload (stored_in c) us)))
command_with c dst src us s d e o g y n =
    let p = c.payload in
    let t = stored_in c in
    let q = payload_with p us in
    let w = stored_with p t us in
    let x : DirectCommands = command_of dst src (with_stored q w) in
    let r = body_with p c.len c.bytes us s.stored s.size s.is_made o g y.1 in
    let k : stored_in x ≡ w = unpadded w in
    let i : body_items q (stored_in x) ≡ body_items p t = ap (λ (a : List ℕ). body_items q a) k ∙ r.0.0 in
    let v : body_values q (stored_in x) ≡ us = ap (λ (a : List ℕ). body_values q a) k ∙ r.0.1.0 in
    let ok : ok_items (body_items q (stored_in x)) (body_values q (stored_in x)) ≡ true =
    ap (λ (a : List Item). ok_items a (body_values q (stored_in x))) i ∙ (ap (λ (a : List (List ℕ)). ok_items (body_items p t) a) v ∙ o) in
    let same : length (write_items (body_items q (stored_in x)) (body_values q (stored_in x)))
    ≡ length (write_items (body_items p t) (body_values p t)) =
    ap (λ (a : List Item). length (write_items a (body_values q (stored_in x)))) i
    ∙ (ap (λ (a : List (List ℕ)). length (write_items (body_items p t) a)) v ∙ n) in
    let bs : Bytes (padded 55 w) = bytes_append w (replicate (55 - length w) 0) y.0 (bytes-zeros (55 - length w)) in
    let z = padded-size w y.1 in
    let long = length_is c s.in_range s.is_made s.stored s.size in
    let new = length_is x ok r.1.1 bs z in
    let short : length (payload_of x) ≤ 60 = omega (arith, long, new, same, s.short) in
    let sound : Sound x = record { destination = d; source = e; in_range = ok; is_made = r.1.1; stored = bs; size = z; short = short } in
    let f = r.1.0 in
    record {
      items = ap (λ (a : List Item). byte ∷ byte ∷ byte ∷ a) i;
      values =
          ap (λ (a : ℕ). (dst ∷ []) ∷ (src ∷ []) ∷ (a ∷ []) ∷ body_values q (stored_in x)) f
          ∙ ap (λ (a : List (List ℕ)). (dst ∷ []) ∷ (src ∷ []) ∷ (family_id p ∷ []) ∷ a) v;
      family = f;
      sub = r.0.1.1;
      sound = sound;
    }

-- THE law of one item set
pub with_field_lem : (c : DirectCommands) (i j n : ℕ) (d : Field) → Sound c → Free c i → field_at c (spot i j) ≡ got d → in_field d n ≡ true
    → Changed c (set_value (values_in c) i j n) (with_field c (spot i j) n)
with_field_lem c zero zero n d s f e h =
    command_with c n c.src_addr (body_values c.payload (stored_in c)) s (byte-field zero n d e h).1 s.source
    s.in_range (sub-first c.payload (stored_in c))
    (beside_same c.payload c.len c.bytes s.stored s.size s.is_made) refl
with_field_lem c zero (suc j) n d s f e h = absurd (omega (arith, (byte-field (suc j) n d e h).0))
with_field_lem c (suc zero) zero n d s f e h =
    command_with c c.dst_addr n (body_values c.payload (stored_in c)) s s.destination
    (byte-field zero n d e h).1 s.in_range (sub-first c.payload (stored_in c))
    (beside_same c.payload c.len c.bytes s.stored s.size s.is_made) refl
with_field_lem c (suc zero) (suc j) n d s f e h = absurd (omega (arith, (byte-field (suc j) n d e h).0))
with_field_lem c (suc (suc zero)) j n d s f e h = let z : ◌≡◌ {A = ℕ} 0 1 = cc in absurd (omega arith)
with_field_lem c (suc (suc (suc k))) j n d s f e h =
    let p = c.payload in
    let t = stored_in c in
    let vs = body_values p t in
    let r = set_with (body_items p t) vs k j n d (body-sound p t) s.in_range e h in
    let g = not-sub (family_id p) k f in
    command_with c c.dst_addr c.src_addr (set_value vs k j n) s s.destination s.source r.0
    (λ q. get_or-set_other vs k 0 (set (get_or vs k []) j n) [] (λ z. g q (sym z)) ∙ sub-first p t q)
    (beside-set p c.len c.bytes k j n d s.stored s.size s.is_made g e h) r.1.0

-- A payload as the writer makes it is served by the layout that the code finds; what is read of any other is refused. Assumes nothing.
use Rattle.std.specs.Prelude.{Result, Ok, Err}
use Prim.Native.Nat.{ℕ, suc, ◌+◌, ◌<◌, ◌≤◌}
use mathlib.Core.Bool.{Bool, true, false}
use mathlib.Core.List.{List, [], ◌∷◌, ◌++◌, append_assoc}
use mathlib.Core.Logic.{◌⊎◌, inl, inr}
use mathlib.Core.Path.{◌≡◌, refl, ap, sym, subst, ◌∙◌}
use native.Mathlib.Omega.{arith}
use lib.ListN.{length, take, get_or, length-append, get_or-eq_default}
use lib.Seq.{drop_at, get_or_at}
use lib.Dec.{ltb, leb, eqb}
use borrow.Author.Tests.{ltb-true, ltb-false, leb-true, eqb-true, eqb-false, lt-ltb, le-ltb}
use Rattle.crc.specs.Check.{command_polynomial, check_of, Bytes}
use Rattle.codec.specs.Pick.{pick}
use Rattle.codec.specs.Same.{same}
use Rattle.codec.specs.Sheet.{Item, text, Answer, got, refused, and_then, byte}
use Rattle.codec.specs.Reading.{read_item}
use Rattle.codec.specs.Writing.{nonzero, ok_item, ok_items, write_items}
use Rattle.codec.specs.Edit.{place_of}
use Rattle.codec.specs.Refusals.{number_in, refusal_number}
use Rattle.codec.specs.declared.refusal.Refusal.{Refusal}
use Rattle.codec.specs.declared.refusal.Refusal.TheVariants.{NotAsWritten}
use Rattle.codec.proofs.Back.{both, passed, item_back}
use Rattle.codec.proofs.Joins.{Each, none, one, each_of}
use Rattle.codec.proofs.Same.{same_true}
use Rattle.codec.proofs.There.{and_got}
use Rattle.families.specs.Sheets.{text_item}
use Rattle.families.specs.Popup.{Popup, popup, popup_items, selection_items, values_items, alone, ok_popup, write_popup}
use Rattle.families.specs.Body.{popup_in, start_items, start_values, body_items, body_values}
use Rattle.families.specs.Payload.{family_id}
use Rattle.families.specs.declared.fc.FcCommand.TheVariants.{ForceDisarm, ScaleChannel}
use Rattle.families.specs.declared.vtx.VtxCommand.{VtxCommand}
use Rattle.families.specs.declared.vtx.VtxCommand.TheVariants.{SetFrequency, EnablePitModeOnPowerUp, PowerUpFromPitMode, SetDynamicPower, SetPower}
use Rattle.families.specs.declared.led.LedCommand.TheVariants.{SetDefault, OverrideColor, OverridePulse, OverrideBlink, OverrideShift}
use Rattle.families.specs.declared.general.GeneralCommand.TheVariants.{SpeedProposal, SpeedProposalResponse}
use Rattle.families.specs.declared.crossfire.CrossfireCommand.TheVariants.{SetReceiverInBindMode, CancelBindMode, SetBindId, ModelSelection, CurrentModelSelection, ReplyCurrentModelSelection, EnableRxTelemetry, DisableRxTelemetry, FactoryReset, ResetToFactoryFirmware}
use Rattle.families.specs.declared.flow_control.FlowControlCommand.TheVariants.{Subscribe, Unsubscribe}
use Rattle.families.specs.declared.screen.ScreenAdditionalData.{ScreenAdditionalData}
use Rattle.families.specs.declared.screen.ScreenAdditionalData.TheVariants.{Absent, Empty, Selection}
use Rattle.families.specs.declared.screen.ScreenCommand.TheVariants.{PopupMessageStart, SelectionReturnValue}
use Rattle.families.specs.declared.payload.CommandPayload.{CommandPayload}
use Rattle.families.specs.declared.payload.CommandPayload.TheVariants.{Fc, Osd, Vtx, Led, General, Crossfire, FlowControl, Screen, Ack}
use Rattle.commands.specs.Command.{stored_in, made_beside}
use Rattle.commands.specs.Reading.{read_command}
use Rattle.commands.specs.Kind.{kind, kind_of, read_kind, told_kind}
use Rattle.commands.specs.Writing.{payload_of}
use Rattle.commands.specs.declared.DirectCommands.{DirectCommands}
use Rattle.commands.specs.declared.kind.KindRead.{KindRead}
use Rattle.commands.proofs.Forth.{read_writable}
use Rattle.commands.proofs.Promised.{Sound, items_laid, sound-laid, PitClear, written_clear, read_sound, as_written}
use Rattle.edits.specs.Record.{sub_of, stored_with, popup_with}
use Rattle.edits.specs.Edit.{open_command}
use Rattle.edits.specs.Table.{near_item, far_item}
use Rattle.edits.specs.Layout.{vtx_layout, place_after, after_text, shown, selection, popup_from, popup_layout, layout_for}
use Rattle.edits.specs.Opened.{ServesAs, Serves, vtx_pit, has_pit, fitting, unset, vtx_opening, Opens, OpensRead}
use Rattle.edits.specs.declared.layout.Layout.{Layout}
use Rattle.edits.proofs.Held.{popup-held, NoPopup, held}
use Rattle.edits.proofs.With.{popup-kept, stored_same, length_is}
use Rattle.edits.proofs.Places.{popup-selection, popup-shown}

-- ---- the layout tells the payload's length
popup-size : (n : ℕ) (s : List ℕ) (b : ℕ) → (popup_from n s b).size ≡ n + 5
popup-size n s b = by (ltb (b + 2) (n + 4)) (eqb (get_or s (b + 2) 0) 0)
  where
    by : (t u : Bool) → (pick t (pick u (shown n b) (selection n b (after_text s (b + 2)))) (shown n b)).size ≡ n + 5
    by true true = refl
    by true false = refl
    by false u = refl

start-length : (q : Popup) → length (write_items (start_items q) (start_values q)) ≡ suc (length (popup_with q (start_values q)))
start-length (popup k p vs) = refl

size-by : (q : CommandPayload) (n : ℕ) (t p : List ℕ) → stored_with q t (body_values q t) ≡ t → length t ≡ n
    → (layout_for q n p).size ≡ length (write_items (body_items q t) (body_values q t)) + 4
size-by (Fc ForceDisarm) n t p e l = refl
size-by (Fc ScaleChannel) n t p e l = refl
size-by (Osd c) n t p e l = refl
size-by (Vtx (SetFrequency f)) n t p e l = refl
size-by (Vtx (EnablePitModeOnPowerUp m k w)) n t p e l = refl
size-by (Vtx PowerUpFromPitMode) n t p e l = refl
size-by (Vtx (SetDynamicPower x)) n t p e l = refl
size-by (Vtx (SetPower x)) n t p e l = refl
size-by (Led SetDefault) n t p e l = refl
size-by (Led (OverrideColor a)) n t p e l = refl
size-by (Led (OverridePulse d a b)) n t p e l = refl
size-by (Led (OverrideBlink d a b)) n t p e l = refl
size-by (Led (OverrideShift d a)) n t p e l = refl
size-by (General (SpeedProposal x b)) n t p e l = refl
size-by (General (SpeedProposalResponse x a)) n t p e l = refl
size-by (Crossfire SetReceiverInBindMode) n t p e l = refl
size-by (Crossfire CancelBindMode) n t p e l = refl
size-by (Crossfire SetBindId) n t p e l = refl
size-by (Crossfire (ModelSelection m)) n t p e l = refl
size-by (Crossfire CurrentModelSelection) n t p e l = refl
size-by (Crossfire (ReplyCurrentModelSelection m)) n t p e l = refl
size-by (Crossfire EnableRxTelemetry) n t p e l = refl
size-by (Crossfire DisableRxTelemetry) n t p e l = refl
size-by (Crossfire FactoryReset) n t p e l = refl
size-by (Crossfire ResetToFactoryFirmware) n t p e l = refl
size-by (FlowControl (Subscribe k i)) n t p e l = refl
size-by (FlowControl (Unsubscribe k)) n t p e l = refl
size-by (Screen PopupMessageStart) n t p e l =
    let z = popup-size n p (after_text p (after_text p 4)) in
    let s = start-length (popup_in t) in
    let k = ap length e in
    omega (arith, l, z, s, k)
size-by (Screen (SelectionReturnValue v r)) n t p e l = refl
size-by (Ack a) n t p e l = simp length-append (omega arith)

pub size_is : (c : DirectCommands) → Sound c → (p : List ℕ) → (layout_for c.payload c.len p).size ≡ length (payload_of c)
size_is c z p =
    let s = stored_same c.payload c.len c.bytes z.stored z.size z.is_made in
    size-by c.payload c.len (stored_in c) p s.0 s.1.1.0 ∙ sym (length_is c z.in_range z.is_made z.stored z.size)

-- the stored bytes have room
room_by : (q : CommandPayload) (t : List ℕ) → stored_with q t (body_values q t) ≡ t
    → length t ≤ length (write_items (body_items q t) (body_values q t))
room_by (Fc c) t e = rw (← e) (omega arith)
room_by (Osd c) t e = rw (← e) (omega arith)
room_by (Vtx c) t e = rw (← e) (omega arith)
room_by (Led c) t e = rw (← e) (omega arith)
room_by (General c) t e = rw (← e) (omega arith)
room_by (Crossfire c) t e = rw (← e) (omega arith)
room_by (FlowControl c) t e = rw (← e) (omega arith)
room_by (Screen PopupMessageStart) t e = let s = start-length (popup_in t) in let k = ap length e in omega (arith, s, k)
room_by (Screen (SelectionReturnValue v r)) t e = rw (← e) (omega arith)
room_by (Ack a) t e = simp length-append (omega arith)

pub stored-room : (c : DirectCommands) → Sound c → c.len + 4 ≤ length (payload_of c)
stored-room c z =
    let s = stored_same c.payload c.len c.bytes z.stored z.size z.is_made in
    let r = room_by c.payload (stored_in c) s.0 in
    omega (arith, r, s.1.1.0, length_is c z.in_range z.is_made z.stored z.size)

-- ---- a popup's places, found by reading
after_label : (pre v post : List ℕ) (n : ℕ) → length pre ≡ n → ok_item text_item v ≡ true
    → n + (length v + 1) ≡ after_text (pre ++ ((v ++ 0 ∷ []) ++ post)) n
after_label pre v post n l o =
    let read = ap (λ (s : List ℕ). read_item text_item s) (drop_at pre ((v ++ 0 ∷ []) ++ post) n l) in
    sym (ap (λ (a : Answer (List ℕ)). place_after n a) (read ∙ item_back text_item v post refl o))

-- header h, info i, timeout x, close flag y, then m, and the check
module _ (dst src x y k : ℕ) (h i m : List ℕ) (a : ok_item text_item h ≡ true) (b : ok_item text_item i ≡ true) where
  abbrev written : List ℕ
  written = (h ++ 0 ∷ []) ++ ((i ++ 0 ∷ []) ++ x ∷ y ∷ m)

  abbrev whole : List ℕ
  whole = dst ∷ src ∷ 0x22 ∷ 0x01 ∷ (written ++ k ∷ [])

  -- what stands before the info, and before m
  abbrev header : List ℕ
  header = dst ∷ src ∷ 0x22 ∷ 0x01 ∷ (h ++ 0 ∷ [])

  abbrev head : List ℕ
  head = dst ∷ src ∷ 0x22 ∷ 0x01 ∷ ((h ++ 0 ∷ []) ++ ((i ++ 0 ∷ []) ++ x ∷ y ∷ []))

  -- where the timeout stands
  abbrev timeout : ℕ
  timeout = 4 + (length h + 1) + (length i + 1)

  at_info : 4 + (length h + 1) ≡ after_text whole 4
  at_info =
      let w = (i ++ 0 ∷ []) ++ x ∷ y ∷ m in
      let e : whole ≡ (dst ∷ src ∷ 0x22 ∷ 0x01 ∷ []) ++ ((h ++ 0 ∷ []) ++ (w ++ k ∷ [])) =
      ap (λ (l : List ℕ). dst ∷ src ∷ 0x22 ∷ 0x01 ∷ l) (append_assoc (h ++ 0 ∷ []) w (k ∷ [])) in
      after_label (dst ∷ src ∷ 0x22 ∷ 0x01 ∷ []) h (w ++ k ∷ []) 4 refl a ∙ ap (λ (s : List ℕ). after_text s 4) (sym e)

  at-timeout : timeout ≡ after_text whole (4 + (length h + 1))
  at-timeout =
      let e : whole ≡ header ++ ((i ++ 0 ∷ []) ++ x ∷ y ∷ (m ++ k ∷ [])) = simp append_assoc in
      let l : length header ≡ 4 + (length h + 1) = simp length-append (omega arith) in
      after_label header i (x ∷ y ∷ (m ++ k ∷ [])) (4 + (length h + 1)) l b ∙ ap (λ (s : List ℕ). after_text s (4 + (length h + 1))) (sym e)

  head-length : length head ≡ timeout + 2
  head-length = simp length-append (omega arith)

  written-length : length written + 4 ≡ timeout + 2 + length m
  written-length = simp length-append (omega arith)

  head_then : whole ≡ head ++ (m ++ k ∷ [])
  head_then = simp append_assoc

  none_layout : m ≡ [] → shown (length written) timeout ≡ popup_layout (length written) whole
  none_layout e =
      let l : length m ≡ 0 = ap length e in
      popup-shown (length written) whole (4 + (length h + 1)) timeout at_info at-timeout (inr (omega (arith, l, written-length)))

  empty_layout : (r : List ℕ) → m ≡ 0 ∷ r → shown (length written) timeout ≡ popup_layout (length written) whole
  empty_layout r e =
      let l : length m ≡ length (0 ∷ r) = ap length e in
      let t : whole ≡ head ++ 0 ∷ (r ++ k ∷ []) = head_then ∙ ap (λ (s : List ℕ). head ++ (s ++ k ∷ [])) e in
      let z : get_or whole (timeout + 2) 0 ≡ 0 = ap (λ (s : List ℕ). get_or s (timeout + 2) 0) t
      ∙ get_or_at head 0 (r ++ k ∷ []) 0 (timeout + 2) head-length in
      popup-shown (length written) whole (4 + (length h + 1)) timeout at_info at-timeout (inl (omega (arith, l, written-length), z))

  selection_layout : (f : ℕ) (v r : List ℕ) → m ≡ ((f ∷ v) ++ 0 ∷ []) ++ r → ok_item text_item (f ∷ v) ≡ true → (f ≡ 0 → ⊥)
      → selection (length written) timeout (timeout + 2 + (length (f ∷ v) + 1)) ≡ popup_layout (length written) whole
  selection_layout f v r e o g =
      let l : length m ≡ length (((f ∷ v) ++ 0 ∷ []) ++ r) = ap length e in
      let u : 0 < length (((f ∷ v) ++ 0 ∷ []) ++ r) = omega arith in
      let t : whole ≡ head ++ (((f ∷ v) ++ 0 ∷ []) ++ (r ++ k ∷ [])) =
      head_then
      ∙ ap (λ (s : List ℕ). head ++ (s ++ k ∷ [])) e
      ∙ ap (λ (s : List ℕ). head ++ s) (append_assoc ((f ∷ v) ++ 0 ∷ []) r (k ∷ [])) in
      let z : get_or whole (timeout + 2) 0 ≡ f = ap (λ (s : List ℕ). get_or s (timeout + 2) 0) t
      ∙ get_or_at head f ((v ++ 0 ∷ []) ++ (r ++ k ∷ [])) 0 (timeout + 2) head-length in
      let d : timeout + 2 + (length (f ∷ v) + 1) ≡ after_text whole (timeout + 2) =
      after_label head (f ∷ v) (r ++ k ∷ []) (timeout + 2) head-length o ∙ ap (λ (s : List ℕ). after_text s (timeout + 2)) (sym t) in
      popup-selection (length written) whole (4 + (length h + 1)) timeout (timeout + 2 + (length (f ∷ v) + 1)) at_info
      at-timeout (omega (arith, l, u, written-length)) (λ q. g (sym z ∙ q)) d

-- ---- a popup of each kind
abbrev PopupBy : Popup → ℕ → ℕ → Layout → Type 0
PopupBy q dst src s = ServesAs 0x22 0x01 (byte ∷ byte ∷ byte ∷ start_items q) ((dst ∷ []) ∷ (src ∷ []) ∷ (0x22 ∷ []) ∷ start_values q) s

abbrev PopupServed : Popup → ℕ → ℕ → ℕ → Type 0
PopupServed q dst src k = PopupBy q dst src (popup_layout (length (write_popup q)) (dst ∷ src ∷ 0x22 ∷ 0x01 ∷ (write_popup q ++ k ∷ [])))

module _ (dst src k : ℕ) (v1 v2 v3 v4 : List ℕ) (p1 : ok_item text_item v1 ≡ true) (p2 : ok_item text_item v2 ≡ true) where
  absent_serves : PopupServed (popup Absent false (v1 ∷ v2 ∷ v3 ∷ v4 ∷ [])) dst src k
  absent_serves =
      let q = popup Absent false (v1 ∷ v2 ∷ v3 ∷ v4 ∷ []) in
      let g = popup-held Absent false (v1 ∷ v2 ∷ v3 ∷ v4 ∷ []) in
      subst (λ (s : Layout). PopupBy q dst src s) (none_layout dst src _ _ k v1 v2 [] p1 p2 refl)
      (record { rows = g.0; direct = g.1; within = omega arith; near = omega arith; far = refl })

  empty_serves : (p : Bool) (v5 : List ℕ) (vs : List (List ℕ)) → v5 ≡ []
      → PopupServed (popup Empty p (v1 ∷ v2 ∷ v3 ∷ v4 ∷ v5 ∷ vs)) dst src k
  empty_serves p v5 vs e = subst (λ (v : List ℕ). PopupServed (popup Empty p (v1 ∷ v2 ∷ v3 ∷ v4 ∷ v ∷ vs)) dst src k) (sym e) by
    where
      far : (p : Bool) → 0 ≡ place_of (byte ∷ byte ∷ byte ∷ byte ∷ popup_items Empty p)
          ((dst ∷ []) ∷ (src ∷ []) ∷ (0x22 ∷ []) ∷ (0x01 ∷ []) ∷ v1 ∷ v2 ∷ v3 ∷ v4 ∷ [] ∷ vs)
          (far_item (byte ∷ byte ∷ byte ∷ byte ∷ popup_items Empty p))
      far true = refl
      far false = refl

      by : PopupServed (popup Empty p (v1 ∷ v2 ∷ v3 ∷ v4 ∷ [] ∷ vs)) dst src k
      by =
          let q = popup Empty p (v1 ∷ v2 ∷ v3 ∷ v4 ∷ [] ∷ vs) in
          let g = popup-held Empty p (v1 ∷ v2 ∷ v3 ∷ v4 ∷ [] ∷ vs) in
          let r = write_items (values_items p) vs in
          subst (λ (s : Layout). PopupBy q dst src s) (empty_layout dst src _ _ k v1 v2 (0 ∷ r) p1 p2 r refl)
          (record { rows = g.0; direct = g.1; within = omega arith; near = omega arith; far = far p })

  selection_serves : (p : Bool) (f : ℕ) (w v5 v6 : List ℕ) (vs : List (List ℕ)) → v5 ≡ f ∷ w → ok_item text_item (f ∷ w) ≡ true → (f ≡ 0 → ⊥)
      → PopupServed (popup Selection p (v1 ∷ v2 ∷ v3 ∷ v4 ∷ v5 ∷ v6 ∷ vs)) dst src k
  selection_serves p f w v5 v6 vs e o z =
      subst (λ (v : List ℕ). PopupServed (popup Selection p (v1 ∷ v2 ∷ v3 ∷ v4 ∷ v ∷ v6 ∷ vs)) dst src k) (sym e) by
    where
      by : PopupServed (popup Selection p (v1 ∷ v2 ∷ v3 ∷ v4 ∷ (f ∷ w) ∷ v6 ∷ vs)) dst src k
      by =
          let q = popup Selection p (v1 ∷ v2 ∷ v3 ∷ v4 ∷ (f ∷ w) ∷ v6 ∷ vs) in
          let g = popup-held Selection p (v1 ∷ v2 ∷ v3 ∷ v4 ∷ (f ∷ w) ∷ v6 ∷ vs) in
          let r = write_items (selection_items ++ values_items p) (v6 ∷ vs) in
          subst (λ (s : Layout). PopupBy q dst src s)
          (selection_layout dst src _ _ k v1 v2 (((f ∷ w) ++ 0 ∷ []) ++ r) p1 p2 f w r refl o z)
          (record { rows = g.0; direct = g.1; within = omega arith; near = omega arith; far = omega arith })

-- additional data of one 00 has no label; a selection has one
empty_of : (v : List ℕ) → ok_item (text 0 0) v ≡ true → v ≡ []
empty_of [] h = refl
empty_of (b ∷ v) h = let o = both (leb (length (b ∷ v)) 0) (nonzero (b ∷ v)) h in absurd (omega (arith, leb-true (length (b ∷ v)) 0 o.0))

label_of : (v : List ℕ) → ok_item (text 1 51) v ≡ true
    → (f : ℕ) × ((w : List ℕ) × ((v ≡ f ∷ w) × ((ok_item text_item (f ∷ w) ≡ true) × (f ≡ 0 → ⊥))))
label_of [] h = let z : ◌≡◌ {A = ℕ} 0 1 = cc in absurd (omega arith)
label_of (f ∷ w) h =
    let t = both (leb (length (f ∷ w)) 51) (nonzero (f ∷ w)) h in
    (f, (w, (refl, (h, eqb-false f 0 (passed (eqb f 0) (nonzero w) t.1).0))))

popup_each : (c : ScreenAdditionalData) (p : Bool) (vs : List (List ℕ)) (dst src k : ℕ) → alone c p ≡ false
    → Each (popup_items c p) vs → PopupServed (popup c p vs) dst src k
popup_each Absent true vs dst src k a e = let z : ◌≡◌ {A = ℕ} 0 1 = cc in absurd (omega arith)
popup_each Absent false vs dst src k a (one {v = v1} p1 (one {v = v2} p2 (one {v = v3} p3 (one {v = v4} p4 none)))) =
    absent_serves dst src k v1 v2 v3 v4 p1 p2
popup_each Empty p vs dst src k a (one {v = v1} p1 (one {v = v2} p2 (one {v = v3} p3 (one {v = v4} p4 (one {v = v5} {vs = us} p5 e))))) =
    empty_serves dst src k v1 v2 v3 v4 p1 p2 p v5 us (empty_of v5 p5)
popup_each Selection p vs dst src k a
    (one {v = v1} p1 (one {v = v2} p2 (one {v = v3} p3 (one {v = v4} p4 (one {v = v5} p5 (one {v = v6} {vs = us} p6 e)))))) =
    let l = label_of v5 p5 in
    selection_serves dst src k v1 v2 v3 v4 p1 p2 p l.0 l.1.0 v5 v6 us l.1.1.0 l.1.1.1.0 l.1.1.1.1

popup_serves : (q : Popup) (n dst src k : ℕ) (p : List ℕ) → ok_popup q ≡ true → length (write_popup q) ≡ n
    → p ≡ (dst ∷ src ∷ 0x22 ∷ write_items (start_items q) (start_values q)) ++ k ∷ [] → PopupBy q dst src (popup_layout n p)
popup_serves (popup c v vs) n dst src k p o l e =
    let q = popup c v vs in
    let t = passed (alone c v) (ok_items (popup_items c v) vs) o in
    let s = popup_each c v vs dst src k t.0 (each_of (popup_items c v) vs t.1) in
    subst (λ (w : List ℕ). PopupBy q dst src (popup_layout n w)) (sym e)
    (subst (λ (i : ℕ). PopupBy q dst src (popup_layout i (dst ∷ src ∷ 0x22 ∷ 0x01 ∷ (write_popup q ++ k ∷ [])))) l s)

-- ---- every command
module _ (n dst src : ℕ) (t p : List ℕ) where
  abbrev items : CommandPayload → List Item
  items q = byte ∷ byte ∷ byte ∷ body_items q t

  abbrev values : CommandPayload → List (List ℕ)
  values q = (dst ∷ []) ∷ (src ∷ []) ∷ (family_id q ∷ []) ∷ body_values q t

  abbrev ServedBy : CommandPayload → Layout → Type 0
  ServedBy q s = ServesAs (family_id q) (sub_of q) (items q) (values q) s

  others_serve : (q : CommandPayload) → NoPopup q → ServedBy q (layout_for q n p)
  others_serve q h =
      let g = held q t n p h in
      let r = by q h in
      record { rows = g.0; direct = g.1; within = r.0; near = r.1.0; far = r.1.1 }
    where
      by : (q : CommandPayload) → NoPopup q
          → ((layout_for q n p).end ≤ 32)
          × (((layout_for q n p).near ≡ place_of (items q) (values q) (near_item (family_id q) (sub_of q)))
          × ((layout_for q n p).far ≡ place_of (items q) (values q) (far_item (items q))))
      by (Fc ForceDisarm) h = (omega arith, (refl, refl))
      by (Fc ScaleChannel) h = (omega arith, (refl, refl))
      by (Osd c) h = (omega arith, (refl, refl))
      by (Vtx (SetFrequency f)) h = (omega arith, (refl, refl))
      by (Vtx (EnablePitModeOnPowerUp m k w)) h = (omega arith, (refl, refl))
      by (Vtx PowerUpFromPitMode) h = (omega arith, (refl, refl))
      by (Vtx (SetDynamicPower x)) h = (omega arith, (refl, refl))
      by (Vtx (SetPower x)) h = (omega arith, (refl, refl))
      by (Led SetDefault) h = (omega arith, (refl, refl))
      by (Led (OverrideColor a)) h = (omega arith, (refl, refl))
      by (Led (OverridePulse d a b)) h = (omega arith, (refl, refl))
      by (Led (OverrideBlink d a b)) h = (omega arith, (refl, refl))
      by (Led (OverrideShift d a)) h = (omega arith, (refl, refl))
      by (General (SpeedProposal x b)) h = (omega arith, (refl, refl))
      by (General (SpeedProposalResponse x a)) h = (omega arith, (refl, refl))
      by (Crossfire SetReceiverInBindMode) h = (omega arith, (refl, refl))
      by (Crossfire CancelBindMode) h = (omega arith, (refl, refl))
      by (Crossfire SetBindId) h = (omega arith, (refl, refl))
      by (Crossfire (ModelSelection m)) h = (omega arith, (refl, refl))
      by (Crossfire CurrentModelSelection) h = (omega arith, (refl, refl))
      by (Crossfire (ReplyCurrentModelSelection m)) h = (omega arith, (refl, refl))
      by (Crossfire EnableRxTelemetry) h = (omega arith, (refl, refl))
      by (Crossfire DisableRxTelemetry) h = (omega arith, (refl, refl))
      by (Crossfire FactoryReset) h = (omega arith, (refl, refl))
      by (Crossfire ResetToFactoryFirmware) h = (omega arith, (refl, refl))
      by (FlowControl (Subscribe k i)) h = (omega arith, (refl, refl))
      by (FlowControl (Unsubscribe k)) h = (omega arith, (refl, refl))
      by (Screen PopupMessageStart) h = absurd h
      by (Screen (SelectionReturnValue v r)) h = (omega arith, (refl, refl))
      by (Ack a) h = (omega arith, (refl, refl))

serves_by : (q : CommandPayload) (n dst src k : ℕ) (b p : List ℕ) → Bytes b → length b ≡ 55 → made_beside q n b ≡ true
    → p ≡ (dst ∷ src ∷ family_id q ∷ write_items (body_items q (take n b)) (body_values q (take n b))) ++ k ∷ []
    → ServedBy n dst src (take n b) p q (layout_for q n p)
serves_by (Fc c) n dst src k b p y l m e = others_serve n dst src (take n b) p (Fc c) tt
serves_by (Osd c) n dst src k b p y l m e = others_serve n dst src (take n b) p (Osd c) tt
serves_by (Vtx c) n dst src k b p y l m e = others_serve n dst src (take n b) p (Vtx c) tt
serves_by (Led c) n dst src k b p y l m e = others_serve n dst src (take n b) p (Led c) tt
serves_by (General c) n dst src k b p y l m e = others_serve n dst src (take n b) p (General c) tt
serves_by (Crossfire c) n dst src k b p y l m e = others_serve n dst src (take n b) p (Crossfire c) tt
serves_by (FlowControl c) n dst src k b p y l m e = others_serve n dst src (take n b) p (FlowControl c) tt
serves_by (Screen PopupMessageStart) n dst src k b p y l m e =
    let r = popup-kept n b y l m in
    popup_serves (popup_in (take n b)) n dst src k p r.0 (ap length r.1.0 ∙ r.1.1.1.0) e
serves_by (Screen (SelectionReturnValue v r)) n dst src k b p y l m e =
    others_serve n dst src (take n b) p (Screen (SelectionReturnValue v r)) tt
serves_by (Ack a) n dst src k b p y l m e = others_serve n dst src (take n b) p (Ack a) tt

-- THE law: on what the writer makes of it, the layout that the code finds serves the command
pub serves : (c : DirectCommands) → Sound c → (p : List ℕ) → p ≡ payload_of c → Serves c (layout_for c.payload c.len p)
serves c z p e =
    serves_by c.payload c.len c.dst_addr c.src_addr (check_of command_polynomial (0x32 ∷ items_laid c))
    c.bytes p z.stored z.size z.is_made (e ∙ sound-laid c z)

-- ---- what is read is judged
-- read, and not as written
differs : (p : List ℕ) (c : DirectCommands) → read_command p ≡ got c → (p ≡ payload_of c → ⊥) → number_in (open_command p) ≡ 6
differs p c h g = rw h (by (same (payload_of c) p) refl)
  where
    by : (t : Bool) → same (payload_of c) p ≡ t → number_in (pick t (got c) (refused 6 0)) ≡ 6
    by true e = absurd (g (sym (same_true (payload_of c) p e)))
    by false e = refl

-- a command has a pit byte, or none
abbrev Pit : CommandPayload → List ℕ → Type 0
Pit q p = (has_pit q ≡ true) × ((PitClear q p → get_or p 4 0 < 128) × (get_or p 4 0 < 128 → PitClear q p))

pit_or : (q : CommandPayload) (p : List ℕ) → ((has_pit q ≡ false) × PitClear q p) ⊎ Pit q p
pit_or (Fc c) p = inl (refl, tt)
pit_or (Osd c) p = inl (refl, tt)
pit_or (Vtx (SetFrequency f)) p = inl (refl, tt)
pit_or (Vtx (EnablePitModeOnPowerUp m k w)) p = inr (refl, (λ h. h, λ h. h))
pit_or (Vtx PowerUpFromPitMode) p = inl (refl, tt)
pit_or (Vtx (SetDynamicPower x)) p = inl (refl, tt)
pit_or (Vtx (SetPower x)) p = inl (refl, tt)
pit_or (Led c) p = inl (refl, tt)
pit_or (General c) p = inl (refl, tt)
pit_or (Crossfire c) p = inl (refl, tt)
pit_or (FlowControl c) p = inl (refl, tt)
pit_or (Screen c) p = inl (refl, tt)
pit_or (Ack a) p = inl (refl, tt)

pit-of : (q : CommandPayload) (p : List ℕ) → has_pit q ≡ true → Pit q p
pit-of q p t = by (pit_or q p)
  where
    by : ((has_pit q ≡ false) × PitClear q p) ⊎ Pit q p → Pit q p
    by (inl x) = let g : true ≡ false = sym t ∙ x.0 in let z : ◌≡◌ {A = ℕ} 0 1 = cc in absurd (omega arith)
    by (inr x) = x

pit_clear : (q : CommandPayload) (p : List ℕ) → (has_pit q ≡ false) ⊎ (get_or p 4 0 < 128) → PitClear q p
pit_clear q p h = by (pit_or q p) h
  where
    by : ((has_pit q ≡ false) × PitClear q p) ⊎ Pit q p → (has_pit q ≡ false) ⊎ (get_or p 4 0 < 128) → PitClear q p
    by (inl x) h = x.1
    by (inr x) (inl e) = let g : true ≡ false = sym x.0 ∙ e in let z : ◌≡◌ {A = ℕ} 0 1 = cc in absurd (omega arith)
    by (inr x) (inr l) = x.1.1 l

module _ (q : CommandPayload) (n : ℕ) (p : List ℕ) (s : Layout) (d : s ≡ layout_for q n p) (y : Bytes p) where
  size_read : (c : DirectCommands) → c.payload ≡ q → c.len ≡ n → read_command p ≡ got c → s.size ≡ length (payload_of c)
  size_read c e f h =
      let u : s ≡ layout_for c.payload c.len p = rw (e, f) d in
      ap (λ (r : Layout). r.size) u ∙ size_is c (read_sound p c y h) p

  -- of another length
  judged_longer : (length p ≡ s.size → ⊥) → OpensRead q n p (Err NotAsWritten)
  judged_longer g c e f h = differs p c h (λ i. g (ap length i ∙ sym (size_read c e f h)))

  -- bit 7 of a pit byte set
  judged-set : has_pit q ≡ true → 127 < get_or p 4 0 → OpensRead q n p (Err NotAsWritten)
  judged-set t g c e f h =
      let k : PitClear q (payload_of c) = subst (λ (r : CommandPayload). PitClear r (payload_of c)) e
      (written_clear c (read_sound p c y h)) in
      differs p c h (λ i. let l : get_or p 4 0 < 128 = (pit-of q p t).1.0 (subst (PitClear q) (sym i) k) in omega arith)

  -- as written
  judged_good : length p ≡ s.size → (has_pit q ≡ false) ⊎ (get_or p 4 0 < 128) → OpensRead q n p (Ok s)
  judged_good l g c e f h =
      let z = read_sound p c y h in
      let u : layout_for c.payload c.len p ≡ s = rw (e, f) (sym d) in
      let k : PitClear c.payload p = rw e (pit_clear q p g) in
      let w : p ≡ payload_of c = as_written p c y h (l ∙ size_read c e f h) k in
      record { command = c; sound = z; written = w; served = subst (λ (r : Layout). Serves c r) u (serves c z p w) }

  -- the length decides where no such bit is set
  judged-fits : (has_pit q ≡ false) ⊎ (get_or p 4 0 < 128) → OpensRead q n p (fitting s (length p))
  judged-fits g = by (eqb (length p) s.size) refl
    where
      by : (t : Bool) → eqb (length p) s.size ≡ t → OpensRead q n p (pick t (Ok s) (Err NotAsWritten))
      by true e = judged_good (eqb-true (length p) s.size e) g
      by false e = judged_longer (eqb-false (length p) s.size e)

-- the code's answer, of a command that has no pit byte
pub judged : (q k : CommandPayload) (n : ℕ) (p : List ℕ) (s : Layout) (r : Result Layout Refusal) → q ≡ k → s ≡ layout_for k n p
    → has_pit k ≡ false → Bytes p
    → r ≡ fitting s (length p) → OpensRead q n p r
judged q k n p s r e d f y g = rw (e, g) (judged-fits k n p s d y (inl f))

-- ---- of a VTX command: bit 7 of a pit byte is set, or not
pub unset_set : (c : VtxCommand) (p : List ℕ) (o : Result Layout Refusal) → vtx_pit c ≡ true → 4 < length p → 127 < get_or p 4 0
    → Err NotAsWritten ≡ unset c p o
unset_set c p o h i j = rw (h, lt-ltb 4 (length p) i, lt-ltb 127 (get_or p 4 0) j)

pub unset_clear : (c : VtxCommand) (p : List ℕ) (o : Result Layout Refusal) → (get_or p 4 0 ≤ 127) ⊎ ((length p ≤ 4) ⊎ (vtx_pit c ≡ false)) → o ≡ unset c p o
unset_clear c p o (inl h) = rw (le-ltb 127 (get_or p 4 0) h) (by (vtx_pit c) (ltb 4 (length p)))
  where
    by : (t u : Bool) → o ≡ pick t (pick u o o) o
    by true true = refl
    by true false = refl
    by false u = refl
unset_clear c p o (inr (inl h)) = rw (le-ltb 4 (length p) h) (by (vtx_pit c))
  where
    by : (t : Bool) → o ≡ pick t o o
    by true = refl
    by false = refl
unset_clear c p o (inr (inr h)) = rw h

pub judged_vtx : (q : CommandPayload) (c : VtxCommand) (n : ℕ) (p : List ℕ) (r : Result Layout Refusal) → q ≡ Vtx c → Bytes p
    → r ≡ vtx_opening c p → OpensRead q n p r
judged_vtx q c n p r e y g = rw (e, g) (by (vtx_pit c) (ltb 4 (length p)) (ltb 127 (get_or p 4 0)) refl refl refl)
  where
    fit : Result Layout Refusal
    fit = fitting (vtx_layout c) (length p)

    low : (has_pit (Vtx c) ≡ false) ⊎ (get_or p 4 0 < 128) → OpensRead (Vtx c) n p fit
    low = judged-fits (Vtx c) n p (vtx_layout c) refl y

    by : (t u v : Bool) → vtx_pit c ≡ t → ltb 4 (length p) ≡ u → ltb 127 (get_or p 4 0) ≡ v
        → OpensRead (Vtx c) n p (pick t (pick u (pick v (Err NotAsWritten) fit) fit) fit)
    by true true true h i j = judged-set (Vtx c) n p (vtx_layout c) refl y h (ltb-true 127 (get_or p 4 0) j)
    by true true false h i j = low (inr (let l = ltb-false 127 (get_or p 4 0) j in omega (arith, l)))
    by true false v h i j = low (inr (let l = get_or-eq_default p 0 (ltb-false 4 (length p) i) in omega (arith, l)))
    by false u v h i j = low (inl h)

-- ---- reading, then judging
-- the command whose kind was told
read_as_lem : (p : List ℕ) (x : Result KindRead Refusal) (q : CommandPayload) (n : ℕ) → told_kind x ≡ read_kind p → x ≡ Ok (record { payload = q; len = n })
    → (c : DirectCommands) × ((c.payload ≡ q) × ((c.len ≡ n) × (read_command p ≡ got c)))
read_as_lem p x q n h e =
    let t : got (kind q n) ≡ read_kind p = rw e at h in
    let g = and_got (read_command p) (λ c. got (kind_of c)) (kind q n) (sym t) in
    let c = g.0 in
    let k : got (kind c.payload c.len) ≡ got (kind q n) = g.1.1 in
    (c, (cc, (cc, g.1.0)))

-- the stored bytes have room in what was read
pub read_room : (p : List ℕ) (x : Result KindRead Refusal) (q : CommandPayload) (n : ℕ) → Bytes p → told_kind x ≡ read_kind p
    → x ≡ Ok (record { payload = q; len = n }) → n + 4 ≤ length p
read_room p x q n y h e =
    let g = read_as_lem p x q n h e in
    let c = g.0 in
    let r = stored-room c (read_sound p c y g.1.1.1) in
    omega (arith, r, (read_writable p c y g.1.1.1).1.0, g.1.1.0)

pub opens-judged : (p : List ℕ) (x : Result KindRead Refusal) (q : CommandPayload) (n : ℕ) (r : Result Layout Refusal) → told_kind x ≡ read_kind p
    → x ≡ Ok (record { payload = q; len = n }) → OpensRead q n p r
    → Opens p r
opens-judged p x q n r h e j = let g = read_as_lem p x q n h e in j g.0 g.1.0 g.1.1.0 g.1.1.1

-- the reader's refusal
pub opens-refused : (p : List ℕ) (x : Result KindRead Refusal) (why : Refusal) → told_kind x ≡ read_kind p → x ≡ Err why → Opens p (Err why)
opens-refused p x why h e = by (read_command p) (rw e at h)
  where
    by : (a : Answer DirectCommands) → refused (refusal_number why) 0 ≡ and_then a (λ c. got (kind_of c))
        → number_in (and_then a (λ c. pick (same (payload_of c) p) (got c) (refused 6 0))) ≡ refusal_number why
    by (got c) g = let z : ◌≡◌ {A = ℕ} 0 1 = cc in absurd (omega arith)
    by (refused k l) g = let u : refusal_number why ≡ k = cc in sym u

-- What is written reads back as the same command. Assumes nothing.
use Prim.Native.Nat.{ℕ, ◌-◌, ◌≤◌, ◌<◌}
use mathlib.Core.Bool.{Bool, true, false}
use mathlib.Core.List.{List, [], ◌∷◌, ◌++◌, append-nil}
use mathlib.Core.Path.{◌≡◌, refl, ap, sym, subst, ◌∙◌}
use native.Mathlib.Omega.{arith}
use lib.ListN.{length, take}
use lib.Dec.{ltb, leb}
use borrow.Author.Tests.{ltb-false, leb-true}
use Rattle.crc.specs.Check.{Bytes}
use Rattle.codec.specs.Pick.{pick}
use Rattle.codec.specs.Sheet.{Answer, got, and_then, Row, Said}
use Rattle.codec.specs.Reading.{read_body}
use Rattle.codec.specs.Writing.{write_body, write_items}
use Rattle.families.specs.Sheets.{fc_rows, osd_rows, vtx_rows, led_rows, general_rows, crossfire_rows, flow_rows}
use Rattle.families.specs.Fc.{fc_says, fc_of}
use Rattle.families.specs.Osd.{osd_says, osd_of}
use Rattle.families.specs.Vtx.{vtx_says, vtx_of}
use Rattle.families.specs.Led.{led_says, led_of}
use Rattle.families.specs.General.{general_says, general_of}
use Rattle.families.specs.Crossfire.{crossfire_says, crossfire_of}
use Rattle.families.specs.FlowControl.{flow_says, flow_of}
use Rattle.families.specs.Text.{padded, made_bytes}
use Rattle.families.specs.Ack.{ack_items, ack_says, read_ack}
use Rattle.families.specs.Popup.{Popup, write_popup}
use Rattle.families.specs.Fields.{construct, popup_says, popup_of, made_popup, head_says, more_says, values_says}
use Rattle.families.specs.Screen.{started, read_screen, screen_body}
use Rattle.families.specs.Payload.{family_id}
use Rattle.families.specs.declared.fc.FcCommand.{FcCommand}
use Rattle.families.specs.declared.osd.OsdCommand.{OsdCommand}
use Rattle.families.specs.declared.vtx.VtxCommand.{VtxCommand}
use Rattle.families.specs.declared.led.LedCommand.{LedCommand}
use Rattle.families.specs.declared.general.GeneralCommand.{GeneralCommand}
use Rattle.families.specs.declared.crossfire.CrossfireCommand.{CrossfireCommand}
use Rattle.families.specs.declared.flow_control.FlowControlCommand.{FlowControlCommand}
use Rattle.families.specs.declared.screen.ScreenCommand.{ScreenCommand}
use Rattle.families.specs.declared.screen.ScreenCommand.TheVariants.{PopupMessageStart, SelectionReturnValue}
use Rattle.families.specs.declared.screen.ScreenPopup.{ScreenPopup}
use Rattle.families.specs.declared.screen.ScreenPopupFields.{ScreenPopupFields}
use Rattle.families.specs.declared.payload.CommandPayload.{CommandPayload}
use Rattle.families.specs.declared.payload.CommandPayload.TheVariants.{Fc, Osd, Vtx, Led, General, Crossfire, FlowControl, Screen, Ack}
use Rattle.families.proofs.Inverse.{fc_of_lem, osd_of_lem, vtx_of_lem, led_of_lem, general_of_lem, crossfire_of_lem, flow_of_lem}
use Rattle.families.proofs.RoundTrip.{fc_back, osd_back, vtx_back, led_back, general_back, crossfire_back, flow_back}
use Rattle.families.proofs.TextLaws.{made-stands}
use Rattle.families.proofs.Answered.{unpadded}
use Rattle.families.proofs.Acks.{ack_back}
use Rattle.families.proofs.Made.{made_decided, constructed}
use Rattle.families.proofs.ScreenBack.{start_back, return_back, return_is}
use Rattle.commands.specs.Command.{WithStored, with_stored, command_of, stored_in, made_beside, made}
use Rattle.commands.specs.Reading.{read_plain, ack_with_stored, read_family, read_command}
use Rattle.commands.specs.Writing.{body_of, stop_body, payload_of, room_of, stop_writing}
use Rattle.commands.specs.Writing.Equation.{stop_is}
use Rattle.commands.specs.declared.DirectCommands.{DirectCommands}
use Rattle.commands.proofs.Written.{body-fits}
use Rattle.commands.proofs.Laid.{read_payload}

-- what the types of a command keep: its numbers, where no sheet's range is asked on writing; 55 stored bytes
abbrev pub TypedScreen : ScreenCommand → Type 0
TypedScreen PopupMessageStart = Unit {0}
TypedScreen (SelectionReturnValue value response) = value < 256

abbrev pub TypedPayload : CommandPayload → Type 0
TypedPayload (Fc c) = Unit {0}
TypedPayload (Osd c) = Unit {0}
TypedPayload (Vtx c) = Unit {0}
TypedPayload (Led c) = Unit {0}
TypedPayload (General c) = Unit {0}
TypedPayload (Crossfire c) = Unit {0}
TypedPayload (FlowControl c) = Unit {0}
TypedPayload (Screen c) = TypedScreen c
TypedPayload (Ack a) = (a.command_id < 256) × (a.sub_command_id < 256)

abbrev pub Typed : DirectCommands → Type 0
Typed c = TypedPayload c.payload × (Bytes c.bytes × (length c.bytes ≡ 55))

-- the stored bytes stand at the front, zeros after
abbrev Beside : ℕ → List ℕ → Type 0
Beside n b = (length (take n b) ≡ n) × (b ≡ padded 55 (take n b))

abbrev Reads : CommandPayload → ℕ → List ℕ → Type 0
Reads p n b = (read_family (family_id p) (body_of p (take n b)) ≡ got (with_stored p (take n b))) × Beside n b

none : (t : List ℕ) → length t ≤ 0 → t ≡ []
none [] h = refl
none (b ∷ t) h = absurd (omega arith)

-- ---- a body of a sheet
plain_back : (rows : List Row) (payload : Said → CommandPayload) (b : Said) (p : CommandPayload) (n : ℕ) (s : List ℕ)
    → read_body rows (write_body rows b ++ []) ≡ got b → payload b ≡ p → made_bytes 0 n s ≡ true → length s ≡ 55
    → (read_plain rows payload (write_body rows b) ≡ got (with_stored p (take n s))) × Beside n s
plain_back rows payload b p n s e f m l =
    let d = made-stands 0 55 n s m l (omega arith) in
    let z : take n s ≡ [] = none (take n s) (rw d.1.1.0 d.0) in
    let g = rw (append-nil (write_body rows b)) at e in
    (rw (g, f, z), (d.1.1.0, d.1.1.1))

-- ---- 0x22 Screen
popup-by : (f : ScreenPopupFields) (q : ScreenPopup) → construct f ≡ got q
    → (read_screen (0x01 ∷ write_popup (popup_says f)) ≡ got (started (popup_says f))) × (q ≡ popup_of (write_popup (popup_says f)))
popup-by f q h =
    let g = constructed f q h in
    let vs = head_says f ++ (more_says f.additional_data f ++ values_says f.has_possible_values f) in
    (start_back f.additional_data f.has_possible_values vs g.0 g.1.0, g.1.1)

started-beside : (n : ℕ) (b w : List ℕ) (q : Popup) → n ≡ length w → b ≡ padded 55 w → write_popup q ≡ w → read_screen (0x01 ∷ w) ≡ got (started q)
    → Reads (Screen PopupMessageStart) n b
started-beside n b w q i j k g =
    let t : take n b ≡ w = rw (i, j) (unpadded w) in
    (rw (t, g, k), (rw t (sym i), rw t j))

popup_back : (n : ℕ) (b : List ℕ) → Bytes b → length b ≡ 55 → made_popup (record { len = n; bytes = b }) ≡ true → Reads (Screen PopupMessageStart) n b
popup_back n b y l m =
    let q : ScreenPopup = record { len = n; bytes = b } in
    let d = made_decided q y l m in
    let g = popup-by d.0 q d.1 in
    started-beside n b (write_popup (popup_says d.0)) (popup_says d.0) (ap (λ (x : ScreenPopup). x.len) g.1)
    (ap (λ (x : ScreenPopup). x.bytes) g.1) refl g.0

return-reads : (v : ℕ) (r : Bool) (n : ℕ) (b : List ℕ) → v < 256 → made_bytes 0 n b ≡ true → length b ≡ 55 → Reads (Screen (SelectionReturnValue v r)) n b
return-reads v r n b h m l =
    let d = made-stands 0 55 n b m l (omega arith) in
    let z : take n b ≡ [] = none (take n b) (rw d.1.1.0 d.0) in
    let g = rw (append-nil (screen_body (SelectionReturnValue v r) (take n b))) at (return_back v r (take n b) [] h) in
    (rw (g, return_is v r, z), (d.1.1.0, d.1.1.1))

-- ---- THE body of a command that is made and that nothing stops reads back
pub body_back : (p : CommandPayload) (n : ℕ) (b : List ℕ) (room : ℕ) → TypedPayload p → Bytes b → length b ≡ 55 → made_beside p n b ≡ true
    → stop_body p (take n b) room ≡ 0 → Reads p n b
body_back (Fc c) n b room x y l m h = plain_back fc_rows (λ d. Fc (fc_of d)) (fc_says c) (Fc c) n b (fc_back c room [] h)
    (ap (λ (d : FcCommand). Fc d) (fc_of_lem c)) m l
body_back (Osd c) n b room x y l m h = plain_back osd_rows (λ d. Osd (osd_of d)) (osd_says c) (Osd c) n b
    (osd_back c room [] h) (ap (λ (d : OsdCommand). Osd d) (osd_of_lem c)) m l
body_back (Vtx c) n b room x y l m h = plain_back vtx_rows (λ d. Vtx (vtx_of d)) (vtx_says c) (Vtx c) n b
    (vtx_back c room [] h) (ap (λ (d : VtxCommand). Vtx d) (vtx_of_lem c)) m l
body_back (Led c) n b room x y l m h = plain_back led_rows (λ d. Led (led_of d)) (led_says c) (Led c) n b
    (led_back c room [] h) (ap (λ (d : LedCommand). Led d) (led_of_lem c)) m l
body_back (General c) n b room x y l m h =
    plain_back general_rows (λ d. General (general_of d)) (general_says c) (General c) n b (general_back c room [] h)
    (ap (λ (d : GeneralCommand). General d) (general_of_lem c)) m l
body_back (Crossfire c) n b room x y l m h =
    plain_back crossfire_rows (λ d. Crossfire (crossfire_of d)) (crossfire_says c) (Crossfire c) n b
    (crossfire_back c room [] h) (ap (λ (d : CrossfireCommand). Crossfire d) (crossfire_of_lem c)) m l
body_back (FlowControl c) n b room x y l m h =
    plain_back flow_rows (λ d. FlowControl (flow_of d)) (flow_says c) (FlowControl c) n b (flow_back c room [] h)
    (ap (λ (d : FlowControlCommand). FlowControl d) (flow_of_lem c)) m l
body_back (Screen PopupMessageStart) n b room x y l m h = popup_back n b y l m
body_back (Screen (SelectionReturnValue v r)) n b room x y l m h = return-reads v r n b x m l
body_back (Ack a) n b room x y l m h =
    let d = made-stands 52 55 n b m l (omega arith) in
    let t = take n b in
    let g = subst (λ (w : List ℕ). read_ack w ≡ got (ack_says a t)) (append-nil (write_items ack_items (ack_says a t)))
    (ack_back room a t [] h d.1.0 (rw d.1.1.0 d.0) x.0 x.1) in
    (ap (λ (x : Answer (List (List ℕ))). and_then x (λ vs. got (ack_with_stored vs))) g, (d.1.1.0, d.1.1.1))

-- ---- what lets a command through
room_small : (n : ℕ) → room_of n ≤ 56
room_small n = by (leb n 60) refl
  where
    by : (t : Bool) → leb n 60 ≡ t → pick t n 60 - 4 ≤ 56
    by true e = let l = leb-true n 60 e in omega arith
    by false e = omega arith

pub let_through : (c : DirectCommands) (n : ℕ) → stop_writing c n ≡ 0 → (made c ≡ true) × ((4 ≤ n) × (stop_body c.payload (stored_in c) (room_of n) ≡ 0))
let_through c n h = by (made c) (ltb n 4) refl (sym (stop_is c n) ∙ h)
  where
    by : (a b : Bool) → ltb n 4 ≡ b → pick a (pick b 3 (stop_body c.payload (stored_in c) (room_of n))) 5 ≡ 0
        → (a ≡ true) × ((4 ≤ n) × (stop_body c.payload (stored_in c) (room_of n) ≡ 0))
    by false b e g = absurd (omega arith)
    by true true e g = absurd (omega arith)
    by true false e g = (refl, (ltb-false n 4 e, g))

command-whole : (c : DirectCommands) (n : ℕ) (b : List ℕ) → n ≡ c.len → b ≡ c.bytes
    → record { dst_addr = c.dst_addr; src_addr = c.src_addr; payload = c.payload; len = n; bytes = b } ≡ c
command-whole c n b e f = rw (e, f)

-- THE LAW
pub written_back : (c : DirectCommands) (n : ℕ) → Typed c → stop_writing c n ≡ 0 → read_command (payload_of c) ≡ got c
written_back c n x h =
    let t = let_through c n h in
    let w = body_back c.payload c.len c.bytes (room_of n) x.0 x.1.0 x.1.1 t.0 t.1.1 in
    let f = body-fits c.payload (stored_in c) (room_of n) t.1.1 in
    let s = room_small n in
    read_payload c (omega arith)
    ∙ (ap (λ (a : Answer WithStored). and_then a (λ k. got (command_of c.dst_addr c.src_addr k))) w.0
    ∙ ap (λ (d : DirectCommands). got d) (command-whole c (length (stored_in c)) (padded 55 (stored_in c)) w.1.0 (sym w.1.1)))

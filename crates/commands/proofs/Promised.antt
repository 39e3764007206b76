-- What the reader and the writer promise to what stands above them. Assumes nothing.
use Prim.Native.Nat.{ℕ, zero, suc, ◌+◌, ◌-◌, ◌*◌, ◌/◌, ◌%◌, ◌^◌, ◌≤◌, ◌<◌}
use mathlib.Core.Bool.{Bool, true, false}
use mathlib.Core.List.{List, [], ◌∷◌, ◌++◌}
use mathlib.Core.Path.{◌≡◌, refl, ap, sym, subst, ◌∙◌}
use native.Mathlib.Omega.{arith}
use native.Mathlib.Nat.{mod-eq_of_lt}
use lib.ListN.{length, take, drop, replicate, get_or, length-append, length-replicate}
use lib.Seq.{take_all, take-suc, take-add, get_or-drop, length-take-le}
use lib.Dec.{ltb, eqb}
use borrow.Author.Tests.{ltb-true, ltb-false}
use Rattle.crc.specs.Check.{command_polynomial, check_of, typed_check, payload_check, Bytes}
use Rattle.crc.proofs.Laws.{command, check_is_remainder, bytes_take, bytes_append}
use Rattle.crc.proofs.Zeros.{bytes-zeros}
use Rattle.codec.specs.Pick.{pick}
use Rattle.codec.specs.Digits.{sum, join, number_of, bytes_of}
use Rattle.codec.specs.Sheet.{Answer, got, refused, and_then, Field, field, Item, packed, text, Row, row, widths, Said, said, byte, flag, first}
use Rattle.codec.specs.Reading.{read_item, read_items, read_row, read_body}
use Rattle.codec.specs.Writing.{ok_item, ok_items, item_bytes, items_of, write_items, write_body, stop_in_order, stop_values_first}
use Rattle.codec.specs.Refusals.{value_in}
use Rattle.codec.specs.Sound.{has_row, known, exact_items}
use Rattle.codec.specs.Told.{bit}
use Rattle.codec.proofs.Back.{both, joined, passed}
use Rattle.codec.proofs.Packed.{byte-item}
use Rattle.codec.proofs.There.{and_got, item-there, items-there, row-there, in_order_free, values_first_free}
use Rattle.codec.proofs.Writes.{room-there}
use Rattle.codec.proofs.Digits.{join-split}
use Rattle.codec.proofs.Joins.{each_of}
use Rattle.codec.proofs.Forth.{digit_bytes, bytes_drop, bytes-number, item_forth, items_forth}
use Rattle.families.specs.Sheets.{fc_rows, osd_rows, vtx_rows, led_rows, general_rows, crossfire_rows, flow_rows, screen_rows, pit, frequency}
use Rattle.families.specs.Fc.{fc_says, fc_of}
use Rattle.families.specs.Osd.{osd_says, osd_of}
use Rattle.families.specs.Vtx.{vtx_says, vtx_of}
use Rattle.families.specs.Led.{led_says, led_of}
use Rattle.families.specs.General.{general_says, general_of}
use Rattle.families.specs.Crossfire.{crossfire_says, crossfire_of}
use Rattle.families.specs.FlowControl.{flow_says, flow_of}
use Rattle.families.specs.Text.{padded}
use Rattle.families.specs.Ack.{ack_items, ack_loose, ack_says, ack_of, action_ok, read_ack}
use Rattle.families.specs.Popup.{Popup, popup, popup_items, alone, ok_popup, write_popup}
use Rattle.families.specs.Fields.{popup_says, popup_of, made_popup, blank_fields}
use Rattle.families.specs.Body.{said_items, said_values, popup_in, start_items, start_values, return_says, body_items, body_values}
use Rattle.families.specs.Screen.{ScreenSaid, started, returned, read_screen, return_of, screen_body}
use Rattle.families.specs.Payload.{family_id}
use Rattle.families.specs.declared.ack.CommandAck.{CommandAck}
use Rattle.families.specs.declared.vtx.VtxCommand.{VtxCommand}
use Rattle.families.specs.declared.vtx.VtxCommand.TheVariants.{SetFrequency, EnablePitModeOnPowerUp, PowerUpFromPitMode, SetDynamicPower, SetPower}
use Rattle.families.specs.declared.screen.ScreenCommand.{ScreenCommand}
use Rattle.families.specs.declared.screen.ScreenCommand.TheVariants.{PopupMessageStart, SelectionReturnValue}
use Rattle.families.specs.declared.screen.ScreenPopup.{ScreenPopup}
use Rattle.families.specs.declared.screen.ScreenPopupFields.{ScreenPopupFields}
use Rattle.families.specs.declared.payload.CommandPayload.{CommandPayload}
use Rattle.families.specs.declared.payload.CommandPayload.TheVariants.{Fc, Osd, Vtx, Led, General, Crossfire, FlowControl, Screen, Ack}
use Rattle.families.proofs.RoundTrip.{fc_known, osd_known, vtx_known, led_known, general_known, crossfire_known, flow_known}
use Rattle.families.proofs.Made.{inspect-of, says-fields, made_decided, constructed}
use Rattle.families.proofs.Answered.{ack_fixed, unpadded}
use Rattle.families.proofs.Said.{fc_said, osd_said, vtx_said, led_said, general_said, crossfire_said, flow_said, return-said}
use Rattle.families.proofs.Acks.{loose_range, ack_read}
use Rattle.families.proofs.PopupLaws.{popup_forth}
use Rattle.families.proofs.ScreenBack.{started_is, screen_way}
use Rattle.commands.specs.Command.{WithStored, with_stored, command_of, stored_in, made_beside, made}
use Rattle.commands.specs.Reading.{body_in, check_in, screen_with_stored, ack_with_stored, read_family, read_command}
use Rattle.commands.specs.Writing.{body_of, stop_body, opening, checked, payload_of, room_of, stop_writing}
use Rattle.commands.specs.Writing.Equation.{payload_is}
use Rattle.commands.specs.declared.DirectCommands.{DirectCommands}
use Rattle.commands.proofs.Written.{stop-body}
use Rattle.commands.proofs.Known.{read_parts}
use Rattle.commands.proofs.Forth.{family_forth, room-enough, read_writable, read_fits}
use Rattle.commands.proofs.Laid.{payload-length}
use Rattle.commands.proofs.Back.{TypedPayload, Typed, written_back}

-- what the types and the writer ask of a command that is written
pub record Sound (c : DirectCommands) : Type 0 where
  pub destination : c.dst_addr < 256
  pub source : c.src_addr < 256
  pub in_range : ok_items (body_items c.payload (stored_in c)) (body_values c.payload (stored_in c)) ≡ true
  pub is_made : made c ≡ true
  pub stored : Bytes c.bytes
  pub size : length c.bytes ≡ 55
  pub short : length (payload_of c) ≤ 60

-- a command's items in the order of 01
abbrev pub items_laid : DirectCommands → List ℕ
items_laid c = c.dst_addr ∷ c.src_addr ∷ family_id c.payload ∷ write_items (body_items c.payload (stored_in c)) (body_values c.payload (stored_in c))

-- ---- a body of a sheet
byte_of : (n : ℕ) → ok_item byte (n ∷ []) ≡ true → n < 256
byte_of n h =
    let p = passed (ltb n 0) (pick (ltb 255 n) false true) h in
    let q = passed (ltb 255 n) true p.1 in
    let l = ltb-false 255 n q.0 in omega arith

said-laid : (rs : List Row) (b : Said) → ok_items (said_items rs b) (said_values b) ≡ true → write_body rs b ≡ write_items (said_items rs b) (said_values b)
said-laid rs (said sub vs) h =
    let o = both (ok_item byte (sub ∷ [])) (ok_items (items_of rs sub) vs) h in
    ap (λ (l : List ℕ). l ++ write_items (items_of rs sub) vs) (sym (byte-item sub (byte_of sub o.0)))

-- ---- a popup's bytes are what it would be written as
pub popup_in_lem : (q : Popup) → ok_popup q ≡ true → length (write_popup q) ≤ 55 → popup_in (write_popup q) ≡ q
popup_in_lem (popup k p vs) o l =
    let t = passed (alone k p) (ok_items (popup_items k p) vs) o in
    ap (λ (a : Answer ScreenPopupFields). popup_says (value_in blank_fields a)) (inspect-of k p vs o l)
    ∙ says-fields k p vs (each_of (popup_items k p) vs t.1) t.0

pub popup-stored : (n : ℕ) (b : List ℕ) → Bytes b → length b ≡ 55 → made_popup (record { len = n; bytes = b }) ≡ true
    → write_popup (popup_in (take n b)) ≡ take n b
popup-stored n b y l m =
    let q : ScreenPopup = record { len = n; bytes = b } in
    let d = made_decided q y l m in
    let g = constructed d.0 q d.1 in
    by (popup_says d.0) g.0 g.1.0 g.1.1
  where
    by : (q : Popup) → ok_popup q ≡ true → length (write_popup q) ≤ 55 → ◌≡◌ {A = ScreenPopup} (record { len = n; bytes = b }) (popup_of (write_popup q))
        → write_popup (popup_in (take n b)) ≡ take n b
    by q o k e =
        let t : take n b ≡ write_popup q = ap (λ (x : ScreenPopup). take x.len x.bytes) e ∙ unpadded (write_popup q) in
        rw t (ap write_popup (popup_in_lem q o k))

start-laid : (q : Popup) → 0x01 ∷ write_popup q ≡ write_items (start_items q) (start_values q)
start-laid (popup k p vs) = refl

-- ---- THE body: its items
pub body-laid : (p : CommandPayload) (n : ℕ) (b : List ℕ) → Bytes b → length b ≡ 55 → made_beside p n b ≡ true
    → ok_items (body_items p (take n b)) (body_values p (take n b)) ≡ true → body_of p (take n b) ≡ write_items (body_items p (take n b)) (body_values p (take n b))
body-laid (Fc c) n b y l m h = said-laid fc_rows (fc_says c) h
body-laid (Osd c) n b y l m h = said-laid osd_rows (osd_says c) h
body-laid (Vtx c) n b y l m h = said-laid vtx_rows (vtx_says c) h
body-laid (Led c) n b y l m h = said-laid led_rows (led_says c) h
body-laid (General c) n b y l m h = said-laid general_rows (general_says c) h
body-laid (Crossfire c) n b y l m h = said-laid crossfire_rows (crossfire_says c) h
body-laid (FlowControl c) n b y l m h = said-laid flow_rows (flow_says c) h
body-laid (Screen PopupMessageStart) n b y l m h =
    ap (λ (w : List ℕ). 0x01 ∷ w) (sym (popup-stored n b y l m)) ∙ start-laid (popup_in (take n b))
body-laid (Screen (SelectionReturnValue value response)) n b y l m h = said-laid screen_rows (return_says value response) h
body-laid (Ack a) n b y l m h = refl

-- THE layout: items in the order of 01, then the check
pub payload-laid : (c : DirectCommands) → ok_items (body_items c.payload (stored_in c))
    (body_values c.payload (stored_in c)) ≡ true → made c ≡ true → Bytes c.bytes
    → length c.bytes ≡ 55 → payload_of c ≡ items_laid c ++ check_of command_polynomial (0x32 ∷ items_laid c) ∷ []
payload-laid c o m y l =
    payload_is c ∙ ap (λ (w : List ℕ). checked (c.dst_addr ∷ c.src_addr ∷ family_id c.payload ∷ w)) (body-laid c.payload c.len c.bytes y l m o)

pub sound-laid : (c : DirectCommands) → Sound c → payload_of c ≡ items_laid c ++ check_of command_polynomial (0x32 ∷ items_laid c) ∷ []
sound-laid c z = payload-laid c z.in_range z.is_made z.stored z.size

-- ---- all its bytes are bytes
abbrev plain_items : List Item → Bool
plain_items [] = true
plain_items (packed w fs ∷ is) = plain_items is
plain_items (text least most ∷ is) = false

-- a test that every row of a sheet passes
abbrev every_row : (List Item → Bool) → List Row → Bool
every_row test [] = true
every_row test (row k is ∷ rs) = pick (test is) (every_row test rs) false

every_of : (test : List Item → Bool) (rs : List Row) (sub : ℕ) → test [] ≡ true → every_row test rs ≡ true → test (items_of rs sub) ≡ true
every_of test [] sub e h = e
every_of test (row k is ∷ rs) sub e h =
    let t = both (test is) (every_row test rs) h in
    by (eqb sub k) (items_of rs sub) t.0 (every_of test rs sub e t.1)
  where
    by : (t : Bool) (js : List Item) → test is ≡ true → test js ≡ true → test (pick t is js) ≡ true
    by true js p q = p
    by false js p q = q

plain-bytes : (is : List Item) (vs : List (List ℕ)) → plain_items is ≡ true → Bytes (write_items is vs)
plain-bytes [] vs h = tt
plain-bytes (i ∷ is) [] h = tt
plain-bytes (packed w fs ∷ is) (v ∷ vs) h = bytes_append (bytes_of w (join (widths fs) v)) (write_items is vs)
    (digit_bytes w (join (widths fs) v)) (plain-bytes is vs h)
plain-bytes (text least most ∷ is) (v ∷ vs) h = let z : ◌≡◌ {A = ℕ} 0 1 = cc in absurd (omega arith)

said-bytes : (rs : List Row) (b : Said) → every_row plain_items rs ≡ true → known rs b ≡ true → Bytes (write_body rs b)
said-bytes rs (said sub vs) p k =
    let a = both (has_row rs sub) (pick (ltb sub 256) (eqb (length (items_of rs sub)) (length vs)) false) k in
    let b = both (ltb sub 256) (eqb (length (items_of rs sub)) (length vs)) a.1 in
    (ltb-true sub 256 b.0, plain-bytes (items_of rs sub) vs (every_of plain_items rs sub refl p))

body_bytes : (p : CommandPayload) (t : List ℕ) → Bytes t → Bytes (body_of p t)
body_bytes (Fc c) t y = said-bytes fc_rows (fc_says c) refl (fc_known c)
body_bytes (Osd c) t y = said-bytes osd_rows (osd_says c) refl (osd_known c)
body_bytes (Vtx c) t y = said-bytes vtx_rows (vtx_says c) refl (vtx_known c)
body_bytes (Led c) t y = said-bytes led_rows (led_says c) refl (led_known c)
body_bytes (General c) t y = said-bytes general_rows (general_says c) refl (general_known c)
body_bytes (Crossfire c) t y = said-bytes crossfire_rows (crossfire_says c) refl (crossfire_known c)
body_bytes (FlowControl c) t y = said-bytes flow_rows (flow_says c) refl (flow_known c)
body_bytes (Screen PopupMessageStart) t y = (omega arith, y)
body_bytes (Screen (SelectionReturnValue value response)) t y = said-bytes screen_rows (return_says value response) refl refl
body_bytes (Ack a) t y =
    bytes_append (write_items (byte ∷ byte ∷ flag ∷ []) ((a.command_id ∷ []) ∷ (a.sub_command_id ∷ []) ∷ (a.action ∷ []) ∷ [])) ((t ++ 0 ∷ []) ++ [])
    (plain-bytes (byte ∷ byte ∷ flag ∷ []) ((a.command_id ∷ []) ∷ (a.sub_command_id ∷ []) ∷ (a.action ∷ []) ∷ []) refl)
    (bytes_append (t ++ 0 ∷ []) [] (bytes_append t (0 ∷ []) y (omega arith, tt)) tt)

pub id_byte : (p : CommandPayload) → family_id p < 256
id_byte (Fc c) = omega arith
id_byte (Osd c) = omega arith
id_byte (Vtx c) = omega arith
id_byte (Led c) = omega arith
id_byte (General c) = omega arith
id_byte (Crossfire c) = omega arith
id_byte (FlowControl c) = omega arith
id_byte (Screen c) = omega arith
id_byte (Ack a) = omega arith

payload-bytes : (c : DirectCommands) → c.dst_addr < 256 → c.src_addr < 256 → Bytes c.bytes → Bytes (payload_of c)
payload-bytes c d s y =
    let o = opening c.dst_addr c.src_addr c.payload (stored_in c) in
    subst Bytes (sym (payload_is c))
    (bytes_append o (check_of command_polynomial (0x32 ∷ o) ∷ [])
    (d, (s, (id_byte c.payload, body_bytes c.payload (stored_in c) (bytes_take c.len c.bytes y))))
    ((check_is_remainder command (0x32 ∷ o)).low, tt))

pub sound-bytes : (c : DirectCommands) → Sound c → Bytes (payload_of c)
sound-bytes c z = payload-bytes c z.destination z.source z.stored

-- ---- what is in range is stopped by nothing where it has room
said_free : (rs : List Row) (room : ℕ) (b : Said) → ok_items (said_items rs b) (said_values b) ≡ true → length (write_body rs b) ≤ room → stop_in_order rs room b ≡ 0
said_free rs room (said sub vs) h l = in_order_free rs room sub vs (both (ok_item byte (sub ∷ [])) (ok_items (items_of rs sub) vs) h).1 l

said_free_first : (rs : List Row) (room : ℕ) (b : Said) → ok_items (said_items rs b) (said_values b) ≡ true
    → length (write_body rs b) ≤ room → stop_values_first rs room b ≡ 0
said_free_first rs room (said sub vs) h l = values_first_free rs room sub vs (both (ok_item byte (sub ∷ [])) (ok_items (items_of rs sub) vs) h).1 l

-- the three numbers of an ACK
ack_in : (a : CommandAck) (t : List ℕ) → ok_items ack_items (ack_says a t) ≡ true
    → (a.command_id < 256) × ((a.sub_command_id < 256) × (action_ok (ack_says a t) ≡ true))
ack_in a t h =
    let x = both (ok_item byte (a.command_id ∷ [])) (ok_items (byte ∷ flag ∷ text 0 52 ∷ []) ((a.sub_command_id ∷ []) ∷ (a.action ∷ []) ∷ t ∷ [])) h in
    let y = both (ok_item byte (a.sub_command_id ∷ [])) (ok_items (flag ∷ text 0 52 ∷ []) ((a.action ∷ []) ∷ t ∷ [])) x.1 in
    let z = both (ok_item flag (a.action ∷ [])) (ok_items (text 0 52 ∷ []) (t ∷ [])) y.1 in
    (byte_of a.command_id x.0, (byte_of a.sub_command_id y.0, z.0))

body_free : (p : CommandPayload) (t : List ℕ) (room : ℕ) → ok_items (body_items p t) (body_values p t) ≡ true → length (body_of p t) ≤ room → stop_body p t room ≡ 0
body_free (Fc c) t room h l = said_free fc_rows room (fc_says c) h l
body_free (Osd c) t room h l = said_free osd_rows room (osd_says c) h l
body_free (Vtx c) t room h l = said_free_first vtx_rows room (vtx_says c) h l
body_free (Led c) t room h l = said_free led_rows room (led_says c) h l
body_free (General c) t room h l = said_free general_rows room (general_says c) h l
body_free (Crossfire c) t room h l = said_free crossfire_rows room (crossfire_says c) h l
body_free (FlowControl c) t room h l = said_free flow_rows room (flow_says c) h l
body_free (Screen c) t room h l = room-there room (length (screen_body c t)) l
body_free (Ack a) t room h l = rw (ack_in a t h).1.1 (room-there room (length (write_items ack_items (ack_says a t))) l)

pub sound-accepted : (c : DirectCommands) → Sound c → (n : ℕ) → length (payload_of c) ≤ n → stop_writing c n ≡ 0
sound-accepted c z n h =
    let k = length (body_of c.payload (stored_in c)) in
    let e : length (payload_of c) ≡ k + 4 = payload-length c in
    stop-body c n z.is_made (omega (arith, e, h))
    ∙ body_free c.payload (stored_in c) (room_of n) z.in_range (room-enough k n (omega (arith, e, h)) (omega (arith, e, z.short)))

-- ---- it reads back
typed_in : (p : CommandPayload) (t : List ℕ) → ok_items (body_items p t) (body_values p t) ≡ true → TypedPayload p
typed_in (Fc c) t h = tt
typed_in (Osd c) t h = tt
typed_in (Vtx c) t h = tt
typed_in (Led c) t h = tt
typed_in (General c) t h = tt
typed_in (Crossfire c) t h = tt
typed_in (FlowControl c) t h = tt
typed_in (Screen PopupMessageStart) t h = tt
typed_in (Screen (SelectionReturnValue value response)) t h = byte_of value
    (both (ok_item byte (value ∷ [])) (ok_items (flag ∷ []) ((bit response ∷ []) ∷ [])) h).0
typed_in (Ack a) t h = let x = ack_in a t h in (x.0, x.1.0)

pub sound_back : (c : DirectCommands) → Sound c → read_command (payload_of c) ≡ got c
sound_back c z =
    written_back c (length (payload_of c)) (typed_in c.payload (stored_in c) z.in_range, (z.stored, z.size))
    (sound-accepted c z (length (payload_of c)) (omega arith))

-- ---- bit 7 of a pit byte "is written 0 and ignored on reading"
abbrev pub PitByte : VtxCommand → List ℕ → Type 0
PitByte (SetFrequency f) p = Unit {0}
PitByte (EnablePitModeOnPowerUp mode control switch) p = get_or p 4 0 < 128
PitByte PowerUpFromPitMode p = Unit {0}
PitByte (SetDynamicPower n) p = Unit {0}
PitByte (SetPower n) p = Unit {0}

abbrev pub PitClear : CommandPayload → List ℕ → Type 0
PitClear (Fc c) p = Unit {0}
PitClear (Osd c) p = Unit {0}
PitClear (Vtx c) p = PitByte c p
PitClear (Led c) p = Unit {0}
PitClear (General c) p = Unit {0}
PitClear (Crossfire c) p = Unit {0}
PitClear (FlowControl c) p = Unit {0}
PitClear (Screen c) p = Unit {0}
PitClear (Ack a) p = Unit {0}

pit-low : (switch control mode : ℕ) → ok_item pit (switch ∷ control ∷ mode ∷ []) ≡ true → (switch * 8 + (control * 2 + (mode * 1 + 0))) / 1 % 256 < 128
pit-low switch control mode h =
    let a = passed (ltb switch 0)
    (pick (ltb 15 switch) false
    (pick (ltb control 0) false
    (pick (ltb 3 control) false (pick (ltb mode 0) false (pick (ltb 1 mode) false true))))) h in
    let b = passed (ltb 15 switch) (pick (ltb control 0) false (pick (ltb 3 control) false (pick (ltb mode 0) false (pick (ltb 1 mode) false true)))) a.1 in
    let c = passed (ltb control 0) (pick (ltb 3 control) false (pick (ltb mode 0) false (pick (ltb 1 mode) false true))) b.1 in
    let d = passed (ltb 3 control) (pick (ltb mode 0) false (pick (ltb 1 mode) false true)) c.1 in
    let e = passed (ltb mode 0) (pick (ltb 1 mode) false true) d.1 in
    let f = passed (ltb 1 mode) true e.1 in
    let x = ltb-false 15 switch b.0 in
    let y = ltb-false 3 control d.0 in
    let z = ltb-false 1 mode f.0 in omega arith

clear_by : (dst src : ℕ) (p : CommandPayload) (t : List ℕ) → ok_items (body_items p t) (body_values p t) ≡ true → PitClear p (checked (opening dst src p t))
clear_by dst src (Fc c) t h = tt
clear_by dst src (Osd c) t h = tt
clear_by dst src (Vtx (SetFrequency f)) t h = tt
clear_by dst src (Vtx (EnablePitModeOnPowerUp mode control switch)) t h = pit-low switch control (bit mode)
    (both (ok_item pit (switch ∷ control ∷ bit mode ∷ [])) true h).0
clear_by dst src (Vtx PowerUpFromPitMode) t h = tt
clear_by dst src (Vtx (SetDynamicPower n)) t h = tt
clear_by dst src (Vtx (SetPower n)) t h = tt
clear_by dst src (Led c) t h = tt
clear_by dst src (General c) t h = tt
clear_by dst src (Crossfire c) t h = tt
clear_by dst src (FlowControl c) t h = tt
clear_by dst src (Screen c) t h = tt
clear_by dst src (Ack a) t h = tt

pub written_clear : (c : DirectCommands) → Sound c → PitClear c.payload (payload_of c)
written_clear c z = subst (PitClear c.payload) (sym (payload_is c)) (clear_by c.dst_addr c.src_addr c.payload (stored_in c) z.in_range)

-- ---- a payload is its first three bytes, its body, and its check
front_three : (p : List ℕ) (m : ℕ) → 3 ≤ length p → take (suc (suc (suc m))) p ≡ get_or p 0 0 ∷ get_or p 1 0 ∷ get_or p 2 0 ∷ take m (drop 3 p)
front_three [] m h = absurd (omega arith)
front_three (a ∷ []) m h = absurd (omega arith)
front_three (a ∷ b ∷ []) m h = absurd (omega arith)
front_three (a ∷ b ∷ d ∷ r) m h = refl

whole : (p : List ℕ) → 4 ≤ length p → check_in p ≡ payload_check p → p ≡ checked (get_or p 0 0 ∷ get_or p 1 0 ∷ get_or p 2 0 ∷ body_in p)
unfolding typed_check
whole p l h =
    let o = take (length p - 1) p in
    let e : length p - 1 ≡ suc (suc (suc (length p - 4))) = omega arith in
    let f : o ≡ get_or p 0 0 ∷ get_or p 1 0 ∷ get_or p 2 0 ∷ body_in p = ap (λ (n : ℕ). take n p) e ∙ front_three p (length p - 4) (omega arith) in
    let g : p ≡ o ++ check_in p ∷ [] = sym (take_all (suc (length p - 1)) p (omega arith)) ∙ take-suc p (length p - 1) 0 (omega arith) in
    g ∙ (ap (λ (x : ℕ). o ++ x ∷ []) h ∙ ap (λ (x : List ℕ). checked x) f)

-- ---- a body that was read is in range, and stands in front, but for bit 7 of a pit byte
abbrev InFront : List Item → List (List ℕ) → List ℕ → Type 0
InFront is vs s = take (length (write_items is vs)) s ≡ write_items is vs

-- what is stored beside it has room in the record
abbrev Beside : List ℕ → Type 0
Beside t = Bytes t × (length t ≤ 55)

abbrev Stands : CommandPayload → List ℕ → List ℕ → Type 0
Stands p t s =
    (ok_items (body_items p t) (body_values p t) ≡ true)
    × (Beside t × (PitClear p (0 ∷ 0 ∷ 0 ∷ s) → InFront (body_items p t) (body_values p t) s))

no_bytes : (t : List ℕ) → [] ≡ t → Beside t
no_bytes t e = subst Beside e (tt, omega arith)

-- ---- a body of a sheet
byte_one : (s v : List ℕ) → read_item byte s ≡ got v → first v ∷ [] ≡ v
byte_one s v h = let e = (item-there byte s v h).1.1 in rw e

row-items : (rs : List Row) (s v : List ℕ) (b : Said) → read_item byte (drop 0 s) ≡ got v → read_row rs s (first v) ≡ got b
    → (sub : ℕ) × ((vs : List (List ℕ)) × ((b ≡ said sub vs) × ((has_row rs sub ≡ true) × (read_items (byte ∷ items_of rs sub) s 0 ≡ got ((sub ∷ []) ∷ vs)))))
row-items rs s v b h g =
    let r = row-there rs s (first v) b g in
    let i : read_items (byte ∷ items_of rs (first v)) s 0 ≡ got (v ∷ r.1.0) = rw (h, r.1.1.1) in
    (first v, (r.1.0, (r.1.1.0, (r.0, i ∙ ap (λ (u : List ℕ). got (u ∷ r.1.0)) (sym (byte_one (drop 0 s) v h))))))

sheet_read : {C : Type 0} (rs : List Row) (says : C → Said) (of : Said → C) (c : C) (s : List ℕ) (b : Said)
    → ((sub : ℕ) (vs : List (List ℕ)) → has_row rs sub ≡ true → ok_items (items_of rs sub) vs ≡ true → says (of (said sub vs)) ≡ said sub vs)
    → read_body rs s ≡ got b → of b ≡ c → read_items (said_items rs (says c)) s 0 ≡ got (said_values (says c))
sheet_read rs says of c s b law h e =
    let x = and_got (read_item byte (drop 0 s)) (λ v. read_row rs s (first v)) b h in
    let r = row-items rs s x.0 b x.1.0 x.1.1 in
    let sub = r.0 in
    let vs = r.1.0 in
    let o = (items-there (byte ∷ items_of rs sub) s 0 ((sub ∷ []) ∷ vs) (omega arith) r.1.1.1.1).0 in
    let q = law sub vs r.1.1.1.0 (both (ok_item byte (sub ∷ [])) (ok_items (items_of rs sub) vs) o).1 in
    let f : said sub vs ≡ says c = sym q ∙ ap says (ap of (sym r.1.1.0) ∙ e) in
    subst (λ (d : Said). read_items (said_items rs d) s 0 ≡ got (said_values d)) f r.1.1.1.1

read_ok : (is : List Item) (vs : List (List ℕ)) (s : List ℕ) → read_items is s 0 ≡ got vs → ok_items is vs ≡ true
read_ok is vs s h = (items-there is s 0 vs (omega arith) h).0

said_front : (rs : List Row) (b : Said) (s : List ℕ) → every_row exact_items rs ≡ true → Bytes s
    → read_items (said_items rs b) s 0 ≡ got (said_values b) → InFront (said_items rs b) (said_values b) s
said_front rs (said sub vs) s x y h = items_forth (byte ∷ items_of rs sub) s 0 ((sub ∷ []) ∷ vs) (every_of exact_items rs sub refl x) y h

sheet_stands : {C : Type 0} (rs : List Row) (says : C → Said) (of : Said → C) (c : C) (t s : List ℕ) (b : Said)
    → ((sub : ℕ) (vs : List (List ℕ)) → has_row rs sub ≡ true → ok_items (items_of rs sub) vs ≡ true → says (of (said sub vs)) ≡ said sub vs)
    → every_row exact_items rs ≡ true → Bytes s → read_body rs s ≡ got b → of b ≡ c → [] ≡ t
    → (ok_items (said_items rs (says c)) (said_values (says c)) ≡ true) × (Beside t × (Unit {0} → InFront (said_items rs (says c)) (said_values (says c)) s))
sheet_stands rs says of c t s b law x y h e f =
    let r = sheet_read rs says of c s b law h e in
    (read_ok (said_items rs (says c)) (said_values (says c)) s r, (no_bytes t f, λ z. said_front rs (says c) s x y r))

-- ---- 0x08 VTX: the pit byte
low_front : (w : ℕ) (fs : List Field) (s v : List ℕ) → Bytes s → number_of (take w s) < 2 ^ sum (widths fs)
    → read_item (packed w fs) s ≡ got v → take w s ≡ item_bytes (packed w fs) v
low_front w fs s v y m h =
    let t = item-there (packed w fs) s v h in
    let n = bytes-number (take w s) w (length-take-le w s t.1.0) (bytes_take w s y) in
    rw (t.1.1, join-split (widths fs) (number_of (take w s)), mod-eq_of_lt m) (sym n.0)

pit_front : (s v : List ℕ) → Bytes s → get_or s 0 0 < 128 → read_item pit s ≡ got v → take 1 s ≡ item_bytes pit v
pit_front [] v y l h = let n = (item-there pit [] v h).1.0 in absurd (omega arith)
pit_front (x ∷ r) v y l h = low_front 1 (field 4 0 15 ∷ field 2 0 3 ∷ field 1 0 1 ∷ []) (x ∷ r) v y (omega arith) h

two : (a b : Answer (List ℕ)) (v w : List ℕ)
    → and_then a (λ x. and_then (and_then b (λ y. got (y ∷ []))) (λ ws. got (x ∷ ws))) ≡ got (v ∷ w ∷ [])
    → (a ≡ got v) × (b ≡ got w)
two (got x) (got y) v w h = (cc, cc)
two (got x) (refused n m) v w h = let z : ◌≡◌ {A = ℕ} 0 1 = cc in absurd (omega arith)
two (refused n m) b v w h = let z : ◌≡◌ {A = ℕ} 0 1 = cc in absurd (omega arith)

vtx_front : (c : VtxCommand) (s : List ℕ) → Bytes s → read_items (said_items vtx_rows (vtx_says c)) s 0 ≡ got (said_values (vtx_says c)) → PitByte c (0 ∷ 0 ∷ 0 ∷ s)
    → InFront (said_items vtx_rows (vtx_says c)) (said_values (vtx_says c)) s
vtx_front (SetFrequency f) s y h k = items_forth (byte ∷ frequency ∷ []) s 0 ((0x02 ∷ []) ∷ (f ∷ []) ∷ []) refl y h
vtx_front (EnablePitModeOnPowerUp mode control switch) s y h k =
    let v = switch ∷ control ∷ bit mode ∷ [] in
    let r = two (read_item byte (drop 0 s)) (read_item pit (drop 1 s)) (0x04 ∷ []) v h in
    let f : take 1 s ≡ 0x04 ∷ [] = item_forth byte s (0x04 ∷ []) refl y r.0 in
    let g : take 1 (drop 1 s) ≡ item_bytes pit v = pit_front (drop 1 s) v (bytes_drop 1 s y) (rw (get_or-drop 1 s 0 0) k) r.1 in
    take-add 1 1 s ∙ (ap (λ (l : List ℕ). l ++ take 1 (drop 1 s)) f ∙ ap (λ (l : List ℕ). 0x04 ∷ l) g)
vtx_front PowerUpFromPitMode s y h k = items_forth (byte ∷ []) s 0 ((0x05 ∷ []) ∷ []) refl y h
vtx_front (SetDynamicPower p) s y h k = items_forth (byte ∷ byte ∷ []) s 0 ((0x06 ∷ []) ∷ (p ∷ []) ∷ []) refl y h
vtx_front (SetPower p) s y h k = items_forth (byte ∷ byte ∷ []) s 0 ((0x08 ∷ []) ∷ (p ∷ []) ∷ []) refl y h

-- ---- 0x22 Screen
start_ok : (q : Popup) → ok_popup q ≡ true → ok_items (start_items q) (start_values q) ≡ true
start_ok (popup k p vs) o = (passed (alone k p) (ok_items (popup_items k p) vs) o).1

start-stands : (s : List ℕ) (q : Popup) → Bytes s → read_screen s ≡ got (started q) → Stands (Screen PopupMessageStart) (write_popup q) s
start-stands s q y h =
    let x = started_is s q h in
    let f = popup_forth s 1 q y x.0 x.1.0 in
    let w = screen_way s (started q) h in
    let u : 0x01 ∷ [] ≡ w.0 = ap (λ (n : ℕ). n ∷ []) (sym w.1.1) ∙ byte_one (drop 0 s) w.0 w.1.0 in
    let d : take 1 s ≡ 0x01 ∷ [] = item_forth byte s (0x01 ∷ []) refl y (w.1.0 ∙ ap (λ (l : List ℕ). got l) (sym u)) in
    let i = popup_in_lem q f.0 x.1.1 in
    let n = length (write_popup q) in
    let j : suc n ≡ 1 + n = omega arith in
    let t : take (1 + n) s ≡ 0x01 ∷ write_popup q = take-add 1 n s
    ∙ (ap (λ (l : List ℕ). l ++ take n (drop 1 s)) d ∙ ap (λ (l : List ℕ). 0x01 ∷ l) f.1.1) in (
      subst (λ (r : Popup). ok_items (start_items r) (start_values r) ≡ true) (sym i) (start_ok q f.0),
      (
        (subst Bytes f.1.1 (bytes_take n (drop 1 s) (bytes_drop 1 s y)), x.1.1),
        λ z. subst (λ (r : Popup). InFront (start_items r) (start_values r) s) (sym i)
            (subst (λ (l : List ℕ). take (length l) s ≡ l) (start-laid q) (ap (λ (m : ℕ). take m s) j ∙ t)),
      ),
    )

return-by : (s t : List ℕ) (value : ℕ) (response : Bool) → Bytes s → [] ≡ t
    → read_items (said_items screen_rows (return_says value response)) s 0 ≡ got (said_values (return_says value response))
    → Stands (Screen (SelectionReturnValue value response)) t s
return-by s t value response y e h = (
  read_ok (said_items screen_rows (return_says value response)) (said_values (return_says value response)) s h,
  (no_bytes t e, λ z. said_front screen_rows (return_says value response) s refl y h),
)

return_of_lem : (s t : List ℕ) (b : Said) (sub : ℕ) (vs : List (List ℕ)) → Bytes s → [] ≡ t → b ≡ said sub vs → has_row screen_rows sub ≡ true
    → read_items (byte ∷ items_of screen_rows sub) s 0 ≡ got ((sub ∷ []) ∷ vs) → Stands (Screen (return_of b)) t s
return_of_lem s t b sub vs y e f k h =
    let o = read_ok (byte ∷ items_of screen_rows sub) ((sub ∷ []) ∷ vs) s h in
    let g = return-said sub vs k (both (ok_item byte (sub ∷ [])) (ok_items (items_of screen_rows sub) vs) o).1 in
    let d = subst (λ (b : Said). read_items (said_items screen_rows b) s 0 ≡ got (said_values b)) g.1.1.1 h in
    subst (λ (c : ScreenCommand). Stands (Screen c) t s) (sym (ap return_of f ∙ g.1.1.0)) (return-by s t g.0 g.1.0 y e d)

return-stands : (s : List ℕ) (b : Said) (t : List ℕ) → Bytes s → [] ≡ t → read_screen s ≡ got (returned b) → Stands (Screen (return_of b)) t s
return-stands s b t y e h =
    let w = screen_way s (returned b) h in
    let r = row-items screen_rows s w.0 b w.1.0 w.1.1 in
    return_of_lem s t b r.0 r.1.0 y e r.1.1.0 r.1.1.1.0 r.1.1.1.1

-- ---- 0xFF ACK
bytes_left_lem : (s t : List ℕ) → Bytes (s ++ t) → Bytes s
bytes_left_lem [] t h = tt
bytes_left_lem (b ∷ s) t h = (h.0, bytes_left_lem s t h.1)

ack_ok : (a : CommandAck) (t : List ℕ) → ok_items ack_loose (ack_says a t) ≡ true → action_ok (ack_says a t) ≡ true → ok_items ack_items (ack_says a t) ≡ true
ack_ok a t h k =
    let x = both (ok_item byte (a.command_id ∷ [])) (ok_items (byte ∷ byte ∷ text 0 52 ∷ []) ((a.sub_command_id ∷ []) ∷ (a.action ∷ []) ∷ t ∷ [])) h in
    let y = both (ok_item byte (a.sub_command_id ∷ [])) (ok_items (byte ∷ text 0 52 ∷ []) ((a.action ∷ []) ∷ t ∷ [])) x.1 in
    let z = both (ok_item byte (a.action ∷ [])) (ok_items (text 0 52 ∷ []) (t ∷ [])) y.1 in
    joined (ok_item byte (a.command_id ∷ [])) (ok_items (byte ∷ flag ∷ text 0 52 ∷ []) ((a.sub_command_id ∷ []) ∷ (a.action ∷ []) ∷ t ∷ [])) x.0
    (joined (ok_item byte (a.sub_command_id ∷ [])) (ok_items (flag ∷ text 0 52 ∷ []) ((a.action ∷ []) ∷ t ∷ [])) y.0
    (joined (ok_item flag (a.action ∷ [])) (ok_items (text 0 52 ∷ []) (t ∷ [])) k z.1))

ack_by : (s : List ℕ) (a : CommandAck) (t : List ℕ) → Bytes s → read_items ack_loose s 0 ≡ got (ack_says a t) → action_ok (ack_says a t) ≡ true → Stands (Ack a) t s
ack_by s a t y h k =
    let f : InFront ack_items (ack_says a t) s = items_forth ack_loose s 0 (ack_says a t) refl y h in
    let w : Bytes (write_items ack_items (ack_says a t)) = subst Bytes f (bytes_take (length (write_items ack_items (ack_says a t))) s y) in
    let l = (loose_range s (ack_says a t) h).0 in
    (ack_ok a t (read_ok ack_loose (ack_says a t) s h) k, ((bytes_left_lem t (0 ∷ []) (bytes_left_lem (t ++ 0 ∷ []) [] w.1.1.1), omega arith), λ z. f))

ack_stands : (s : List ℕ) (vs : List (List ℕ)) → Bytes s → read_ack s ≡ got vs → Stands (Ack (ack_of vs)) (get_or vs 3 []) s
ack_stands s vs y h =
    let r = ack_read s vs h in
    let f : vs ≡ ack_says (ack_of vs) (get_or vs 3 []) = sym (ack_fixed s vs h) in
    ack_by s (ack_of vs) (get_or vs 3 []) y (r.0 ∙ ap (λ (ws : List (List ℕ)). got ws) f) (subst (λ (ws : List (List ℕ)). action_ok ws ≡ true) f r.1)

-- ---- of every family
screen_by : (s : List ℕ) (c : ScreenCommand) (t : List ℕ) (q : ScreenSaid) → Bytes s → read_screen s ≡ got q
    → screen_with_stored q ≡ with_stored (Screen c) t → Stands (Screen c) t s
screen_by s c t (started q) y h e =
    let f : PopupMessageStart ≡ c = cc in
    let g : write_popup q ≡ t = cc in
    subst (λ (d : ScreenCommand). Stands (Screen d) t s) f (subst (λ (w : List ℕ). Stands (Screen PopupMessageStart) w s) g (start-stands s q y h))
screen_by s c t (returned b) y h e =
    let f : return_of b ≡ c = cc in
    let g : [] ≡ t = cc in
    subst (λ (d : ScreenCommand). Stands (Screen d) t s) f (return-stands s b t y g h)

family-stands : (p : CommandPayload) (t s : List ℕ) → Bytes s → read_family (family_id p) s ≡ got (with_stored p t) → Stands p t s
family-stands (Fc c) t s y h =
    let x = and_got (read_body fc_rows s) (λ b. got (with_stored (Fc (fc_of b)) [])) (with_stored (Fc c) t) h in
    sheet_stands fc_rows fc_says fc_of c t s x.0 fc_said refl y x.1.0 (cc) (cc)
family-stands (Osd c) t s y h =
    let x = and_got (read_body osd_rows s) (λ b. got (with_stored (Osd (osd_of b)) [])) (with_stored (Osd c) t) h in
    sheet_stands osd_rows osd_says osd_of c t s x.0 osd_said refl y x.1.0 (cc) (cc)
family-stands (Vtx c) t s y h =
    let x = and_got (read_body vtx_rows s) (λ b. got (with_stored (Vtx (vtx_of b)) [])) (with_stored (Vtx c) t) h in
    let r = sheet_read vtx_rows vtx_says vtx_of c s x.0 vtx_said x.1.0 (cc) in
    (read_ok (said_items vtx_rows (vtx_says c)) (said_values (vtx_says c)) s r, (no_bytes t (cc), λ z. vtx_front c s y r z))
family-stands (Led c) t s y h =
    let x = and_got (read_body led_rows s) (λ b. got (with_stored (Led (led_of b)) [])) (with_stored (Led c) t) h in
    sheet_stands led_rows led_says led_of c t s x.0 led_said refl y x.1.0 (cc) (cc)
family-stands (General c) t s y h =
    let x = and_got (read_body general_rows s) (λ b. got (with_stored (General (general_of b)) [])) (with_stored (General c) t) h in
    sheet_stands general_rows general_says general_of c t s x.0 general_said refl y x.1.0 (cc) (cc)
family-stands (Crossfire c) t s y h =
    let x = and_got (read_body crossfire_rows s) (λ b. got (with_stored (Crossfire (crossfire_of b)) [])) (with_stored (Crossfire c) t) h in
    sheet_stands crossfire_rows crossfire_says crossfire_of c t s x.0 crossfire_said refl y x.1.0 (cc) (cc)
family-stands (FlowControl c) t s y h =
    let x = and_got (read_body flow_rows s) (λ b. got (with_stored (FlowControl (flow_of b)) [])) (with_stored (FlowControl c) t) h in
    sheet_stands flow_rows flow_says flow_of c t s x.0 flow_said refl y x.1.0 (cc) (cc)
family-stands (Screen c) t s y h =
    let x = and_got (read_screen s) (λ q. got (screen_with_stored q)) (with_stored (Screen c) t) h in
    let e : screen_with_stored x.0 ≡ with_stored (Screen c) t = cc in
    screen_by s c t x.0 y x.1.0 e
family-stands (Ack a) t s y h =
    let x = and_got (read_ack s) (λ vs. got (ack_with_stored vs)) (with_stored (Ack a) t) h in
    let e : ack_of x.0 ≡ a = cc in
    let f : get_or x.0 3 [] ≡ t = cc in
    subst (λ (b : CommandAck). Stands (Ack b) t s) e (subst (λ (w : List ℕ). Stands (Ack (ack_of x.0)) w s) f (ack_stands s x.0 y x.1.0))

-- ---- of a whole payload: its addresses, its id, and its body
abbrev Told : List ℕ → DirectCommands → Type 0
Told p c =
    (get_or p 0 0 ≡ c.dst_addr)
    × ((get_or p 1 0 ≡ c.src_addr)
    × ((get_or p 2 0 ≡ family_id c.payload)
    × (Stands c.payload (stored_in c) (body_in p) × (Bytes c.bytes × (length c.bytes ≡ 55)))))

told-by : (p : List ℕ) (q : CommandPayload) (t : List ℕ) → Bytes p → read_family (get_or p 2 0) (body_in p) ≡ got
    (with_stored q t) → Told p (command_of (get_or p 0 0) (get_or p 1 0) (with_stored q t))
told-by p q t y h =
    let z : Bytes (body_in p) = bytes_take (length p - 4) (drop 3 p) (bytes_drop 3 p y) in
    let i : get_or p 2 0 ≡ family_id q = sym (family_forth (get_or p 2 0) (body_in p) (with_stored q t) z h).0 in
    let s = family-stands q t (body_in p) z (subst (λ (n : ℕ). read_family n (body_in p) ≡ got (with_stored q t)) i h) in
    let l : length (padded 55 t) ≡ 55 = rw (
      length-append t (replicate (55 - length t) 0),
      length-replicate {A = ℕ}
          (55 - length t) 0,
    ) (omega (arith, s.1.0.1)) in (
      refl,
      (
        refl,
        (
          i,
          (
            subst (λ (w : List ℕ). Stands q w (body_in p)) (sym (unpadded t)) s,
            (bytes_append t (replicate (55 - length t) 0) s.1.0.0 (bytes-zeros (55 - length t)), l),
          ),
        ),
      ),
    )

told_of : (p : List ℕ) (k : WithStored) → Bytes p → read_family (get_or p 2 0) (body_in p) ≡ got k → Told p (command_of (get_or p 0 0) (get_or p 1 0) k)
told_of p (with_stored q t) y h = told-by p q t y h

told : (p : List ℕ) (c : DirectCommands) → Bytes p → read_command p ≡ got c → Told p c
told p c y h = let k = (read_parts p c h).body in subst (Told p) k.1.1 (told_of p k.0 y k.1.0)

byte_at : (p : List ℕ) (i : ℕ) → Bytes p → get_or p i 0 < 256
byte_at [] i h = omega arith
byte_at (b ∷ p) zero h = h.0
byte_at (b ∷ p) (suc i) h = byte_at p i h.1

-- whatever is read is sound
pub read_sound : (p : List ℕ) (c : DirectCommands) → Bytes p → read_command p ≡ got c → Sound c
read_sound p c y h =
    let r = told p c y h in
    record {
      destination = subst (λ (n : ℕ). n < 256) r.0 (byte_at p 0 y);
      source = subst (λ (n : ℕ). n < 256) r.1.0 (byte_at p 1 y);
      in_range = r.1.1.1.0.0;
      is_made = (read_writable p c y h).0;
      stored = r.1.1.1.1.0;
      size = r.1.1.1.1.1;
      short = (read_fits p c y h).0;
    }

-- and so is whatever is written
pub accepted-sound : (c : DirectCommands) (n : ℕ) → c.dst_addr < 256 → c.src_addr < 256 → Typed c → stop_writing c n ≡ 0 → Sound c
accepted-sound c n d s x h = read_sound (payload_of c) c (payload-bytes c d s x.1.0) (written_back c n x h)

-- ---- what is read and not as written differs in its length or in bit 7 of a pit byte
second_clear : (s : List ℕ) (k : ℕ) → get_or (s ++ k ∷ []) 1 0 < 128 → get_or s 1 0 < 128
second_clear [] k h = omega arith
second_clear (a ∷ []) k h = omega arith
second_clear (a ∷ b ∷ s) k h = h

body_clear : (q : CommandPayload) (a b d k : ℕ) (s : List ℕ) → PitClear q (a ∷ b ∷ d ∷ (s ++ k ∷ [])) → PitClear q (0 ∷ 0 ∷ 0 ∷ s)
body_clear (Fc c) a b d k s h = tt
body_clear (Osd c) a b d k s h = tt
body_clear (Vtx (SetFrequency f)) a b d k s h = tt
body_clear (Vtx (EnablePitModeOnPowerUp mode control switch)) a b d k s h = second_clear s k h
body_clear (Vtx PowerUpFromPitMode) a b d k s h = tt
body_clear (Vtx (SetDynamicPower n)) a b d k s h = tt
body_clear (Vtx (SetPower n)) a b d k s h = tt
body_clear (Led c) a b d k s h = tt
body_clear (General c) a b d k s h = tt
body_clear (Crossfire c) a b d k s h = tt
body_clear (FlowControl c) a b d k s h = tt
body_clear (Screen c) a b d k s h = tt
body_clear (Ack a') a b d k s h = tt

checked-size : (a b d : ℕ) (s : List ℕ) → length (checked (a ∷ b ∷ d ∷ s)) ≡ length s + 4
checked-size a b d s = rw (length-append s) (omega arith)

pub as_written : (p : List ℕ) (c : DirectCommands) → Bytes p → read_command p ≡ got c → length p ≡ length (payload_of c)
    → PitClear c.payload p → p ≡ payload_of c
as_written p c y h l g =
    let r = read_parts p c h in
    let t = told p c y h in
    let s = body_in p in
    let w = write_items (body_items c.payload (stored_in c)) (body_values c.payload (stored_in c)) in
    let o = get_or p 0 0 ∷ get_or p 1 0 ∷ get_or p 2 0 ∷ s in
    let e : p ≡ checked o = whole p r.least r.check in
    let f : payload_of c ≡ checked (items_laid c) = sound-laid c (read_sound p c y h) in
    let m : length s + 4 ≡ length w + 4 = sym (checked-size (get_or p 0 0) (get_or p 1 0) (get_or p 2 0) s)
    ∙ (sym (ap length e) ∙ (l
    ∙ (ap length f ∙ checked-size c.dst_addr c.src_addr (family_id c.payload) w))) in
    let k : length s ≤ length w = omega arith in
    let d = body_clear c.payload (get_or p 0 0) (get_or p 1 0) (get_or p 2 0) (check_of command_polynomial (0x32 ∷ o)) s (subst (PitClear c.payload) e g) in
    let i : s ≡ w = sym (take_all (length w) s k) ∙ t.1.1.1.0.1.1 d in
    let j : o ≡ items_laid c = alike t.0 t.1.0 t.1.1.0 i in
    e ∙ (ap (λ (x : List ℕ). checked x) j ∙ sym f)
  where
    alike : {a b d a' b' d' : ℕ} {s w : List ℕ} → a ≡ a' → b ≡ b' → d ≡ d' → s ≡ w → a ∷ b ∷ d ∷ s ≡ a' ∷ b' ∷ d' ∷ w
    alike p q r i = rw (p, q, r, i)

-- Whatever is read can be written. Assumes nothing.
use Prim.Native.Nat.{ℕ, ◌+◌, ◌-◌, ◌≤◌}
use mathlib.Core.Bool.{Bool, true, false}
use mathlib.Core.List.{List, []}
use mathlib.Core.Path.{◌≡◌, refl, ap, sym, subst, ◌∙◌}
use native.Mathlib.Omega.{arith}
use lib.ListN.{length, drop, get_or, length-drop}
use lib.Seq.{length-take-le}
use lib.Dec.{leb, eqb}
use borrow.Author.Tests.{eqb-true, le-ltb}
use Rattle.crc.specs.Check.{Bytes}
use Rattle.codec.specs.Pick.{pick}
use Rattle.codec.specs.Sheet.{Answer, got, refused, and_then, Row, Said, said, byte, first}
use Rattle.codec.specs.Reading.{read_row, read_body}
use Rattle.codec.specs.Writing.{ok_items, items_of, write_items, write_body, stop_in_order, stop_values_first}
use Rattle.codec.specs.Sound.{has_row}
use Rattle.crc.proofs.Laws.{bytes_take}
use Rattle.codec.proofs.Forth.{bytes_drop}
use Rattle.codec.proofs.There.{and_got, item-there, items-there, row-there, body-there, in_order_free, values_first_free}
use Rattle.codec.proofs.Writes.{room-there}
use Rattle.families.specs.Sheets.{fc_rows, osd_rows, vtx_rows, led_rows, general_rows, crossfire_rows, flow_rows, screen_rows}
use Rattle.families.specs.Fc.{fc_of}
use Rattle.families.specs.Osd.{osd_of}
use Rattle.families.specs.Vtx.{vtx_of}
use Rattle.families.specs.Led.{led_of}
use Rattle.families.specs.General.{general_of}
use Rattle.families.specs.Crossfire.{crossfire_of}
use Rattle.families.specs.FlowControl.{flow_of}
use Rattle.families.specs.Text.{padded}
use Rattle.families.specs.Ack.{ack_loose, action_ok, read_ack}
use Rattle.families.specs.Popup.{Popup, popup}
use Rattle.families.specs.Screen.{ScreenSaid, started, returned, read_screen, return_of}
use Rattle.families.specs.Payload.{family_id}
use Rattle.families.specs.declared.screen.ScreenCommand.{ScreenCommand}
use Rattle.families.specs.declared.payload.CommandPayload.{CommandPayload}
use Rattle.families.specs.declared.payload.CommandPayload.TheVariants.{Fc, Osd, Vtx, Led, General, Crossfire, FlowControl, Screen}
use Rattle.families.proofs.Said.{fc_said, osd_said, vtx_said, led_said, general_said, crossfire_said, flow_said, return-said}
use Rattle.families.proofs.Answered.{ack_fixed, unpadded}
use Rattle.families.proofs.Acks.{read_made, ack_read}
use Rattle.families.proofs.PopupLaws.{popup_forth}
use Rattle.families.proofs.ScreenBack.{started_is, read_made as popup-made, screen_way}
use Rattle.commands.specs.Command.{WithStored, with_stored, command_of, stored_in, made_beside, made}
use Rattle.commands.specs.Reading.{body_in, read_plain, screen_with_stored, ack_with_stored, read_family, read_command}
use Rattle.commands.specs.Writing.{body_of, stop_body, payload_of, room_of, stop_writing}
use Rattle.commands.specs.Writing.Equation.{stop_is}
use Rattle.commands.specs.declared.DirectCommands.{DirectCommands}
use Rattle.commands.proofs.Known.{read_parts}
use Rattle.commands.proofs.Laid.{payload-length}

-- what a body s of this id gives: made, not longer than s, and stopped by nothing where it has room
abbrev pub Writable : List ℕ → ℕ → WithStored → Type 0
Writable s id (with_stored p t) =
    (family_id p ≡ id)
    × ((made_beside p (length t) (padded 55 t) ≡ true)
    × ((length (body_of p t) ≤ length s) × ((room : ℕ) → length (body_of p t) ≤ room → stop_body p t room ≡ 0)))

with_stored_is : (a b : WithStored) → got a ≡ got b → a ≡ b
with_stored_is a b h = cc

-- ---- a body of a sheet
abbrev Says : List Row → (List Row → ℕ → Said → ℕ) → ℕ → CommandPayload → Said → Type 0
Says rows stop id p b =
    (family_id p ≡ id) × ((body_of p [] ≡ write_body rows b)
    × (((room : ℕ) → stop_body p [] room ≡ stop rows room b) × (made_beside p 0 (padded 55 []) ≡ true)))

abbrev Free : List Row → (List Row → ℕ → Said → ℕ) → Type 0
Free rows stop = (room sub : ℕ) (vs : List (List ℕ)) → ok_items (items_of rows sub) vs ≡ true
    → length (write_body rows (said sub vs)) ≤ room → stop rows room (said sub vs) ≡ 0

plain_forth : (rows : List Row) (stop : List Row → ℕ → Said → ℕ) (id : ℕ) (payload : Said → CommandPayload) → Free rows stop
    → ((sub : ℕ) (vs : List (List ℕ)) → has_row rows sub ≡ true → ok_items (items_of rows sub) vs ≡ true → Says rows stop id (payload (said sub vs)) (said sub vs))
    → (s : List ℕ) (k : WithStored) → read_plain rows payload s ≡ got k → Writable s id k
plain_forth rows stop id payload free says s k h =
    let p = and_got (read_body rows s) (λ b. got (with_stored (payload b) [])) k h in
    let g = body-there rows s p.0 p.1.0 in
    let sub = g.0 in
    let vs = g.1.0 in
    let y = says sub vs g.1.1.1.0 g.1.1.1.1.0 in
    let e : k ≡ with_stored (payload (said sub vs)) [] =
    sym (with_stored_is (with_stored (payload p.0) []) k p.1.1) ∙ ap (λ (b : Said). with_stored (payload b) [])
    g.1.1.0 in
    rw e (y.0, (y.1.1.1, (rw y.1.0 g.1.1.1.1.1, λ room l. y.1.1.0 room ∙ free room sub vs g.1.1.1.1.0 (rw y.1.0 at l))))

-- ---- 0x22 Screen
returned-by : (s : List ℕ) (sub : ℕ) (b : Said) → 1 ≤ length s → read_row screen_rows s sub ≡ got b → Writable s 0x22 (screen_with_stored (returned b))
returned-by s sub b l h =
    let r = row-there screen_rows s sub b h in
    let g = items-there (items_of screen_rows sub) s 1 r.1.0 l r.1.1.1 in
    let y = return-said sub r.1.0 r.0 g.0 in
    let n : length (write_body screen_rows (said sub r.1.0)) ≤ length s = omega (arith, g.1) in
    let m = subst (λ (d : Said). length (write_body screen_rows d) ≤ length s) y.1.1.1 n in
    let e = ap (λ (d : Said). return_of d) r.1.1.0 ∙ y.1.1.0 in
    subst (λ (x : ScreenCommand). Writable s 0x22 (with_stored (Screen x) [])) (sym e) (refl, (refl, (m, λ room k. room-there room 3 k)))

screen_forth : (s : List ℕ) (k : WithStored) → Bytes s → and_then (read_screen s) (λ q. got (screen_with_stored q)) ≡ got k → Writable s 0x22 k
screen_forth s k y h =
    let p = and_got (read_screen s) (λ q. got (screen_with_stored q)) k h in
    rw (sym (with_stored_is (screen_with_stored p.0) k p.1.1)) (by p.0 p.1.0)
  where
    popup-by : (q : Popup) → read_screen s ≡ got (started q) → Writable s 0x22 (screen_with_stored (started q))
    popup-by (popup c v vs) e =
        let x = started_is s (popup c v vs) e in
        let f = popup_forth s 1 (popup c v vs) y x.0 x.1.0 in
        (refl, (popup-made s c v vs y e, (omega (arith, f.1.0), λ room l. room-there room _ l)))

    by : (q : ScreenSaid) → read_screen s ≡ got q → Writable s 0x22 (screen_with_stored q)
    by (started q) e = popup-by q e
    by (returned b) e =
        let w = screen_way s (returned b) e in
        returned-by s (first w.0) b (item-there byte (drop 0 s) w.0 w.1.0).1.0 w.1.1

-- ---- 0xFF ACK
ack_by : (s : List ℕ) (vs : List (List ℕ)) → read_ack s ≡ got vs → Writable s 0xFF (ack_with_stored vs)
ack_by s vs h =
    let r = ack_read s vs h in
    let f = ack_fixed s vs h in
    let g = items-there ack_loose s 0 vs (omega arith) r.0 in
    let l = subst (λ (ws : List (List ℕ)). length (write_items ack_loose ws) ≤ length s) (sym f) (omega (arith, g.1)) in
    let k = subst (λ (ws : List (List ℕ)). action_ok ws ≡ true) (sym f) r.1 in
    (refl, (read_made s vs h, (l, λ room m. rw k (room-there room _ m))))

ack_forth : (s : List ℕ) (k : WithStored) → and_then (read_ack s) (λ vs. got (ack_with_stored vs)) ≡ got k → Writable s 0xFF k
ack_forth s k h =
    let p = and_got (read_ack s) (λ vs. got (ack_with_stored vs)) k h in
    rw (sym (with_stored_is (ack_with_stored p.0) k p.1.1)) (ack_by s p.0 p.1.0)

-- ---- of every family
either : (id x : ℕ) (a b : Answer WithStored) (k : WithStored) (P : Type 0) → pick (eqb id x) a b ≡ got k → (id ≡ x → a ≡ got k → P) → (b ≡ got k → P) → P
either id x a b k P h f g = by (eqb id x) refl h
  where
    by : (t : Bool) → eqb id x ≡ t → pick t a b ≡ got k → P
    by true e d = f (eqb-true id x e) d
    by false e d = g d

never : (n : ℕ) (k : WithStored) → refused n 0 ≡ got k → ⊥
never n k h = let z : ◌≡◌ {A = ℕ} 0 1 = cc in omega arith

pub family_forth : (id : ℕ) (s : List ℕ) (k : WithStored) → Bytes s → read_family id s ≡ got k → Writable s id k
family_forth id s k y h =
    either id 0x03 _ _ k (Writable s id k) h (λ e d. absurd (never 4 k d)) (λ h.
    either id 0x13 _ _ k (Writable s id k) h (λ e d. absurd (never 4 k d)) (λ h.
    either id 0x01 _ _ k (Writable s id k) h
    (λ e d. rw e (plain_forth fc_rows stop_in_order 0x01 (λ b. Fc (fc_of b)) (in_order_free fc_rows)
    (λ sub vs r o. let q = fc_said sub vs r o in (
      refl,
      (
        ap (λ (b : Said). write_body fc_rows b) q,
        (λ room. ap (λ (b : Said). stop_in_order fc_rows room b) q, refl),
      ),
    )) s k d)) (λ h.
    either id 0x05 _ _ k (Writable s id k) h
    (λ e d. rw e (plain_forth osd_rows stop_in_order 0x05 (λ b. Osd (osd_of b)) (in_order_free osd_rows)
    (λ sub vs r o. let q = osd_said sub vs r o in (
      refl,
      (
        ap (λ (b : Said). write_body osd_rows b) q,
        (λ room. ap (λ (b : Said). stop_in_order osd_rows room b) q, refl),
      ),
    )) s k d)) (λ h.
    either id 0x08 _ _ k (Writable s id k) h
    (λ e d. rw e (plain_forth vtx_rows stop_values_first 0x08 (λ b. Vtx (vtx_of b)) (values_first_free vtx_rows)
    (λ sub vs r o. let q = vtx_said sub vs r o in (
      refl,
      (
        ap (λ (b : Said). write_body vtx_rows b) q,
        (λ room. ap (λ (b : Said). stop_values_first vtx_rows room b) q, refl),
      ),
    )) s k d)) (λ h.
    either id 0x09 _ _ k (Writable s id k) h
    (λ e d. rw e (plain_forth led_rows stop_in_order 0x09 (λ b. Led (led_of b)) (in_order_free led_rows)
    (λ sub vs r o. let q = led_said sub vs r o in (
      refl,
      (
        ap (λ (b : Said). write_body led_rows b) q,
        (λ room. ap (λ (b : Said). stop_in_order led_rows room b) q, refl),
      ),
    )) s k d)) (λ h.
    either id 0x0A _ _ k (Writable s id k) h
    (λ e d. rw e (plain_forth general_rows stop_in_order 0x0A (λ b. General (general_of b)) (in_order_free general_rows)
    (λ sub vs r o. let q = general_said sub vs r o in (
      refl,
      (
        ap (λ (b : Said). write_body general_rows b) q,
        (λ room. ap (λ (b : Said). stop_in_order general_rows room b) q, refl),
      ),
    )) s k d)) (λ h.
    either id 0x10 _ _ k (Writable s id k) h
    (λ e d. rw e (plain_forth crossfire_rows stop_in_order 0x10 (λ b. Crossfire (crossfire_of b))
    (in_order_free crossfire_rows)
    (λ sub vs r o. let q = crossfire_said sub vs r o in (
      refl,
      (
        ap (λ (b : Said). write_body crossfire_rows b) q,
        (λ room. ap (λ (b : Said). stop_in_order crossfire_rows room b) q, refl),
      ),
    )) s k d)) (λ h.
    either id 0x20 _ _ k (Writable s id k) h
    (λ e d. rw e (plain_forth flow_rows stop_in_order 0x20 (λ b. FlowControl (flow_of b)) (in_order_free flow_rows)
    (λ sub vs r o. let q = flow_said sub vs r o in (
      refl,
      (
        ap (λ (b : Said). write_body flow_rows b) q,
        (λ room. ap (λ (b : Said). stop_in_order flow_rows room b) q, refl),
      ),
    )) s k d)) (λ h.
    either id 0x22 _ _ k (Writable s id k) h (λ e d. rw e (screen_forth s k y d)) (λ h.
    either id 0xFF _ _ k (Writable s id k) h (λ e d. rw e (ack_forth s k d)) (λ h. absurd (never 2 k h))))))))))))

-- ---- of a whole payload
pub room-enough : (k n : ℕ) → k + 4 ≤ n → k ≤ 56 → k ≤ room_of n
room-enough k n h l = by (leb n 60) refl
  where
    by : (t : Bool) → leb n 60 ≡ t → k ≤ pick t n 60 - 4
    by true e = omega arith
    by false e = omega arith

-- made, no longer than what was read, and stopped by nothing where it has room
abbrev pub CanBeWritten : ℕ → DirectCommands → Type 0
CanBeWritten l c = (made c ≡ true) × ((length (payload_of c) ≤ l) × ((n : ℕ) → length (payload_of c) ≤ n → stop_writing c n ≡ 0))

of-stored : (p : List ℕ) (dst src id : ℕ) (k : WithStored) → 4 ≤ length p → length p ≤ 60 → Writable (body_in p) id k
    → CanBeWritten (length p) (command_of dst src k)
of-stored p dst src id (with_stored q t) g l w =
    let c : DirectCommands = command_of dst src (with_stored q t) in
    let s : length (body_in p) ≡ length p - 4 = length-take-le (length p - 4) (drop 3 p) (rw (length-drop 3 p) (omega arith)) in
    let e : stored_in c ≡ t = unpadded t in
    let n : length (payload_of c) ≡ length (body_of q t) + 4 = payload-length c ∙ ap (λ (x : List ℕ). length (body_of q x) + 4) e in (
      w.1.0,
      (
        omega (arith, n, s, w.1.1.0),
        λ room h.
            let f : stop_body q t (room_of room) ≡ 0 = w.1.1.1 (room_of room)
            (room-enough (length (body_of q t)) room (omega (arith, n, h)) (omega (arith, s, w.1.1.0))) in
            rw (stop_is c room, w.1.0, le-ltb room 4 (omega (arith, n, h)), e, f),
      ),
    )

there : (p : List ℕ) (c : DirectCommands) → Bytes p → read_command p ≡ got c → (length p ≤ 60) × CanBeWritten (length p) c
there p c y h =
    let r = read_parts p c h in
    let k = r.body in
    let w = family_forth (get_or p 2 0) (body_in p) k.0 (bytes_take (length p - 4) (drop 3 p) (bytes_drop 3 p y)) k.1.0 in (
      r.most,
      subst (λ (x : DirectCommands). CanBeWritten (length p) x) k.1.1
          (of-stored p (get_or p 0 0) (get_or p 1 0) (get_or p 2 0) k.0 r.least r.most w),
    )

-- THE LAW
pub read_writable : (p : List ℕ) (c : DirectCommands) → Bytes p → read_command p ≡ got c → CanBeWritten (length p) c
read_writable p c y h = (there p c y h).1

-- so into 60 bytes, always
pub read_fits : (p : List ℕ) (c : DirectCommands) → Bytes p → read_command p ≡ got c → (length (payload_of c) ≤ 60) × (stop_writing c 60 ≡ 0)
read_fits p c y h =
    let w = there p c y h in
    let m : length (payload_of c) ≤ 60 = omega (arith, w.0, w.1.1.0) in
    (m, w.1.1.1 60 m)

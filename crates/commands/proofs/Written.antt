-- A body written into its part of the buffer and closed: the payload is written. Assumes nothing.
use Rattle.std.specs.Prelude.{Ok, Err}
use Prim.Native.Nat.{ℕ, zero, suc, ◌+◌, ◌≤◌, ◌<◌}
use mathlib.Core.Bool.{true, false}
use mathlib.Core.List.{List}
use mathlib.Core.Path.{◌≡◌, ap, ◌∙◌}
use native.Mathlib.Omega.{arith}
use lib.ListN.{length, take, drop, length-append, length-drop}
use lib.Seq.{sets, length-sets, length-take-le}
use borrow.Author.Tests.{lt-ltb, le-ltb}
use borrow.Rule.Slice.PartMut.{put_mid, put_same}
use Rattle.codec.specs.Writing.{write_items}
use Rattle.codec.specs.Told.{Writes}
use Rattle.codec.specs.declared.refusal.Refusal.{Refusal}
use Rattle.codec.proofs.Stops.{in_order_fits, values_first_fits}
use Rattle.codec.proofs.Writes.{out_some, out_told, free}
use Rattle.codec.proofs.InTurn.{writes-all}
use Rattle.families.specs.Sheets.{fc_rows, osd_rows, vtx_rows, led_rows, general_rows, crossfire_rows, flow_rows}
use Rattle.families.specs.Fc.{fc_says}
use Rattle.families.specs.Osd.{osd_says}
use Rattle.families.specs.Vtx.{vtx_says}
use Rattle.families.specs.Led.{led_says}
use Rattle.families.specs.General.{general_says}
use Rattle.families.specs.Crossfire.{crossfire_says}
use Rattle.families.specs.FlowControl.{flow_says}
use Rattle.families.specs.Ack.{ack_items, ack_says, action_ok}
use Rattle.families.specs.Screen.{screen_body}
use Rattle.families.specs.Payload.{family_id}
use Rattle.families.specs.declared.payload.CommandPayload.{CommandPayload}
use Rattle.families.specs.declared.payload.CommandPayload.TheVariants.{Fc, Osd, Vtx, Led, General, Crossfire, FlowControl, Screen, Ack}
use Rattle.families.proofs.RoundTrip.{fc_known, osd_known, led_known, general_known, crossfire_known, flow_known}
use Rattle.families.proofs.Acks.{room_of_lem}
use Rattle.commands.specs.Command.{stored_in, made}
use Rattle.commands.specs.Writing.{body_of, stop_body, opening, checked, room_of, stop_writing}
use Rattle.commands.specs.Writing.Equation.{stop_is}
use Rattle.commands.specs.Closing.{closed}
use Rattle.commands.specs.declared.DirectCommands.{DirectCommands}
use Rattle.commands.proofs.Closed.{part-put, closed_is}

-- a body that nothing stops has room
pub body-fits : (p : CommandPayload) (t : List ℕ) (room : ℕ) → stop_body p t room ≡ 0 → length (body_of p t) ≤ room
body-fits (Fc c) t room h = in_order_fits fc_rows room (fc_says c) (fc_known c) h
body-fits (Osd c) t room h = in_order_fits osd_rows room (osd_says c) (osd_known c) h
body-fits (Vtx c) t room h = values_first_fits vtx_rows room (vtx_says c) h
body-fits (Led c) t room h = in_order_fits led_rows room (led_says c) (led_known c) h
body-fits (General c) t room h = in_order_fits general_rows room (general_says c) (general_known c) h
body-fits (Crossfire c) t room h = in_order_fits crossfire_rows room (crossfire_says c) (crossfire_known c) h
body-fits (FlowControl c) t room h = in_order_fits flow_rows room (flow_says c) (flow_known c) h
body-fits (Screen c) t room h = (room_of_lem true room (length (screen_body c t)) h).1
body-fits (Ack a) t room h = (room_of_lem (action_ok (ack_says a t)) room (length (write_items ack_items (ack_says a t))) h).1

-- the payload is four bytes longer than its body
pub checked-length : (dst src : ℕ) (p : CommandPayload) (t : List ℕ) → length (checked (opening dst src p t)) ≡ length (body_of p t) + 4
checked-length dst src p t = rw (length-append (body_of p t)) (omega arith)

mid_length : (s : List ℕ) (k : ℕ) → k + 4 ≤ length s → length (take k (drop 3 s)) ≡ k
mid_length s k h = length-take-le k (drop 3 s) (rw length-drop (omega arith))

-- counted: nothing stopped the body, and it stands in its place, the k bytes from the third on
pub body_in_lem : (p : CommandPayload) (t s q : List ℕ) (k n : ℕ) → k + 4 ≤ length s
    → Writes (stop_body p t (length (take k (drop 3 s)))) (body_of p t) (Ok n) (take k (drop 3 s)) q
    → (stop_body p t k ≡ 0) × ((n ≡ length (body_of p t)) × ((n ≤ k) × (put_mid 3 k s q ≡ sets s 3 (body_of p t))))
body_in_lem p t s q k n h e =
    let w = body_of p t in
    let g = rw (mid_length s k h) at e in
    let f = free (stop_body p t k) n (length w) (out_told (Ok n) (stop_body p t k) (length w) g.0) in
    let b = body-fits p t k f.0 in
    let x : q ≡ sets (take k (drop 3 s)) 0 w = rw f.0 at g.1 in
    (f.0, (f.1, (omega arith, rw x (part-put s w 3 k (omega arith) b))))

pub closing-fits : (p : CommandPayload) (t s q : List ℕ) (k n : ℕ) → k + 4 ≤ length s
    → Writes (stop_body p t (length (take k (drop 3 s)))) (body_of p t) (Ok n) (take k (drop 3 s)) q → n + 4 ≤ length (put_mid 3 k s q)
closing-fits p t s q k n h e =
    let b = body_in_lem p t s q k n h e in
    let l = length-sets s 3 (body_of p t) in
    rw (b.1.1.1, l) (omega (arith, b.1.1.0))

pub made-written : (dst src : ℕ) (p : CommandPayload) (t s q s' : List ℕ) (k n id : ℕ) → k ≡ room_of (length s) → k + 4 ≤ length s
    → Writes (stop_body p t (length (take k (drop 3 s)))) (body_of p t) (Ok n) (take k (drop 3 s)) q
    → id ≡ family_id p → s' ≡ closed dst src id n (put_mid 3 k s q)
    → Writes (stop_body p t (room_of (length s))) (checked (opening dst src p t)) (Ok (n + 4)) s s'
made-written dst src p t s q s' k n id r h e i f =
    let b = body_in_lem p t s q k n h e in
    let z : stop_body p t (room_of (length s)) ≡ 0 = rw r at b.0 in
    let l : n + 4 ≡ length (checked (opening dst src p t)) = rw (checked-length dst src p t) (ap (λ (m : ℕ). m + 4) b.1.0) in
    let g = closed_is s (body_of p t) dst src id n b.1.0 (omega (arith, b.1.1.0)) in
    writes-all (stop_body p t (room_of (length s))) (n + 4) (checked (opening dst src p t)) s s' z l (rw (i, b.1.1.1) at f ∙ rw i at g)

-- refused: the part is as it was, and so is all
pub body_refused : (dst src : ℕ) (p : CommandPayload) (t s q : List ℕ) (k : ℕ) (why : Refusal) → k ≡ room_of (length s) → k + 4 ≤ length s
    → Writes (stop_body p t (length (take k (drop 3 s)))) (body_of p t) (Err why) (take k (drop 3 s)) q
    → Writes (stop_body p t (room_of (length s))) (checked (opening dst src p t)) (Err why) s (put_mid 3 k s q)
body_refused dst src p t s q k why r h e =
    let m = mid_length s k h ∙ r in
    by (stop_body p t (room_of (length s))) (rw m at e)
  where
    by : (stop : ℕ) → Writes stop (body_of p t) (Err why) (take k (drop 3 s)) q
        → Writes stop (checked (opening dst src p t)) (Err why) s (put_mid 3 k s q)
    by zero g = absurd (out_some why (length (body_of p t)) g.0)
    by (suc n) g = (g.0, rw g.1 (put_same 3 k s))

-- the order of writing: "Record not made: 5. Buffer below 4: 3."
pub stop_unmade : (c : DirectCommands) (n : ℕ) → made c ≡ false → stop_writing c n ≡ 5
stop_unmade c n h = rw (stop_is c n, h)

pub stop-short : (c : DirectCommands) (n : ℕ) → made c ≡ true → n < 4 → stop_writing c n ≡ 3
stop-short c n h l = rw (stop_is c n, h, lt-ltb n 4 l)

pub stop-body : (c : DirectCommands) (n : ℕ) → made c ≡ true → 4 ≤ n → stop_writing c n ≡ stop_body c.payload (stored_in c) (room_of n)
stop-body c n h l = rw (stop_is c n, h, le-ltb n 4 l)

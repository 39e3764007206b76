-- What reading a payload gives: a refusal has a number other than 0; what passes the tests before the body, and what is stopped. Assumes
-- nothing.
use Rattle.std.specs.Prelude.{Result, Ok, Err}
use Prim.Native.Nat.{ℕ, ◌≤◌, ◌<◌}
use mathlib.Core.Bool.{Bool, true, false}
use mathlib.Core.List.{List, []}
use mathlib.Core.Path.{◌≡◌, refl, ap, sym, ◌∙◌}
use native.Mathlib.Omega.{arith}
use lib.ListN.{length, get_or}
use lib.Dec.{ltb, eqb}
use borrow.Author.Tests.{lt-ltb, le-ltb, ltb-false, eqb-true}
use Rattle.crc.specs.Check.{payload_check}
use Rattle.codec.specs.Pick.{pick}
use Rattle.codec.specs.Sheet.{Answer, got, refused, Row, Said}
use Rattle.codec.specs.Reading.{read_body}
use Rattle.codec.specs.Refusals.{refusal_number}
use Rattle.codec.specs.declared.refusal.Refusal.{Refusal}
use Rattle.codec.proofs.Refused.{Some, some-got, some-refused, some_then, some-pick, body-some}
use Rattle.codec.proofs.There.{and_got}
use Rattle.codec.proofs.Outcomes.{gives_ok, gives_err}
use Rattle.families.specs.Sheets.{fc_rows, osd_rows, vtx_rows, led_rows, general_rows, crossfire_rows, flow_rows}
use Rattle.families.specs.Fc.{fc_of}
use Rattle.families.specs.Osd.{osd_of}
use Rattle.families.specs.Vtx.{vtx_of}
use Rattle.families.specs.Led.{led_of}
use Rattle.families.specs.General.{general_of}
use Rattle.families.specs.Crossfire.{crossfire_of}
use Rattle.families.specs.FlowControl.{flow_of}
use Rattle.families.specs.Ack.{read_ack}
use Rattle.families.specs.Screen.{read_screen}
use Rattle.families.specs.declared.payload.CommandPayload.{CommandPayload}
use Rattle.families.specs.declared.payload.CommandPayload.TheVariants.{Fc, Osd, Vtx, Led, General, Crossfire, FlowControl}
use Rattle.families.proofs.Answered.{ack_some, screen_some}
use Rattle.commands.specs.Command.{WithStored, with_stored, command_of}
use Rattle.commands.specs.Reading.{body_in, check_in, read_plain, screen_with_stored, ack_with_stored, read_family, read_as, read_command, CommandIs}
use Rattle.commands.specs.Reading.Equation.{read_is}
use Rattle.commands.specs.Kind.{stop_reading}
use Rattle.commands.specs.declared.DirectCommands.{DirectCommands}

plain-some : (rows : List Row) (payload : Said → CommandPayload) (s : List ℕ) → Some (read_plain rows payload s)
plain-some rows payload s = some_then (read_body rows s) _ (body-some rows s) (λ b. some-got (with_stored (payload b) []))

family-some : (id : ℕ) (s : List ℕ) → Some (read_family id s)
family-some id s =
    some-pick (eqb id 0x03) _ _ (some-refused 4 (omega arith))
    (some-pick (eqb id 0x13) _ _ (some-refused 4 (omega arith))
    (some-pick (eqb id 0x01) _ _ (plain-some fc_rows (λ b. Fc (fc_of b)) s)
    (some-pick (eqb id 0x05) _ _ (plain-some osd_rows (λ b. Osd (osd_of b)) s)
    (some-pick (eqb id 0x08) _ _ (plain-some vtx_rows (λ b. Vtx (vtx_of b)) s)
    (some-pick (eqb id 0x09) _ _ (plain-some led_rows (λ b. Led (led_of b)) s)
    (some-pick (eqb id 0x0A) _ _ (plain-some general_rows (λ b. General (general_of b)) s)
    (some-pick (eqb id 0x10) _ _ (plain-some crossfire_rows (λ b. Crossfire (crossfire_of b)) s)
    (some-pick (eqb id 0x20) _ _ (plain-some flow_rows (λ b. FlowControl (flow_of b)) s)
    (some-pick (eqb id 0x22) _ _ (some_then (read_screen s) _ (screen_some s) (λ q. some-got (screen_with_stored q)))
    (some-pick (eqb id 0xFF) _ _ (some_then (read_ack s) _ (ack_some s) (λ vs. some-got (ack_with_stored vs)))
    (some-refused 2 (omega arith))))))))))))

pub read_some : (p : List ℕ) → Some (read_command p)
read_some p =
    rw (read_is p)
    (some-pick (ltb (length p) 4) _ _ (some-refused 1 (omega arith))
    (some-pick (ltb 60 (length p)) _ _ (some-refused 1 (omega arith))
    (some-pick (eqb (check_in p) (payload_check p)) _ _
    (some_then (read_family (get_or p 2 0) (body_in p)) _ (family-some (get_or p 2 0) (body_in p)) (λ k. some-got (command_of (get_or p 0 0) (get_or p 1 0) k)))
    (some-refused 2 (omega arith)))))

-- ---- the tests before the body: what passes them is read by its body, what is stopped is refused with that number
pub data Judged (p : List ℕ) : Type 0 where
  passes : 4 ≤ length p → length p ≤ 60 → check_in p ≡ payload_check p → stop_reading p ≡ 0
      → read_command p ≡ read_as (get_or p 0 0) (get_or p 1 0) (get_or p 2 0) (body_in p) → Judged p
  stopped : 0 < stop_reading p → read_command p ≡ refused (stop_reading p) 0 → Judged p

pub judged : (p : List ℕ) → Judged p
judged p = by (ltb (length p) 4) (ltb 60 (length p)) (eqb (check_in p) (payload_check p)) refl refl refl refl (read_is p)
  where
    by : (a b e : Bool) → ltb (length p) 4 ≡ a → ltb 60 (length p) ≡ b → eqb (check_in p) (payload_check p) ≡ e
        → stop_reading p ≡ pick a 1 (pick b 1 (pick e 0 2))
        → read_command p ≡ pick a (refused 1 0)
        (pick b (refused 1 0) (pick e (read_as (get_or p 0 0) (get_or p 1 0) (get_or p 2 0) (body_in p)) (refused 2 0)))
        → Judged p
    by true b e i j k s r = stopped (omega arith) (rw s r)
    by false true e i j k s r = stopped (omega arith) (rw s r)
    by false false false i j k s r = stopped (omega arith) (rw s r)
    by false false true i j k s r = passes (ltb-false (length p) 4 i) (ltb-false 60 (length p) j) (eqb-true (check_in p) (payload_check p) k) s r

-- the parts of a payload that was read
pub record Parts (p : List ℕ) (c : DirectCommands) : Type 0 where
  pub least : 4 ≤ length p
  pub most : length p ≤ 60
  pub check : check_in p ≡ payload_check p
  pub body : (k : WithStored) × ((read_family (get_or p 2 0) (body_in p) ≡ got k) × (command_of (get_or p 0 0) (get_or p 1 0) k ≡ c))

pub read_parts : (p : List ℕ) (c : DirectCommands) → read_command p ≡ got c → Parts p c
read_parts p c h = by (judged p)
  where
    by : Judged p → Parts p c
    by (passes l m k s r) =
        let x = and_got (read_family (get_or p 2 0) (body_in p)) (λ y. got (command_of (get_or p 0 0) (get_or p 1 0) y)) c (sym r ∙ h) in
        let e : command_of (get_or p 0 0) (get_or p 1 0) x.0 ≡ c = cc in
        record { least = l; most = m; check = k; body = (x.0, (x.1.0, e)) }
    by (stopped s r) = let z : ◌≡◌ {A = ℕ} 0 1 = cc in absurd (omega arith)

-- "Length below 4 or above 60: 1", whatever it holds
pub read_short : (p : List ℕ) → length p < 4 → read_command p ≡ refused 1 0
read_short p h = rw (read_is p, lt-ltb (length p) 4 h)

pub read_long : (p : List ℕ) → 60 < length p → read_command p ≡ refused 1 0
read_long p h = rw (read_is p, le-ltb (length p) 4 (omega arith), lt-ltb 60 (length p) h)

-- a Result that accepts has the command
pub accepted_is : (a : Answer DirectCommands) (x : Result DirectCommands Refusal) (c : DirectCommands) → CommandIs a x → x ≡ Ok c → a ≡ got c
accepted_is a x c h e = let k = gives_ok (λ d. d) a c (rw e at h) in k.1.0 ∙ ap got (sym k.1.1)

-- one that refuses, its number
pub refused_is : (a : Answer DirectCommands) (x : Result DirectCommands Refusal) (why : Refusal) → CommandIs a x → x ≡ Err why
    → (p : ℕ) × (a ≡ refused (refusal_number why) p)
refused_is a x why h e = gives_err (λ c. c) a why (rw e at h)

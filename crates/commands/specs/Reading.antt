-- Document 01, "Reading order", for a whole payload. Assumes nothing.
use Rattle.std.specs.Prelude.{Result, ℕ, ◌-◌, ◌≡◌, List, [], length, take, drop, get_or, ltb, eqb}
use Rattle.crc.specs.Check.{payload_check}
use Rattle.codec.specs.Pick.{pick}
use Rattle.codec.specs.Sheet.{Answer, got, refused, and_then, Row, Said}
use Rattle.codec.specs.Reading.{read_body}
use Rattle.codec.specs.Refusals.{Gives}
use Rattle.families.specs.Sheets.{fc_rows, osd_rows, vtx_rows, led_rows, general_rows, crossfire_rows, flow_rows}
use Rattle.families.specs.Fc.{fc_of}
use Rattle.families.specs.Osd.{osd_of}
use Rattle.families.specs.Vtx.{vtx_of}
use Rattle.families.specs.Led.{led_of}
use Rattle.families.specs.General.{general_of}
use Rattle.families.specs.Crossfire.{crossfire_of}
use Rattle.families.specs.FlowControl.{flow_of}
use Rattle.families.specs.Ack.{read_ack, ack_of}
use Rattle.families.specs.Popup.{write_popup}
use Rattle.families.specs.Screen.{ScreenSaid, started, returned, read_screen, screen_of}
use Rattle.families.specs.declared.payload.CommandPayload.{CommandPayload}
use Rattle.families.specs.declared.payload.CommandPayload.TheVariants.{Fc, Osd, Vtx, Led, General, Crossfire, FlowControl, Screen, Ack}
use Rattle.commands.specs.Command.{WithStored, with_stored, command_of}
use Rattle.commands.specs.declared.DirectCommands.{DirectCommands}
use Rattle.codec.specs.declared.refusal.Refusal.{Refusal}
pub mod Equation

-- "destination (1), source (1), command id (1), body, check (1)"
abbrev pub body_in : List ℕ → List ℕ
body_in p = take (length p - 4) (drop 3 p)

abbrev pub check_in : List ℕ → ℕ
check_in p = get_or p (length p - 1) 0

-- a body of a sheet: nothing is stored beside it
abbrev pub read_plain : List Row → (Said → CommandPayload) → List ℕ → Answer WithStored
read_plain rows payload s = and_then (read_body rows s) (λ b. got (with_stored (payload b) []))

-- a popup's bytes are stored, and an ACK's information
abbrev pub screen_with_stored : ScreenSaid → WithStored
screen_with_stored (started q) = with_stored (Screen (screen_of (started q))) (write_popup q)
screen_with_stored (returned b) = with_stored (Screen (screen_of (returned b))) []

abbrev pub ack_with_stored : List (List ℕ) → WithStored
ack_with_stored vs = with_stored (Ack (ack_of vs)) (get_or vs 3 [])

-- "Id 0x03 or 0x13: 4. Other unknown id: 2. Then the body item by item"
abbrev pub read_family : ℕ → List ℕ → Answer WithStored
read_family id s =
    pick (eqb id 0x03) (refused 4 0)
    (pick (eqb id 0x13) (refused 4 0)
    (pick (eqb id 0x01) (read_plain fc_rows (λ b. Fc (fc_of b)) s)
    (pick (eqb id 0x05) (read_plain osd_rows (λ b. Osd (osd_of b)) s)
    (pick (eqb id 0x08) (read_plain vtx_rows (λ b. Vtx (vtx_of b)) s)
    (pick (eqb id 0x09) (read_plain led_rows (λ b. Led (led_of b)) s)
    (pick (eqb id 0x0A) (read_plain general_rows (λ b. General (general_of b)) s)
    (pick (eqb id 0x10) (read_plain crossfire_rows (λ b. Crossfire (crossfire_of b)) s)
    (pick (eqb id 0x20) (read_plain flow_rows (λ b. FlowControl (flow_of b)) s)
    (pick (eqb id 0x22) (and_then (read_screen s) (λ q. got (screen_with_stored q)))
    (pick (eqb id 0xFF) (and_then (read_ack s) (λ vs. got (ack_with_stored vs)))
    (refused 2 0)))))))))))

-- a body of this id, with these addresses
abbrev pub read_as : ℕ → ℕ → ℕ → List ℕ → Answer DirectCommands
read_as dst src id s = and_then (read_family id s) (λ k. got (command_of dst src k))

-- "Length below 4 or above 60: 1. Check differs: 2."
abbrev pub reading_order : List ℕ → Answer DirectCommands
reading_order p =
    pick (ltb (length p) 4) (refused 1 0)
    (pick (ltb 60 (length p)) (refused 1 0)
    (pick (eqb (check_in p) (payload_check p)) (read_as (get_or p 0 0) (get_or p 1 0) (get_or p 2 0) (body_in p)) (refused 2 0)))

-- THE reader's answer. Shut: what stands above sees its laws alone
pub read_command : List ℕ → Answer DirectCommands
read_command p = reading_order p

-- the command that was got, or the refusal
abbrev pub CommandIs : Answer DirectCommands → Result DirectCommands Refusal → Type 0
CommandIs a r = Gives (λ c. c) a r

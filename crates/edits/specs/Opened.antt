-- A payload as written whose layout is known, and edits applied to it. For the contracts of private functions: nobody has to believe this
-- file. Assumes nothing.
use Rattle.std.specs.Prelude.{ℕ, ◌/◌, ◌≤◌, Bool, true, false, ◌≡◌, List, length, get_or, ltb, eqb, Result, Ok, Err}
use Rattle.std.proofs.lemmas.List.Edits.{sets}
use Rattle.codec.specs.Pick.{pick}
use Rattle.codec.specs.Sheet.{Item, got}
use Rattle.codec.specs.Edit.{place_of}
use Rattle.codec.specs.Refusals.{number_in, refusal_number}
use Rattle.codec.specs.declared.refusal.Refusal.{Refusal}
use Rattle.codec.specs.declared.refusal.Refusal.TheVariants.{NotAsWritten}
use Rattle.families.specs.Payload.{family_id}
use Rattle.families.specs.declared.vtx.VtxCommand.{VtxCommand}
use Rattle.families.specs.declared.vtx.VtxCommand.TheVariants.{SetFrequency, EnablePitModeOnPowerUp, PowerUpFromPitMode, SetDynamicPower, SetPower}
use Rattle.families.specs.declared.payload.CommandPayload.{CommandPayload}
use Rattle.families.specs.declared.payload.CommandPayload.TheVariants.{Fc, Osd, Vtx, Led, General, Crossfire, FlowControl, Screen, Ack}
use Rattle.commands.specs.Reading.{read_command}
use Rattle.commands.specs.Writing.{payload_of}
use Rattle.commands.specs.declared.DirectCommands.{DirectCommands}
use Rattle.commands.proofs.Promised.{Sound}
use Rattle.edits.specs.Record.{sub_of, items_in, values_in}
use Rattle.edits.specs.Edit.{open_command, EditIs, numbers_of, bytes_after, edits_in}
use Rattle.edits.specs.Table.{near_item, far_item, sheet_row, straight, searched, rows_of}
use Rattle.edits.specs.Layout.{vtx_layout}
use Rattle.edits.specs.declared.layout.Layout.{Layout}

-- a layout serves a command of this family, sub-command, items and values: the rows that it tells are those that 01's list gives, for
-- every field number; and so are the places
pub record ServesAs (id sub : ℕ) (is : List Item) (vs : List (List ℕ)) (s : Layout) : Type 0 where
  pub rows : (f : ℕ) → sheet_row id sub is f ≡ searched (rows_of s.first s.end) f
  pub direct : (f : ℕ) → straight id sub is f ≡ true
  pub within : s.end ≤ 32
  pub near : s.near ≡ place_of is vs (near_item id sub)
  pub far : s.far ≡ place_of is vs (far_item is)

abbrev pub Serves : DirectCommands → Layout → Type 0
Serves c s = ServesAs (family_id c.payload) (sub_of c.payload) (items_in c) (values_in c) s

-- p is what the writer makes of a command that the layout serves
pub record Opened (p : List ℕ) (s : Layout) : Type 0 where
  pub command : DirectCommands
  pub sound : Sound command
  pub written : p ≡ payload_of command
  pub served : Serves command s

-- the number that answers an edit, or a list
abbrev pub answered : Result (Unit {0}) Refusal → ℕ
answered (Ok u) = 0
answered (Err r) = refusal_number r

-- an edit of it: answered and carried out as defined, and the payload is open still, by the same layout
abbrev pub Applies : Layout → ℕ → ℕ → ℕ → List ℕ → List ℕ → Type 0
Applies s f n r p p' = EditIs f n r p p' × Opened p' s

-- a list of edits: each has an answer byte; and they are carried out in turn
abbrev pub HasRoom : List ℕ → List ℕ → Type 0
HasRoom es a = length es / 8 ≤ length a

abbrev pub AppliesEach : List ℕ → List ℕ → List ℕ → List ℕ → List ℕ → Type 0
AppliesEach es p p' a a' = (p' ≡ bytes_after p (edits_in es)) × (a' ≡ sets a 0 (numbers_of p (edits_in es)))

-- the one bit that reading ignores: bit 7 of a pit byte
abbrev pub vtx_pit : VtxCommand → Bool
vtx_pit (SetFrequency f) = false
vtx_pit (EnablePitModeOnPowerUp mode control switch) = true
vtx_pit PowerUpFromPitMode = false
vtx_pit (SetDynamicPower p) = false
vtx_pit (SetPower p) = false

abbrev pub has_pit : CommandPayload → Bool
has_pit (Fc c) = false
has_pit (Osd c) = false
has_pit (Vtx c) = vtx_pit c
has_pit (Led c) = false
has_pit (General c) = false
has_pit (Crossfire c) = false
has_pit (FlowControl c) = false
has_pit (Screen c) = false
has_pit (Ack a) = false

-- what is told of a command as its layout and the payload's length are known; and, of a pit command, the pit byte
abbrev pub fitting : Layout → ℕ → Result Layout Refusal
fitting s n = pick (eqb n s.size) (Ok s) (Err NotAsWritten)

abbrev pub unset : VtxCommand → List ℕ → Result Layout Refusal → Result Layout Refusal
unset c p o = pick (vtx_pit c) (pick (ltb 4 (length p)) (pick (ltb 0x7F (get_or p 4 0)) (Err NotAsWritten) o) o) o

abbrev pub vtx_opening : VtxCommand → List ℕ → Result Layout Refusal
vtx_opening c p = unset c p (fitting (vtx_layout c) (length p))

abbrev pub Opens : List ℕ → Result Layout Refusal → Type 0
Opens p (Ok s) = Opened p s
Opens p (Err r) = number_in (open_command p) ≡ refusal_number r

-- for the command that was read, its payload and its stored length being known
abbrev pub OpensRead : CommandPayload → ℕ → List ℕ → Result Layout Refusal → Type 0
OpensRead q n p r = (c : DirectCommands) → c.payload ≡ q → c.len ≡ n → read_command p ≡ got c → Opens p r

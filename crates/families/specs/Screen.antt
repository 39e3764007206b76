-- 0x22 Screen: 01 popup; 02 value(1), response(flag). Assumes nothing.
use Rattle.std.specs.Prelude.{Result, ℕ, List, [], ◌∷◌, drop, get_or, eqb}
use Rattle.codec.specs.Pick.{pick}
use Rattle.codec.specs.Sheet.{Answer, got, and_then, Said, said, byte, first}
use Rattle.codec.specs.Reading.{read_item, read_row}
use Rattle.codec.specs.Writing.{write_body}
use Rattle.codec.specs.Told.{bit}
use Rattle.codec.specs.Refusals.{Gives}
use Rattle.families.specs.Sheets.{screen_rows}
use Rattle.families.specs.Popup.{Popup, read_popup, write_popup, fitted}
use Rattle.families.specs.Fields.{popup_of}
use Rattle.families.specs.declared.screen.ScreenPopup.{ScreenPopup}
use Rattle.families.specs.declared.screen.ScreenCommand.{ScreenCommand}
use Rattle.families.specs.declared.screen.ScreenCommand.TheVariants.{PopupMessageStart, SelectionReturnValue}
use Rattle.codec.specs.declared.refusal.Refusal.{Refusal}
use Rattle.families.specs.declared.screen.ScreenRead.{ScreenRead}

-- what a screen command says: a popup, or a returned value and its response
pub data ScreenSaid : Type 0 where
  started : Popup → ScreenSaid
  returned : Said → ScreenSaid

abbrev pub read_screen : List ℕ → Answer ScreenSaid
read_screen s =
    and_then (read_item byte (drop 0 s)) (λ v.
    pick (eqb (first v) 0x01)
    (and_then (read_popup s 1) (λ q. and_then (fitted q) (λ p. got (started p))))
    (and_then (read_row screen_rows s (first v)) (λ b. got (returned b))))

abbrev pub return_of : Said → ScreenCommand
return_of (said sub vs) = SelectionReturnValue (first (get_or vs 0 [])) (eqb (first (get_or vs 1 [])) 1)

abbrev pub screen_of : ScreenSaid → ScreenCommand
screen_of (started q) = PopupMessageStart
screen_of (returned b) = return_of b

-- the stored bytes beside it
abbrev pub stored_of : ScreenSaid → ScreenPopup
stored_of (started q) = popup_of (write_popup q)
stored_of (returned b) = popup_of []

-- the command, and the stored bytes
abbrev pub screen_read : ScreenSaid → ScreenRead
screen_read q = record { command = screen_of q; popup = stored_of q }

abbrev pub ScreenIs : Answer ScreenSaid → Result ScreenRead Refusal → Type 0
ScreenIs a r = Gives screen_read a r

-- THE body, with these popup bytes beside the command
abbrev pub screen_body : ScreenCommand → List ℕ → List ℕ
screen_body PopupMessageStart w = 0x01 ∷ w
screen_body (SelectionReturnValue value response) w = write_body screen_rows (said 0x02 ((value ∷ []) ∷ (bit response ∷ []) ∷ []))

-- For contracts of private functions, nobody has to believe what follows. A body whose sub-command was answered, from the bytes behind it
abbrev pub started_by : Answer Popup → Answer ScreenSaid
started_by a = and_then a (λ q. and_then (fitted q) (λ p. got (started p)))

abbrev pub returned_by : Answer (List (List ℕ)) → Answer ScreenSaid
returned_by a = and_then (and_then a (λ vs. got (said 0x02 vs))) (λ b. got (returned b))

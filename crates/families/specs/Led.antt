-- 0x09 LED: what a colour and each command say, and what a reading tells. Assumes nothing.
use Rattle.std.specs.Prelude.{Result, Ok, Err, ◌≡◌}
use Rattle.codec.specs.declared.refusal.Refusal.{Refusal}
use Rattle.std.specs.Prelude.{ℕ, ◌+◌, List, [], ◌∷◌, ◌++◌, get_or, eqb, ltb}
use Rattle.codec.specs.Pick.{pick}
use Rattle.codec.specs.Sheet.{Answer, got, refused, Said, said, item_number}
use Rattle.codec.specs.Digits.{bytes_of}
use Rattle.codec.specs.Writing.{ok_item, item_bytes, stop_room}
use Rattle.codec.specs.Reading.{read_item}
use Rattle.codec.specs.Taking.{Takes}
use Rattle.codec.specs.Refusals.{refusal_number, told}
use Rattle.families.specs.Sheets.{colour}
use Rattle.families.specs.declared.led.LedColor.{LedColor}
use Rattle.families.specs.declared.led.Fade.{Fade}
use Rattle.families.specs.declared.led.LedCommand.{LedCommand}
use Rattle.families.specs.declared.led.LedCommand.TheVariants.{SetDefault, OverrideColor, OverridePulse, OverrideBlink, OverrideShift}

abbrev pub color_says : LedColor → List ℕ
color_says c = c.hue ∷ c.saturation ∷ c.value ∷ []

abbrev pub led_says : LedCommand → Said
led_says SetDefault = said 0x01 []
led_says (OverrideColor c) = said 0x02 (color_says c ∷ [])
led_says (OverridePulse t a b) = said 0x03 ((t ∷ []) ∷ color_says a ∷ color_says b ∷ [])
led_says (OverrideBlink t a b) = said 0x04 ((t ∷ []) ∷ color_says a ∷ color_says b ∷ [])
led_says (OverrideShift t c) = said 0x05 ((t ∷ []) ∷ color_says c ∷ [])

-- the command that says it
abbrev pub color_of : List ℕ → LedColor
color_of v = record { hue = get_or v 0 0; saturation = get_or v 1 0; value = get_or v 2 0 }

abbrev pub led_of : Said → LedCommand
led_of (said sub vs) =
    pick (eqb sub 0x01) SetDefault
    (pick (eqb sub 0x02) (OverrideColor (color_of (get_or vs 0 [])))
    (pick (eqb sub 0x03) (OverridePulse (item_number vs 0) (color_of (get_or vs 1 [])) (color_of (get_or vs 2 [])))
    (pick (eqb sub 0x04) (OverrideBlink (item_number vs 0) (color_of (get_or vs 1 [])) (color_of (get_or vs 2 [])))
    (OverrideShift (item_number vs 0) (color_of (get_or vs 1 []))))))

abbrev pub told_led : Result LedCommand Refusal → Answer Said
told_led r = told led_says r

-- For contracts of private functions, nobody has to believe what follows. A colour taken from the front of s leaves s'
abbrev pub TakesColor : Result LedColor Refusal → List ℕ → List ℕ → Type 0
TakesColor (Ok c) s s' = Takes colour (got (color_says c)) s s'
TakesColor (Err r) s s' = refused (refusal_number r) 0 ≡ read_item colour s

-- the values of a pulse or a blink
abbrev pub told_fade : Result Fade Refusal → Answer (List (List ℕ))
told_fade r = told (λ f. (f.time ∷ []) ∷ color_says f.start ∷ color_says f.stop ∷ []) r

-- what a pulse or a blink says, by its sub-command
abbrev pub fade_says : ℕ → ℕ → LedColor → LedColor → Said
fade_says sub time start stop = said sub ((time ∷ []) ∷ color_says start ∷ color_says stop ∷ [])

-- the number that stops writing up to the first colour, which stands behind so many bytes; 0: none
abbrev pub stop_first : ℕ → ℕ → List ℕ → ℕ
stop_first before room v = pick (ltb room before) 3 (pick (ok_item colour v) (stop_room room (before + 3)) 2)

-- sub-command, time and first colour
abbrev pub timed_bytes : ℕ → ℕ → List ℕ → List ℕ
timed_bytes sub time v = sub ∷ (bytes_of 2 time ++ item_bytes colour v)

-- Document 01, "Examples marked for proof", of the definitions: one table in 01's order, one statement over it. M4 and what M2 and
-- M3 say of edits stand in edits/proofs/Examples.antt. Checks that 01 doesn't give were worked out apart from the definitions. Assumes nothing.
use Prim.Native.Nat.{ℕ}
use mathlib.Core.Bool.{true, false}
use mathlib.Core.List.{List, [], ◌∷◌, ◌++◌, map}
use mathlib.Core.Path.{◌≡◌, refl, ap, ◌∙◌}
use lib.ListN.{length, replicate}
use Rattle.crc.specs.Polynomial.{remainder}
use Rattle.crc.specs.Check.{check_of, typed_check}
use Rattle.codec.specs.Sheet.{Answer, got, refused, and_then}
use Rattle.codec.specs.Reading.{read_item}
use Rattle.codec.specs.Writing.{counted}
use Rattle.families.specs.Text.{new_text, text_of}
use Rattle.families.specs.Ack.{new_ack, ack_with}
use Rattle.families.specs.Fields.{construct}
use Rattle.families.specs.declared.fc.FcCommand.TheVariants.{ForceDisarm}
use Rattle.families.specs.declared.vtx.VtxCommand.TheVariants.{SetFrequency, EnablePitModeOnPowerUp}
use Rattle.families.specs.declared.led.LedCommand.TheVariants.{OverrideColor}
use Rattle.families.specs.declared.ack.CommandAck.{CommandAck}
use Rattle.families.specs.declared.screen.ScreenPopup.{ScreenPopup}
use Rattle.families.specs.declared.screen.ScreenPopupFields.{ScreenPopupFields}
use Rattle.families.specs.declared.screen.ScreenAdditionalData.{ScreenAdditionalData}
use Rattle.families.specs.declared.screen.ScreenAdditionalData.TheVariants.{Absent, Empty}
use Rattle.families.specs.declared.payload.CommandPayload.{CommandPayload}
use Rattle.families.specs.declared.payload.CommandPayload.TheVariants.{Fc, Vtx, Led}
use Rattle.commands.specs.Command.{with_stored, command_of}
use Rattle.commands.specs.Reading.{reading_order, read_command}
use Rattle.commands.specs.Reading.Equation.{read_is}
use Rattle.commands.specs.Writing.{layout_of, writing_order, payload_of, stop_writing}
use Rattle.commands.specs.Writing.Equation.{payload_is, stop_is}
use Rattle.commands.specs.declared.DirectCommands.{DirectCommands}

-- a row of the table: what is given, and last the answer
pub data Example : Type 0 where
  -- a payload, and the command that it is read as
  reads : List ℕ → Answer DirectCommands → Example
  -- a command, the length of the buffer, and the payload that is written
  writes : DirectCommands → ℕ → Answer (List ℕ) → Example
  -- the same, and the count
  counts : DirectCommands → ℕ → Answer ℕ → Example
  -- a payload, and the payload that is written of what was read
  rewrites : List ℕ → Answer (List ℕ) → Example
  -- the constructors: a text's bytes; an ACK and its information; a popup's fields
  texts : List ℕ → Answer (List ℕ) → Example
  acks : CommandAck → List ℕ → Answer (List (List ℕ)) → Example
  popups : ScreenPopupFields → Answer ScreenPopup → Example

abbrev pub count : DirectCommands → ℕ → Answer ℕ
count c n = counted (stop_writing c n) (length (payload_of c))

abbrev pub written : DirectCommands → ℕ → Answer (List ℕ)
written c n = and_then (count c n) (λ k. got (payload_of c))

-- the row with the answer that the definitions give
abbrev pub worked : Example → Example
worked (reads p a) = reads p (read_command p)
worked (writes c n a) = writes c n (written c n)
worked (counts c n a) = counts c n (count c n)
worked (rewrites p a) = rewrites p (and_then (read_command p) (λ c. written c 60))
worked (texts v a) = texts v (new_text v)
worked (acks k t a) = acks k t (new_ack k t)
worked (popups f a) = popups f (construct f)

-- a command that stores no bytes, from EA to C8
abbrev pub command : CommandPayload → DirectCommands
command p = command_of 0xC8 0xEA (with_stored p [])

abbrev pub disarm : DirectCommands
disarm = command (Fc ForceDisarm)

abbrev pub frequency : ℕ → DirectCommands
frequency f = command (Vtx (SetFrequency f))

abbrev pub pit : DirectCommands
pit = command (Vtx (EnablePitModeOnPowerUp true 3 15))

abbrev pub colour : ℕ → ℕ → ℕ → DirectCommands
colour h s v = command (Led (OverrideColor (record { hue = h; saturation = s; value = v })))

-- the payloads of M1 and M3
abbrev pub m1 : List ℕ
m1 = 0xC8 ∷ 0xEA ∷ 0x01 ∷ 0x01 ∷ 0xFE ∷ []

abbrev pub m3 : List ℕ
m3 = 0xC8 ∷ 0xEA ∷ 0x08 ∷ 0x02 ∷ 0x16 ∷ 0xA8 ∷ 0x0E ∷ []

-- n bytes 41
abbrev letters : ℕ → List ℕ
letters n = replicate n 0x41

-- "Header of 51 bytes, all else empty", with this additional data
abbrev wide : ScreenAdditionalData → ScreenPopupFields
wide k = record {
  header = text_of (letters 51);
  info = text_of [];
  max_timeout_interval = 0;
  close_button_option = false;
  additional_data = k;
  selection_text = text_of [];
  value = 0;
  min_value = 0;
  max_value = 0;
  default_value = 0;
  unit = text_of [];
  has_possible_values = false;
  possible_values = text_of [];
}

-- the table, in two: what 01 says of edits stands between
abbrev pub earlier : List Example
earlier =
    -- M1: "C8 EA 01 01 FE is disarm."
    reads m1 (got disarm)
    -- M2: "C8 EA 01 01 00 FE reads as M1 and is written as M1"
    ∷ reads (0xC8 ∷ 0xEA ∷ 0x01 ∷ 0x01 ∷ 0x00 ∷ 0xFE ∷ []) (got disarm)
    ∷ rewrites (0xC8 ∷ 0xEA ∷ 0x01 ∷ 0x01 ∷ 0x00 ∷ 0xFE ∷ []) (got m1)
    -- M3: "C8 EA 08 02 16 A8 0E is 5800 MHz"
    ∷ reads m3 (got (frequency 5800))
    ∷ []

abbrev pub later : List Example
later =
    -- M5: "C8 EA 01 22 is 1; C8 EA 02 56 is 2; C8 EA 03 EC is 4."
    reads (0xC8 ∷ 0xEA ∷ 0x01 ∷ 0x22 ∷ []) (refused 1 0)
    ∷ reads (0xC8 ∷ 0xEA ∷ 0x02 ∷ 0x56 ∷ []) (refused 2 0)
    ∷ reads (0xC8 ∷ 0xEA ∷ 0x03 ∷ 0xEC ∷ []) (refused 4 0)
    -- M6: "Colour 359/100/100 is B3 E4 64; colour B4 00 00 is 2."
    ∷ writes (colour 359 100 100) 60 (got (0xC8 ∷ 0xEA ∷ 0x09 ∷ 0x02 ∷ 0xB3 ∷ 0xE4 ∷ 0x64 ∷ 0xE4 ∷ []))
    ∷ reads (0xC8 ∷ 0xEA ∷ 0x09 ∷ 0x02 ∷ 0xB3 ∷ 0xE4 ∷ 0x64 ∷ 0xE4 ∷ []) (got (colour 359 100 100))
    ∷ reads (0xC8 ∷ 0xEA ∷ 0x09 ∷ 0x02 ∷ 0xB4 ∷ 0x00 ∷ 0x00 ∷ 0x14 ∷ []) (refused 2 0)
    -- M7: "Pit byte FF reads as 1, 3, 15 and is written 7F."
    ∷ reads (0xC8 ∷ 0xEA ∷ 0x08 ∷ 0x04 ∷ 0xFF ∷ 0x94 ∷ []) (got pit)
    ∷ writes pit 60 (got (0xC8 ∷ 0xEA ∷ 0x08 ∷ 0x04 ∷ 0x7F ∷ 0x72 ∷ []))
    -- M8: "A 52-byte text holding a zero is 2; 53 bytes of information holding a zero are 1."
    ∷ texts (letters 51 ++ 0 ∷ []) (refused 2 0)
    ∷ acks (ack_with 0x01 0x01 1) (letters 52 ++ 0 ∷ []) (refused 1 0)
    -- M9: "Header of 51 bytes, all else empty and absent: 55 bytes. With `Empty` added: 1."
    ∷ popups (wide Absent) (got (record { len = 55; bytes = letters 51 ++ 0 ∷ 0 ∷ 0 ∷ 0 ∷ [] }))
    ∷ popups (wide Empty) (refused 1 0)
    -- M10: "Disarm into 4 bytes is 3, into 5 bytes count 5. Frequency 4999 into 3 bytes is 3, into 4 bytes 2. A bad hue into 4 bytes
    -- is 3."
    ∷ counts disarm 4 (refused 3 0)
    ∷ counts disarm 5 (got 5)
    ∷ counts (frequency 4999) 3 (refused 3 0)
    ∷ counts (frequency 4999) 4 (refused 2 0)
    ∷ counts (colour 360 0 0) 4 (refused 3 0)
    ∷ []

abbrev pub examples : List Example
examples = earlier ++ later

-- ---- the same of the texts: these compute
abbrev count_in : DirectCommands → ℕ → Answer ℕ
count_in c n = counted (writing_order c n) (length (layout_of c))

abbrev written_in : DirectCommands → ℕ → Answer (List ℕ)
written_in c n = and_then (count_in c n) (λ k. got (layout_of c))

abbrev computed : Example → Example
computed (reads p a) = reads p (reading_order p)
computed (writes c n a) = writes c n (written_in c n)
computed (counts c n a) = counts c n (count_in c n)
computed (rewrites p a) = rewrites p (and_then (reading_order p) (λ c. written_in c 60))
computed (texts v a) = texts v (new_text v)
computed (acks k t a) = acks k t (new_ack k t)
computed (popups f a) = popups f (construct f)

count_is : (c : DirectCommands) (n : ℕ) → count c n ≡ count_in c n
count_is c n = rw (stop_is c n, payload_is c)

written_is : (c : DirectCommands) (n : ℕ) → written c n ≡ written_in c n
written_is c n = rw (stop_is c n, payload_is c)

rewritten_is : (a : Answer DirectCommands) → and_then a (λ c. written c 60) ≡ and_then a (λ c. written_in c 60)
rewritten_is (got c) = written_is c 60
rewritten_is (refused n p) = refl

worked_is : (x : Example) → worked x ≡ computed x
worked_is (reads p a) = ap (λ (b : Answer DirectCommands). reads p b) (read_is p)
worked_is (writes c n a) = ap (λ (b : Answer (List ℕ)). writes c n b) (written_is c n)
worked_is (counts c n a) = ap (λ (b : Answer ℕ). counts c n b) (count_is c n)
worked_is (rewrites p a) =
    ap (λ (b : Answer DirectCommands). rewrites p (and_then b (λ c. written c 60))) (read_is p)
    ∙ ap (λ (b : Answer (List ℕ)). rewrites p b) (rewritten_is (reading_order p))
worked_is (texts v a) = refl
worked_is (acks k t a) = refl
worked_is (popups f a) = refl

all-worked : (l : List Example) → map worked l ≡ map computed l
all-worked [] = refl
all-worked (x ∷ l) = rw (worked_is x, all-worked l)

earlier-computed : map computed earlier ≡ earlier
unfolding read_item typed_check check_of remainder
earlier-computed = refl

later-computed : map computed later ≡ later
unfolding read_item typed_check check_of remainder
later-computed = refl

-- ---- THE statements
pub earlier-marked : map worked earlier ≡ earlier
earlier-marked = all-worked earlier ∙ earlier-computed

pub later-marked : map worked later ≡ later
later-marked = all-worked later ∙ later-computed

pub marked : map worked examples ≡ examples
marked = ap (λ (l : List Example). l ++ map worked later) earlier-marked ∙ ap (λ (l : List Example). earlier ++ l) later-marked

-- M1 and M3 read, as laws of their own
pub m1_read : read_command m1 ≡ got disarm
unfolding read_item typed_check check_of remainder
m1_read = read_is m1

pub m3_read : read_command m3 ≡ got (frequency 5800)
unfolding read_item typed_check check_of remainder
m3_read = read_is m3

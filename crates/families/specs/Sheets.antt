-- Document 01, "Family sheets", in its order. Assumes nothing.
use Rattle.std.specs.Prelude.{List, [], ◌∷◌}
use Rattle.codec.specs.Sheet.{field, Item, packed, text, Row, row, number, byte, word, long, flag}

-- 0x01 FC: 01 disarm, 02 scale channel.
abbrev pub fc_rows : List Row
fc_rows = row 0x01 [] ∷ row 0x02 [] ∷ []

-- 0x05 OSD: 01 buttons(1).
abbrev pub osd_rows : List Row
osd_rows = row 0x01 (byte ∷ []) ∷ []

-- frequency(2), 5000 to 6000
abbrev pub frequency : Item
frequency = number 2 5000 6000

-- Pit byte: bit 0 mode, bits 1-2 control, bits 3-6 switch; bit 7 is written 0 and ignored on reading.
abbrev pub pit : Item
pit = packed 1 (field 4 0 15 ∷ field 2 0 3 ∷ field 1 0 1 ∷ [])

-- 0x08 VTX: 02 frequency(2); 04 pit byte; 05 power up; 06 dynamic power(1); 08 power(1).
abbrev pub vtx_rows : List Row
vtx_rows = row 0x02 (frequency ∷ []) ∷ row 0x04 (pit ∷ []) ∷ row 0x05 [] ∷ row 0x06 (byte ∷ []) ∷ row 0x08 (byte ∷ []) ∷ []

-- Colour: 9 bits hue (0-359), 7 saturation (0-100), 8 value (0-100).
abbrev pub colour : Item
colour = packed 3 (field 9 0 359 ∷ field 7 0 100 ∷ field 8 0 100 ∷ [])

-- 0x09 LED: 01 default; 02 colour; 03 time(2), start, stop; 04 the same; 05 time(2), colour.
abbrev pub led_rows : List Row
led_rows =
    row 0x01 []
    ∷ row 0x02 (colour ∷ [])
    ∷ row 0x03 (word ∷ colour ∷ colour ∷ [])
    ∷ row 0x04 (word ∷ colour ∷ colour ∷ [])
    ∷ row 0x05 (word ∷ colour ∷ [])
    ∷ []

-- 0x0A General: 70 port(1), baud(4); 71 port(1), accepted(flag).
abbrev pub general_rows : List Row
general_rows = row 0x70 (byte ∷ long ∷ []) ∷ row 0x71 (byte ∷ flag ∷ []) ∷ []

-- 0x10 Crossfire: 01, 02, 03, 06, 0A, 0B, 0C, 0D alone; 05 model(1); 07 model(1).
abbrev pub crossfire_rows : List Row
crossfire_rows =
    row 0x01 []
    ∷ row 0x02 []
    ∷ row 0x03 []
    ∷ row 0x06 []
    ∷ row 0x0A []
    ∷ row 0x0B []
    ∷ row 0x0C []
    ∷ row 0x0D []
    ∷ row 0x05 (byte ∷ [])
    ∷ row 0x07 (byte ∷ [])
    ∷ []

-- 0x20 Flow control: 01 frame type(1), interval(2); 02 frame type(1).
abbrev pub flow_rows : List Row
flow_rows = row 0x01 (byte ∷ word ∷ []) ∷ row 0x02 (byte ∷ []) ∷ []

-- A text is up to 51 nonzero bytes, then 00.
abbrev pub text_item : Item
text_item = text 0 51

-- 0x22 Screen: 01 popup (its own sheet, Popup.antt); 02 value(1), response(flag).
abbrev pub screen_rows : List Row
screen_rows = row 0x02 (byte ∷ flag ∷ []) ∷ []

-- 0xFF ACK has its own sheet, Ack.antt.

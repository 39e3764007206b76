-- The C boundary's image of a text (include/crsf.h). Assumes nothing.
use Rattle.std.specs.Prelude.{ℕ, ◌%◌, List, ◌∷◌}
use Rattle.families.specs.Text.{text_of}
use Rattle.families.specs.declared.text.CommandString.{CommandString}

-- a stored length in one byte, and the bytes; of a length of 256 or more, which no made record has, the last 8 bits
abbrev pub stored : ℕ → List ℕ → List ℕ
stored n b = n % 256 ∷ b

-- 52 bytes: length, 51 bytes
abbrev pub text_image : CommandString → List ℕ
text_image t = stored t.len t.bytes

-- the image of the text of these bytes
abbrev pub image_of_text : List ℕ → List ℕ
image_of_text v = text_image (text_of v)

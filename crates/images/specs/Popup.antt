-- The C boundary's image of a popup (include/crsf.h). Assumes nothing.
use Rattle.std.specs.Prelude.{ℕ, List, length, drop, get_or, eqb}
use Rattle.codec.specs.Pick.{pick}
use Rattle.codec.specs.Sheet.{Answer, got, refused}
use Rattle.families.specs.declared.screen.ScreenPopup.{ScreenPopup}
use Rattle.images.specs.Text.{stored}

-- 56 bytes: length, 55 bytes
abbrev pub popup_image : ScreenPopup → List ℕ
popup_image q = stored q.len q.bytes

-- another length is 5
abbrev pub popup_from : List ℕ → Answer ScreenPopup
popup_from s = pick (eqb (length s) 56) (got (record { len = get_or s 0 0; bytes = drop 1 s })) (refused 5 0)

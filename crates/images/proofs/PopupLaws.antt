-- A popup and its image are each other's. Assumes nothing.
use Rattle.std.specs.Prelude.{Ok, Err}
use Prim.Native.Nat.{ℕ, suc, ◌-◌, ◌%◌, ◌<◌}
use mathlib.Core.Bool.{Bool, true, false}
use mathlib.Core.List.{List, [], ◌∷◌}
use mathlib.Core.Path.{◌≡◌, refl, ap, ◌∙◌}
use native.Mathlib.Omega.{arith}
use lib.ListN.{length, take, drop, get_or, length-drop}
use lib.Seq.{take_all}
use lib.Dec.{eqb}
use borrow.Author.Tests.{eq-eqb, ne_eqb, eqb-true}
use Rattle.codec.specs.Pick.{pick}
use Rattle.codec.specs.Sheet.{got, refused}
use Rattle.codec.specs.declared.refusal.Refusal.TheVariants.{RecordNotMade}
use Rattle.families.specs.Fields.{PopupIs}
use Rattle.families.specs.declared.screen.ScreenPopup.{ScreenPopup}
use Rattle.images.specs.Popup.{popup_image, popup_from}
use Rattle.images.proofs.TextLaws.{byte_mod}

pub popup-size : (q : ScreenPopup) → length q.bytes ≡ 55 → length (popup_image q) ≡ 56
popup-size q l = ap suc l

-- ---- image and popup
pub popup_back : (q : ScreenPopup) → length q.bytes ≡ 55 → q.len < 256 → popup_from (popup_image q) ≡ got q
popup_back q l h = rw (eq-eqb (length (popup_image q)) 56 (popup-size q l), byte_mod q.len h)

pub popup_forth : (s : List ℕ) (q : ScreenPopup) → get_or s 0 0 < 256 → popup_from s ≡ got q → popup_image q ≡ s
popup_forth s q b = by (eqb (length s) 56) refl
  where
    whole : (s : List ℕ) → length s ≡ 56 → get_or s 0 0 < 256 → get_or s 0 0 % 256 ∷ drop 1 s ≡ s
    whole [] l b = absurd (omega arith)
    whole (x ∷ s) l b = rw (byte_mod x b)

    by : (t : Bool) → eqb (length s) 56 ≡ t → pick t (got (record { len = get_or s 0 0; bytes = drop 1 s })) (refused 5 0) ≡ got q → popup_image q ≡ s
    by true e h =
        let g : q ≡ record { len = get_or s 0 0; bytes = drop 1 s } = cc in
        rw g (whole s (eqb-true (length s) 56 e) b)
    by false e h = let z : ◌≡◌ {A = ℕ} 0 1 = cc in absurd (omega arith)

-- ---- the ways through reading
pub popup_none : (s : List ℕ) → (length s ≡ 56 → ⊥) → PopupIs (popup_from s) (Err RecordNotMade)
popup_none s h = rw (ne_eqb (length s) 56 h)

pub popup-got : (s y b : List ℕ) → y ≡ s → length y ≡ 56 → b ≡ take (56 - 1) (drop 1 y) → PopupIs (popup_from s) (Ok (record { len = get_or y 0 0; bytes = b }))
popup-got s y b w l e =
    let d = length-drop 1 y in
    let f : b ≡ drop 1 y = e ∙ take_all 55 (drop 1 y) (omega arith) in
    rw (← w, eq-eqb (length y) 56 l) (rw f)

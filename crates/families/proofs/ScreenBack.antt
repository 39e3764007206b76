-- Screen commands read back, and a popup that was read from data is made. Assumes nothing.
use Prim.Native.Nat.{ℕ, ◌<◌, ◌≤◌}
use mathlib.Core.Bool.{Bool, true, false}
use mathlib.Core.List.{List, [], ◌∷◌, ◌++◌}
use mathlib.Core.Path.{◌≡◌, refl, ap, ◌∙◌}
use native.Mathlib.Omega.{arith}
use lib.ListN.{length, drop}
use lib.Dec.{leb, eqb}
use borrow.Author.Tests.{le-leb, leb-true, eqb-true}
use Rattle.crc.specs.Check.{Bytes}
use Rattle.codec.specs.Pick.{pick}
use Rattle.codec.specs.Sheet.{Answer, got, refused, and_then, Said, said, byte, flag, field, first}
use Rattle.codec.specs.Reading.{read_item, read_row}
use Rattle.codec.specs.Writing.{write_items, write_body}
use Rattle.codec.specs.Told.{bit}
use Rattle.codec.proofs.Back.{item_back, body_back}
use Rattle.codec.proofs.There.{and_got}
use Rattle.codec.proofs.Bounds.{packed-there}
use Rattle.families.specs.Sheets.{screen_rows}
use Rattle.families.specs.Popup.{Popup, popup, read_popup, ok_popup, write_popup, fitted}
use Rattle.families.specs.Fields.{made_popup}
use Rattle.families.specs.Screen.{ScreenSaid, started, returned, read_screen, screen_of, stored_of, screen_body}
use Rattle.families.specs.declared.screen.ScreenAdditionalData.{ScreenAdditionalData}
use Rattle.families.specs.declared.screen.ScreenCommand.TheVariants.{PopupMessageStart, SelectionReturnValue}
use Rattle.families.proofs.Ok.{byte_flag}
use Rattle.families.proofs.ScreenLaws.{bit_is}
use Rattle.families.proofs.Made.{inspect-of}
use Rattle.families.proofs.PopupLaws.{popup_back, popup_forth}

-- ---- the round trip
start-by : (w : List ℕ) (q : Popup) → read_popup (1 ∷ w) 1 ≡ got q → fitted q ≡ got q → read_screen (1 ∷ w) ≡ got (started q)
start-by w q e f =
    let b = item_back byte (1 ∷ []) w refl refl in
    rw b (ap (λ (a : Answer Popup). and_then a (λ q. and_then (fitted q) (λ p. got (started p)))) e
    ∙ ap (λ (a : Answer Popup). and_then a (λ p. got (started p))) f)

fit : (q : Popup) → length (write_popup q) ≤ 55 → fitted q ≡ got q
fit q h = rw (le-leb (length (write_popup q)) 55 h)

pub start_back : (k : ScreenAdditionalData) (p : Bool) (vs : List (List ℕ)) → ok_popup (popup k p vs) ≡ true → length (write_popup (popup k p vs)) ≤ 55
    → read_screen (screen_body PopupMessageStart (write_popup (popup k p vs))) ≡ got (started (popup k p vs))
start_back k p vs o l = start-by (write_popup (popup k p vs)) (popup k p vs) (popup_back (1 ∷ []) k p vs o) (fit (popup k p vs) l)

return-by : (s : List ℕ) (b : Said) → read_item byte (drop 0 s) ≡ got (2 ∷ []) → read_row screen_rows s 2 ≡ got b → read_screen s ≡ got (returned b)
return-by s b e f = rw e (ap (λ (a : Answer Said). and_then a (λ x. got (returned x))) f)

row_by : (s : List ℕ) (b : Said) → read_item byte (drop 0 s) ≡ got (2 ∷ []) → and_then (read_item byte (drop 0 s)) (λ v. read_row screen_rows s (first v)) ≡ got b
    → read_row screen_rows s 2 ≡ got b
row_by s b e f = rw e at f

-- whatever follows it, and whatever bytes stand beside it
pub return_back : (v : ℕ) (b : Bool) (w post : List ℕ) → v < 256
    → read_screen (screen_body (SelectionReturnValue v b) w ++ post) ≡ got (returned (said 0x02 ((v ∷ []) ∷ (bit b ∷ []) ∷ [])))
return_back v b w post h =
    let vs = (v ∷ []) ∷ (bit b ∷ []) ∷ [] in
    let s = write_body screen_rows (said 0x02 vs) ++ post in
    let e = item_back byte (2 ∷ []) (write_items (byte ∷ flag ∷ []) vs ++ post) refl refl in
    return-by s (said 0x02 vs) e (row_by s (said 0x02 vs) e (body_back screen_rows 0x02 vs post refl refl (omega arith) (byte_flag v b h)))

-- so the command is the one that was written
pub return_is : (v : ℕ) (b : Bool) → screen_of (returned (said 0x02 ((v ∷ []) ∷ (bit b ∷ []) ∷ []))) ≡ SelectionReturnValue v b
return_is v b = rw (bit_is b)

-- ---- made
fitted-by : (q r : Popup) (t : Bool) → leb (length (write_popup q)) 55 ≡ t → and_then (pick t (got q) (refused 1 0)) (λ p. got (started p)) ≡ got (started r)
    → (q ≡ r) × (length (write_popup q) ≤ 55)
fitted-by q r true e h = (cc, leb-true (length (write_popup q)) 55 e)
fitted-by q r false e h = let z : ◌≡◌ {A = ℕ} 0 1 = cc in absurd (omega arith)

not-started : (a : Answer Said) (q : Popup) → and_then a (λ b. got (returned b)) ≡ got (started q) → ⊥
not-started (got b) q h = let z : ◌≡◌ {A = ℕ} 0 1 = cc in absurd (omega arith)
not-started (refused n k) q h = let z : ◌≡◌ {A = ℕ} 0 1 = cc in absurd (omega arith)

-- a popup that was read: it stands there, in range, in at most 55 bytes
pub started_is : (s : List ℕ) (q : Popup) → read_screen s ≡ got (started q) → (1 ≤ length s) × ((read_popup s 1 ≡ got q) × (length (write_popup q) ≤ 55))
started_is s q h =
    let x = and_got (read_item byte (drop 0 s)) (λ v.
    pick (eqb (first v) 0x01)
    (and_then (read_popup s 1) (λ r. and_then (fitted r) (λ p. got (started p))))
    (and_then (read_row screen_rows s (first v)) (λ b. got (returned b)))) (started q) h in
    (packed-there 1 (field 8 0 255 ∷ []) s 0 x.0 (omega arith) x.1.0, by (eqb (first x.0) 1) (read_row screen_rows s (first x.0)) x.1.1)
  where
    next : (r : Popup) → read_popup s 1 ≡ got r → (r ≡ q) × (length (write_popup r) ≤ 55) → (read_popup s 1 ≡ got q) × (length (write_popup q) ≤ 55)
    next r e f = (e ∙ ap (λ (y : Popup). got y) f.0, rw (← f.0) f.1)

    by : (t : Bool) (a : Answer Said)
        → pick t (and_then (read_popup s 1) (λ r. and_then (fitted r) (λ p. got (started p)))) (and_then a (λ b. got (returned b))) ≡ got (started q)
        → (read_popup s 1 ≡ got q) × (length (write_popup q) ≤ 55)
    by true a g =
        let y = and_got (read_popup s 1) (λ r. and_then (fitted r) (λ p. got (started p))) (started q) g in
        next y.0 y.1.0 (fitted-by y.0 q (leb (length (write_popup y.0)) 55) refl y.1.1)
    by false a g = absurd (not-started a q g)

-- what is read from data is made
pub read_made : (s : List ℕ) (k : ScreenAdditionalData) (p : Bool) (vs : List (List ℕ)) → Bytes s → read_screen s ≡ got (started (popup k p vs))
    → made_popup (stored_of (started (popup k p vs))) ≡ true
read_made s k p vs y h =
    let x = started_is s (popup k p vs) h in
    let f = popup_forth s 1 (popup k p vs) y x.0 x.1.0 in
    rw (inspect-of k p vs f.0 x.1.1)

-- what was read, by its sub-command
abbrev pub Way : List ℕ → ℕ → ScreenSaid → Type 0
Way s sub (started q) = sub ≡ 0x01
Way s sub (returned b) = read_row screen_rows s sub ≡ got b

way_of : (s : List ℕ) (sub : ℕ) (q : ScreenSaid) (t : Bool) → eqb sub 0x01 ≡ t
    → pick t (and_then (read_popup s 1) (λ r. and_then (fitted r) (λ p. got (started p))))
    (and_then (read_row screen_rows s sub) (λ d. got (returned d))) ≡ got q → Way s sub q
way_of s sub (started q) true e h = eqb-true sub 0x01 e
way_of s sub (returned b) true e h =
    let x = and_got (read_popup s 1) (λ r. and_then (fitted r) (λ p. got (started p))) (returned b) h in
    let y = and_got (fitted x.0) (λ p. got (started p)) (returned b) x.1.1 in
    let z : ◌≡◌ {A = ℕ} 0 1 = cc in absurd (omega arith)
way_of s sub (started q) false e h =
    let x = and_got (read_row screen_rows s sub) (λ d. got (returned d)) (started q) h in
    let z : ◌≡◌ {A = ℕ} 0 1 = cc in absurd (omega arith)
way_of s sub (returned b) false e h =
    let x = and_got (read_row screen_rows s sub) (λ d. got (returned d)) (returned b) h in
    let f : x.0 ≡ b = cc in
    x.1.0 ∙ ap (λ (d : Said). got d) f

pub screen_way : (s : List ℕ) (q : ScreenSaid) → read_screen s ≡ got q → (v : List ℕ) × ((read_item byte (drop 0 s) ≡ got v) × Way s (first v) q)
screen_way s q h =
    let x = and_got (read_item byte (drop 0 s)) (λ v.
    pick (eqb (first v) 0x01)
    (and_then (read_popup s 1) (λ r. and_then (fitted r) (λ p. got (started p))))
    (and_then (read_row screen_rows s (first v)) (λ d. got (returned d)))) q h in
    (x.0, (x.1.0, way_of s (first x.0) q (eqb (first x.0) 0x01) refl x.1.1))

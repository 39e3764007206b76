-- What reading an ACK or a screen body gives: its refusals are never 0, and the values of an ACK fix it. Assumes nothing.
use Prim.Native.Nat.{ℕ, ◌-◌}
use mathlib.Core.Bool.{Bool, true, false}
use mathlib.Core.List.{List, [], ◌∷◌}
use mathlib.Core.Path.{◌≡◌, refl, sym}
use native.Mathlib.Omega.{arith}
use lib.ListN.{length, take, drop, get_or, replicate}
use lib.Seq.{take-append_seam}
use lib.Dec.{ltb, leb, eqb}
use Rattle.codec.specs.Pick.{pick}
use Rattle.codec.specs.Digits.{number_of, split}
use Rattle.codec.specs.Sheet.{Answer, got, refused, and_then, byte, text, first, field}
use Rattle.codec.specs.Reading.{read_item, read_items, read_row, end_of, within}
use Rattle.codec.proofs.There.{and_got}
use Rattle.codec.proofs.Refused.{Some, some-got, some-refused, some_then, some-pick, item-some, items-some, row-some}
use Rattle.families.specs.Sheets.{screen_rows}
use Rattle.families.specs.Text.{padded}
use Rattle.families.specs.Ack.{ack_loose, action_ok, read_ack, ack_says, ack_of}
use Rattle.families.specs.Popup.{Popup, read_popup, read_more, read_rest, write_popup, fitted, head_items, more_items, values_items, additional_of, remains}
use Rattle.families.specs.Screen.{started, returned, read_screen}
use Rattle.families.specs.declared.screen.ScreenAdditionalData.{ScreenAdditionalData}

-- ---- 0xFF ACK
-- a byte that was read is one number
byte_one : (s v : List ℕ) → read_item byte s ≡ got v → v ≡ first v ∷ []
unfolding read_item
byte_one s v h = by (ltb (length s) 1) (within (field 8 0 255 ∷ []) (split (8 ∷ []) (number_of (take 1 s)))) (first (split (8 ∷ []) (number_of (take 1 s)))) h
  where
    by : (t u : Bool) (n : ℕ) → pick t (refused 1 0) (pick u (got (n ∷ [])) (refused 2 0)) ≡ got v → v ≡ first v ∷ []
    by true u n g = let z : ◌≡◌ {A = ℕ} 0 1 = cc in absurd (omega arith)
    by false true n g = let e : v ≡ n ∷ [] = cc in rw e
    by false false n g = let z : ◌≡◌ {A = ℕ} 0 1 = cc in absurd (omega arith)

abbrev One : Answer (List ℕ) → Type 0
One a = (v : List ℕ) → a ≡ got v → v ≡ first v ∷ []

abbrev pub Fixed : List (List ℕ) → Type 0
Fixed vs = ack_says (ack_of vs) (get_or vs 3 []) ≡ vs

four : (a b c d : Answer (List ℕ)) (vs : List (List ℕ)) → One a → One b → One c
    → and_then a (λ v. and_then
    (and_then b (λ w. and_then (and_then c (λ x. and_then (and_then d (λ y. got (y ∷ []))) (λ ws. got (x ∷ ws))))
    (λ ws. got (w ∷ ws)))) (λ ws. got (v ∷ ws))) ≡ got vs
    → Fixed vs
four (got v) (got w) (got x) (got y) vs p q r h =
    let e : vs ≡ v ∷ w ∷ x ∷ y ∷ [] = cc in
    let f : first v ∷ [] ≡ v = sym (p v refl) in
    let g : first w ∷ [] ≡ w = sym (q w refl) in
    let k : first x ∷ [] ≡ x = sym (r x refl) in
    rw e (rw (f, g, k))
four (got v) (got w) (got x) (refused n m) vs p q r h = let z : ◌≡◌ {A = ℕ} 0 1 = cc in absurd (omega arith)
four (got v) (got w) (refused n m) d vs p q r h = let z : ◌≡◌ {A = ℕ} 0 1 = cc in absurd (omega arith)
four (got v) (refused n m) c d vs p q r h = let z : ◌≡◌ {A = ℕ} 0 1 = cc in absurd (omega arith)
four (refused n m) b c d vs p q r h = let z : ◌≡◌ {A = ℕ} 0 1 = cc in absurd (omega arith)

kept : (t : Bool) (ws vs : List (List ℕ)) → pick t (got ws) (refused 2 0) ≡ got vs → ws ≡ vs
kept true ws vs h = cc
kept false ws vs h = let z : ◌≡◌ {A = ℕ} 0 1 = cc in absurd (omega arith)

-- the values that were read are those of an ACK and its information
pub ack_fixed : (s : List ℕ) (vs : List (List ℕ)) → read_ack s ≡ got vs → Fixed vs
ack_fixed s vs h =
    let p = and_got (read_items ack_loose s 0) (λ (ws : List (List ℕ)). pick (action_ok ws) (got ws) (refused 2 0)) vs h in
    let f = four (read_item byte (drop 0 s)) (read_item byte (drop 1 s)) (read_item byte (drop 2 s))
    (read_item (text 0 52) (drop 3 s)) p.0 (byte_one (drop 0 s)) (byte_one (drop 1 s)) (byte_one (drop 2 s))
    p.1.0 in
    rw (kept (action_ok p.0) p.0 vs p.1.1) at f

pub ack_some : (s : List ℕ) → Some (read_ack s)
ack_some s =
    some_then (read_items ack_loose s 0) _ (items-some ack_loose s 0) (λ vs. some-pick (action_ok vs) _ _ (some-got vs) (some-refused 2 (omega arith)))

-- the first of padded bytes
pub unpadded : (t : List ℕ) → take (length t) (padded 55 t) ≡ t
unpadded t = take-append_seam t (replicate (55 - length t) 0)

-- ---- 0x22 Screen
rest_some : (s : List ℕ) (k : ScreenAdditionalData) (h m : List (List ℕ)) (e : ℕ) → Some (read_rest s k h m e)
rest_some s k h m e = some_then (read_items (values_items (remains (drop e s))) s e) _ (items-some (values_items (remains (drop e s))) s e) (λ v. some-got _)

more-some : (s : List ℕ) (k : ScreenAdditionalData) (h : List (List ℕ)) (b : ℕ) → Some (read_more s k h b)
more-some s k h b = some_then (read_items (more_items k) s b) _ (items-some (more_items k) s b) (λ m. rest_some s k h m (end_of (more_items k) m b))

pub popup-some : (s : List ℕ) (at : ℕ) → Some (read_popup s at)
popup-some s at =
    some_then (read_items head_items s at) _ (items-some head_items s at)
    (λ h. more-some s (additional_of (drop (end_of head_items h at) s)) h (end_of head_items h at))

fitted-some : (q : Popup) → Some (fitted q)
fitted-some q = some-pick (leb (length (write_popup q)) 55) _ _ (some-got q) (some-refused 1 (omega arith))

pub screen_some : (s : List ℕ) → Some (read_screen s)
screen_some s =
    some_then (read_item byte (drop 0 s)) _ (item-some byte (drop 0 s)) (λ v.
    some-pick (eqb (first v) 0x01) _ _
    (some_then (read_popup s 1) _ (popup-some s 1) (λ q. some_then (fitted q) _ (fitted-some q) (λ p. some-got (started p))))
    (some_then (read_row screen_rows s (first v)) _ (row-some screen_rows s (first v)) (λ b. some-got (returned b))))

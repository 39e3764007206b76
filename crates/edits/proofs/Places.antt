-- Places in a payload as the code finds them, and numbers of four bytes. Assumes nothing.
use Rattle.std.specs.Prelude.{Result, Ok, Err}
use Prim.Native.Nat.{ℕ, ◌+◌, ◌<◌, ◌≤◌}
use mathlib.Core.List.{List, [], ◌∷◌}
use mathlib.Core.Logic.{◌⊎◌, inl, inr}
use mathlib.Core.Path.{◌≡◌, refl, ap, sym, ◌∙◌}
use native.Mathlib.Omega.{arith}
use lib.ListN.{length, take, drop, get_or, length-drop}
use lib.Seq.{length-take-le}
use borrow.Author.Tests.{le-ltb, lt-ltb, eq-eqb, ne_eqb}
use Rattle.crc.specs.Check.{Bytes}
use Rattle.crc.proofs.Laws.{bytes_take}
use Rattle.codec.specs.Digits.{number_of}
use Rattle.codec.specs.Sheet.{Answer, got, long}
use Rattle.codec.specs.Reading.{read_item}
use Rattle.codec.specs.Told.{told_number, told_text, text_in}
use Rattle.codec.specs.Taking.{ReadsText}
use Rattle.codec.specs.declared.refusal.Refusal.{Refusal}
use Rattle.codec.specs.declared.reader.TextRead.{TextRead}
use Rattle.codec.proofs.Forth.{bytes_drop, bytes-number}
use Rattle.codec.proofs.Items.{number_is_lem, ltb-zero}
use Rattle.families.specs.Sheets.{text_item}
use Rattle.edits.specs.Layout.{place_after, after_text, shown, selection, popup_from, popup_layout}

-- ---- the place after a text
pub after-got : (s : List ℕ) (at : ℕ) (x : TextRead) (r : Result TextRead Refusal) → r ≡ Ok x
    → ReadsText 51 r s at
    → (x.next ≡ after_text s at) × (x.next ≤ length s)
after-got s at x r e h =
    let told : told_text s at (Ok x) ≡ read_item text_item (drop at s) = rw e at h.0 in
    let there : text_in s at (Ok x) = rw e at h.1 in
    let l : length (take x.len (drop at s)) ≡ x.len = length-take-le x.len (drop at s) (rw length-drop (omega (arith, there.0))) in
    let a : after_text s at ≡ at + (length (take x.len (drop at s)) + 1) = sym (ap (λ (y : Answer (List ℕ)). place_after at y) told) in
    (omega (arith, l, a, there.1), omega (arith, there.0, there.1))

pub after_none : (s : List ℕ) (at : ℕ) (r : Result TextRead Refusal) (k : Refusal) → r ≡ Err k
    → ReadsText 51 r s at
    → (0 ≡ after_text s at) × (0 ≤ length s)
after_none s at r k e h =
    let told : told_text s at (Err k) ≡ read_item text_item (drop at s) = rw e at h.0 in
    (ap (λ (x : Answer (List ℕ)). place_after at x) told, omega arith)

-- ---- a popup
selection-from : (n : ℕ) (s : List ℕ) (b d : ℕ) → b + 2 < n + 4 → (get_or s (b + 2) 0 ≡ 0 → ⊥) → d ≡ after_text s (b + 2)
    → selection n b d ≡ popup_from n s b
selection-from n s b d h g e = rw (lt-ltb (b + 2) (n + 4) h, ne_eqb (get_or s (b + 2) 0) 0 g, e)

pub popup-selection : (n : ℕ) (s : List ℕ) (a b d : ℕ) → a ≡ after_text s 4 → b ≡ after_text s a → b + 2 < n + 4 → (get_or s (b + 2) 0 ≡ 0 → ⊥)
    → d ≡ after_text s (b + 2) → selection n b d ≡ popup_layout n s
popup-selection n s a b d x y h g e =
    selection-from n s b d h g e ∙ ap (λ (k : ℕ). popup_from n s k) (y ∙ ap (λ (k : ℕ). after_text s k) x)

shown-from : (n : ℕ) (s : List ℕ) (b : ℕ) → ((b + 2 < n + 4) × (get_or s (b + 2) 0 ≡ 0)) ⊎ (n + 4 ≤ b + 2) → shown n b ≡ popup_from n s b
shown-from n s b (inl h) = rw (lt-ltb (b + 2) (n + 4) h.0, eq-eqb (get_or s (b + 2) 0) 0 h.1)
shown-from n s b (inr h) = rw (le-ltb (b + 2) (n + 4) h)

pub popup-shown : (n : ℕ) (s : List ℕ) (a b : ℕ) → a ≡ after_text s 4 → b ≡ after_text s a
    → ((b + 2 < n + 4) × (get_or s (b + 2) 0 ≡ 0)) ⊎ (n + 4 ≤ b + 2) → shown n b ≡ popup_layout n s
popup-shown n s a b x y h = shown-from n s b h ∙ ap (λ (k : ℕ). popup_from n s k) (y ∙ ap (λ (k : ℕ). after_text s k) x)

-- ---- four bytes, big-endian
long_is : (s : List ℕ) (at : ℕ) → Bytes s → at + 4 ≤ length s
    → read_item long (drop at s) ≡ got (number_of (take 4 (drop at s)) ∷ [])
long_is s at b h =
    let t = take 4 (drop at s) in
    let l : length t ≡ 4 = length-take-le 4 (drop at s) (rw length-drop (omega arith)) in
    let m = (bytes-number t 4 l (bytes_take 4 (drop at s) (bytes_drop at s b))).1 in
    number_is_lem 4 0 4294967295 s at (number_of t) h (refl, m) ∙ rw (ltb-zero (number_of t), le-ltb 4294967295 (number_of t) (omega arith))

pub long-got : (s : List ℕ) (at n : ℕ) (r : Result ℕ Refusal) → Bytes s → at + 4 ≤ length s → r ≡ Ok n
    → told_number r ≡ read_item long (drop at s) → n ≡ number_of (take 4 (drop at s))
long-got s at n r b h e t = let k : told_number (Ok n) ≡ got (number_of (take 4 (drop at s)) ∷ []) = rw e at t ∙ long_is s at b h in cc

pub long-not : (s : List ℕ) (at : ℕ) (r : Result ℕ Refusal) (k : Refusal) → Bytes s → at + 4 ≤ length s → r ≡ Err k
    → told_number r ≡ read_item long (drop at s) → 0 ≡ number_of (take 4 (drop at s))
long-not s at r k b h e t =
    let f : told_number (Err k) ≡ got (number_of (take 4 (drop at s)) ∷ []) = rw e at t ∙ long_is s at b h in
    let z : ◌≡◌ {A = ℕ} 0 1 = cc in absurd (omega arith)

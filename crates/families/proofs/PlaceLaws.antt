-- What the parse of a popup cites: kinds by the next byte, texts with their bounds. Assumes nothing.
use Rattle.std.specs.Prelude.{Option, Some, None, is_some, Ok}
use Prim.Native.Nat.{ℕ, ◌+◌, ◌<◌, ◌≤◌}
use mathlib.Core.Bool.{Bool, true}
use mathlib.Core.List.{List, [], ◌∷◌, ◌++◌}
use mathlib.Core.Path.{◌≡◌, refl, ap, sym, ◌∙◌}
use native.Mathlib.Omega.{arith}
use lib.ListN.{length, get_or, take, drop, length-drop}
use lib.Seq.{drop-cons, length-take-le}
use borrow.Author.Tests.{eq-eqb, ne_eqb}
use Rattle.codec.specs.Sheet.{byte, flag, field, Answer, got, refused, and_then}
use Rattle.codec.specs.Reading.{read_item, read_items, end_of}
use Rattle.codec.specs.Told.{bit, told_number, at_most, told_flag, told_text, text_in}
use Rattle.codec.specs.declared.reader.TextRead.{TextRead}
use Rattle.codec.proofs.Texts.{after_text_lem}
use Rattle.codec.proofs.Bounds.{empty_text, packed-there}
use Rattle.codec.proofs.TextRange.{text-most}
use Rattle.codec.proofs.Joins.{end_is_lem}
use Rattle.families.specs.declared.screen.ScreenAdditionalData.{ScreenAdditionalData}
use Rattle.families.specs.declared.screen.ScreenAdditionalData.TheVariants.{Absent, Empty, Selection}
use Rattle.families.specs.Sheets.{text_item}
use Rattle.families.specs.Popup.{head_items, more_items, values_items, popup_items, popup, additional_of, remains, read_rest, read_more, read_popup, write_popup}
use Rattle.families.specs.Places.{spanned, SpanIn, head_at, HeadIn, more_by, no_more, MoreIs, MoreIn, values_by, ValuesIs, ValuesIn, popup_at, PlacesIn}
use Rattle.families.specs.declared.popup.Span.{Span}
use Rattle.families.specs.declared.popup.Head.{Head}
use Rattle.families.specs.declared.popup.More.{More}
use Rattle.families.specs.declared.popup.Values.{Values}
use Rattle.families.specs.declared.popup.Places.{Places}

-- ---- the next byte
pub kind_empty : (s : List ℕ) (at : ℕ) → at < length s → get_or s at 0 ≡ 0 → additional_of (drop at s) ≡ Empty
kind_empty s at h e = rw (drop-cons s at 0 h, eq-eqb (get_or s at 0) 0 e)

pub kind-selection : (s : List ℕ) (at : ℕ) → at < length s → (get_or s at 0 ≡ 0 → ⊥) → additional_of (drop at s) ≡ Selection
kind-selection s at h e = rw (drop-cons s at 0 h, ne_eqb (get_or s at 0) 0 e)

pub some_remain : (s : List ℕ) (at : ℕ) → at < length s → remains (drop at s) ≡ true
some_remain s at h = rw (drop-cons s at 0 h)

-- ---- what the readers of items say, taken together
abbrev pub TextGot : List ℕ → ℕ → ℕ → ℕ → Type 0
TextGot s at n next = (read_item text_item (drop at s) ≡ got (take n (drop at s)))
    × ((at + (length (take n (drop at s)) + 1) ≡ next) × ((next ≡ at + (n + 1)) × ((at + n < length s) × (n ≤ 51))))

pub text-got : (s : List ℕ) (at : ℕ) (x : TextRead) → (told_text s at (Ok x) ≡ read_item text_item (drop at s)) × text_in s at (Ok x)
    → TextGot s at x.len x.next
text-got s at x h = (sym h.0, (after_text_lem s at x.len x.next h.1, (h.1.1, (h.1.0, text-most 51 s at x.len h.1.0 h.0))))

abbrev pub ByteGot : List ℕ → ℕ → ℕ → Type 0
ByteGot s at n = (read_item byte (drop at s) ≡ got (n ∷ [])) × ((n ≤ 255) × (at + 1 ≤ length s))

pub byte-got : (s : List ℕ) (at n : ℕ) → (told_number (Ok n) ≡ read_item byte (drop at s)) × at_most 255 (Ok n) → ByteGot s at n
byte-got s at n h = (sym h.0, (h.1, packed-there 1 (field 8 0 255 ∷ []) s at (n ∷ []) (omega arith) (sym h.0)))

abbrev pub FlagGot : List ℕ → ℕ → Bool → Type 0
FlagGot s at b = (read_item flag (drop at s) ≡ got (bit b ∷ [])) × (at + 1 ≤ length s)

pub flag-got : (s : List ℕ) (at : ℕ) (b : Bool) → told_flag (Ok b) ≡ read_item flag (drop at s) → FlagGot s at b
flag-got s at b h = (sym h, packed-there 1 (field 8 0 1 ∷ []) s at (bit b ∷ []) (omega arith) (sym h))

-- ---- the head
abbrev pub head_of : ℕ → ℕ → ℕ → ℕ → ℕ → ℕ → Bool → Head
head_of at h p i q t b = record { header = record { at = at; len = h }; info = record { at = p; len = i }; timeout = t; close = b; next = q + 2 }

pub head-got : (s : List ℕ) (at h p i q t : ℕ) (b : Bool) → TextGot s at h p → TextGot s p i q → ByteGot s q t → FlagGot s (q + 1) b
    → (got (head_at s (head_of at h p i q t b)) ≡ read_items head_items s at) × HeadIn s at (head_of at h p i q t b)
head-got s at h p i q t b x y z w = (
  rw (x.0, x.1.0, y.0, y.1.0, z.0, w.0),
  (
    (refl, (omega (arith, x.1.1.1.0), x.1.1.1.1)),
    ((x.1.1.0, (omega (arith, y.1.1.1.0), y.1.1.1.1)), (rw y.1.1.0, omega (arith, w.1))),
  ),
)

-- ---- possible values
pub values-got : (s : List ℕ) (at : ℕ) (x : TextRead) → (told_text s at (Ok x) ≡ read_item text_item (drop at s)) × text_in s at (Ok x)
    → (got (values_by s (Some (record { at = at; len = x.len }))) ≡ read_items (values_items (remains (drop at s))) s at)
    × ValuesIn s at (record { text = Some (record { at = at; len = x.len }); next = x.next })
values-got s at x h =
    let g = text-got s at x h in
    let l : at < length s = omega (arith, g.1.1.1.0) in
    let e = some_remain s at l in
    (rw (e, g.0), (sym e, ((refl, (g.1.1.0, (omega (arith, g.1.1.1.0), g.1.1.1.1))), omega (arith, g.1.1.0, g.1.1.1.0))))

pub values-not : (s : List ℕ) (at n p : ℕ) → at < length s → refused n p ≡ read_item text_item (drop at s)
    → refused n p ≡ read_items (values_items (remains (drop at s))) s at
values-not s at n p l h = rw (some_remain s at l, ← h)

-- ---- additional data
pub more_empty : (s : List ℕ) (at : ℕ) → at < length s → get_or s at 0 ≡ 0
    → (got (more_by Empty s (no_more Empty (at + 1))) ≡ read_items (more_items (additional_of (drop at s))) s at) × MoreIn s at (no_more Empty (at + 1))
more_empty s at h z =
    let e = kind_empty s at h z in
    (rw (e, empty_text s at h z), (sym e, (refl, ((omega arith, omega arith), ((omega arith, omega arith), omega arith)))))

-- ---- the places after the parts
pub span_length : (s : List ℕ) (x : Span) → SpanIn s x → length (spanned s x) ≡ x.len
span_length s x h = length-take-le x.len (drop x.at s) (rw length-drop (omega (arith, h.0)))

head_end : (s : List ℕ) (at : ℕ) (h : Head) → HeadIn s at h → end_of head_items (head_at s h) at ≡ h.next
head_end s at h i =
    let a = span_length s h.header i.0.1 in
    let b = span_length s h.info i.1.0.1 in
    omega (arith, a, b, i.1.0.0, i.1.1.0)

more_end : (s : List ℕ) (at : ℕ) (m : More) (k : ScreenAdditionalData) → MoreIs k at m → SpanIn s m.label → SpanIn s m.unit
    → end_of (more_items k) (more_by k s m) at ≡ m.next
more_end s at m Absent e i j = rw e
more_end s at m Empty e i j = rw e
more_end s at m Selection e i j =
    let a = span_length s m.label i in
    let b = span_length s m.unit j in
    omega (arith, a, b, e.1.0, e.1.1)

values_end : (s : List ℕ) (at next : ℕ) (x : Option Span) → ValuesIs s x at next → end_of (values_items (is_some x)) (values_by s x) at ≡ next
values_end s at next None e = rw e
values_end s at next (Some x) e = let a = span_length s x e.1.1 in omega (arith, a, e.1.0)

-- ---- the parse
abbrev HeadGot : List ℕ → ℕ → Head → Type 0
HeadGot s at h = (got (head_at s h) ≡ read_items head_items s at) × HeadIn s at h

abbrev MoreGot : List ℕ → ℕ → More → Type 0
MoreGot s at m = (got (more_by m.kind s m) ≡ read_items (more_items (additional_of (drop at s))) s at) × MoreIn s at m

abbrev ValuesGot : List ℕ → ℕ → Values → Type 0
ValuesGot s at v = (got (values_by s v.text) ≡ read_items (values_items (remains (drop at s))) s at) × ValuesIn s at v

-- the popup from its parts
from-head : (s : List ℕ) (at b : ℕ) (h : List (List ℕ)) → got h ≡ read_items head_items s at → end_of head_items h at ≡ b
    → read_popup s at ≡ read_more s (additional_of (drop b s)) h b
from-head s at b h e f =
    ap (λ (a : Answer (List (List ℕ))). and_then a (λ h. read_more s (additional_of (drop (end_of head_items h at) s)) h (end_of head_items h at))) (sym e)
    ∙ ap (λ (x : ℕ). read_more s (additional_of (drop x s)) h x) f

from_more : (s : List ℕ) (k j : ScreenAdditionalData) (h m : List (List ℕ)) (b e : ℕ) → k ≡ j
    → got m ≡ read_items (more_items j) s b → end_of (more_items k) m b ≡ e
    → read_more s j h b ≡ read_rest s k h m e
from_more s k j h m b e x f g =
    ap (λ (a : Answer (List (List ℕ))). and_then a (λ m. read_rest s j h m (end_of (more_items j) m b))) (sym f) ∙ rw (← x, g)

from-values : (s : List ℕ) (k : ScreenAdditionalData) (p : Bool) (h m v : List (List ℕ)) (e : ℕ) → p ≡ remains (drop e s)
    → got v ≡ read_items (values_items (remains (drop e s))) s e → read_rest s k h m e ≡ got (popup k p (h ++ (m ++ v)))
from-values s k p h m v e x f =
    ap (λ (a : Answer (List (List ℕ))). and_then a (λ v. got (popup k (remains (drop e s)) (h ++ (m ++ v))))) (sym f) ∙ rw x

more-at : (s : List ℕ) (at : ℕ) (h : Head) (m : More) → HeadGot s at h → MoreGot s h.next m
    → read_popup s at ≡ read_rest s m.kind (head_at s h) (more_by m.kind s m) m.next
more-at s at h m x y =
    from-head s at h.next (head_at s h) x.0 (head_end s at h x.1)
    ∙ from_more s m.kind (additional_of (drop h.next s)) (head_at s h) (more_by m.kind s m) h.next m.next y.1.0 y.0
    (more_end s h.next m m.kind y.1.1.0 y.1.1.1.0 y.1.1.1.1.0)

abbrev pub places_of : Head → More → Values → Places
places_of h m v = record { head = h; more = m; values = v }

pub places-got : (s : List ℕ) (at : ℕ) (h : Head) (m : More) (v : Values) → HeadGot s at h → MoreGot s h.next m → ValuesGot s m.next v
    → (got (popup_at s (places_of h m v)) ≡ read_popup s at) × PlacesIn s at (places_of h m v)
places-got s at h m v x y z = (
  sym (more-at s at h m x y ∙ from-values s m.kind (is_some v.text) (head_at s h) (more_by m.kind s m) (values_by s v.text) m.next z.1.0 z.0),
  (x.1, (y.1, z.1)),
)

pub places_values_not : (s : List ℕ) (at : ℕ) (h : Head) (m : More) (n k : ℕ) → HeadGot s at h → MoreGot s h.next m
    → refused n k ≡ read_items (values_items (remains (drop m.next s))) s m.next → refused n k ≡ read_popup s at
places_values_not s at h m n k x y z = sym (more-at s at h m x y ∙ rw (← z))

pub places_more_not : (s : List ℕ) (at : ℕ) (h : Head) (n k : ℕ) → HeadGot s at h
    → refused n k ≡ read_items (more_items (additional_of (drop h.next s))) s h.next → refused n k ≡ read_popup s at
places_more_not s at h n k x y = sym (from-head s at h.next (head_at s h) x.0 (head_end s at h x.1) ∙ rw (← y))

pub places_head_not : (s : List ℕ) (at n k : ℕ) → refused n k ≡ read_items head_items s at → refused n k ≡ read_popup s at
places_head_not s at n k x =
    ap (λ (a : Answer (List (List ℕ))). and_then a (λ h. read_more s (additional_of (drop (end_of head_items h at) s)) h (end_of head_items h at))) x

-- what was parsed reaches to the place after the last item
rest_end : (s : List ℕ) (b : ℕ) (k : ScreenAdditionalData) (p : Bool) (m : More) (v : List (List ℕ))
    → end_of (more_items k ++ values_items p) (more_by k s m ++ v) b ≡ end_of (values_items p) v (end_of (more_items k) (more_by k s m) b)
rest_end s b Absent p m v = refl
rest_end s b Empty p m v = refl
rest_end s b Selection p m v = refl

pub places_end : (s : List ℕ) (at : ℕ) (p : Places) → PlacesIn s at p → at + length (write_popup (popup_at s p)) ≡ p.values.next
places_end s at p x =
    let k = p.more.kind in
    let q = is_some p.values.text in
    let v = values_by s p.values.text in
    let y = x.1.0 in
    let z = x.1.1 in
    sym (end_is_lem (popup_items k q) (head_at s p.head ++ (more_by k s p.more ++ v)) at)
    ∙ ap (λ (b : ℕ). end_of (more_items k ++ values_items q) (more_by k s p.more ++ v) b) (head_end s at p.head x.0)
    ∙ rest_end s p.head.next k q p.more v
    ∙ ap (λ (b : ℕ). end_of (values_items q) v b) (more_end s p.head.next p.more k y.1.0 y.1.1.0 y.1.1.1.0)
    ∙ values_end s p.more.next p.values.next p.values.text z.1.0

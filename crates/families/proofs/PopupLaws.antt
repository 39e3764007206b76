-- A popup reads back, and what was read is what would be written. Assumes nothing.
use Prim.Native.Nat.{ℕ, ◌+◌, ◌≤◌}
use mathlib.Core.Bool.{Bool, true, false}
use mathlib.Core.List.{List, [], ◌∷◌, ◌++◌, append_assoc, append-nil}
use mathlib.Core.Path.{◌≡◌, refl, ap, sym, ◌∙◌}
use native.Mathlib.Omega.{arith}
use lib.ListN.{length, take, drop, length-append}
use lib.Seq.{drop-append_seam, take-add, drop-drop}
use lib.Dec.{leb, eqb}
use borrow.Author.Tests.{leb-true}
use Rattle.codec.specs.Pick.{pick}
use Rattle.codec.specs.Sheet.{got, text}
use Rattle.codec.specs.Reading.{read_items, end_of}
use Rattle.codec.specs.Writing.{ok_item, item_bytes, nonzero, write_items, ok_items}
use Rattle.codec.specs.Sound.{sound_items, exact_items}
use Rattle.crc.specs.Check.{Bytes}
use Rattle.codec.proofs.Back.{both, passed, items_back}
use Rattle.codec.proofs.Forth.{items_forth}
use Rattle.codec.proofs.There.{and_got, items-there}
use Rattle.codec.proofs.Joins.{end_is_lem, ok_join, ok_split, write_join}
use Rattle.families.specs.declared.screen.ScreenAdditionalData.{ScreenAdditionalData}
use Rattle.families.specs.declared.screen.ScreenAdditionalData.TheVariants.{Absent, Empty, Selection}
use Rattle.families.specs.Popup.{head_items, selection_items, more_items, values_items, popup_items, Popup, popup, alone, additional_of, remains, read_rest, read_more, read_popup, ok_popup, write_popup}

sound_more : (k : ScreenAdditionalData) → (sound_items (more_items k) ≡ true) × (exact_items (more_items k) ≡ true)
sound_more Absent = (refl, refl)
sound_more Empty = (refl, refl)
sound_more Selection = (refl, refl)

sound-values : (p : Bool) → (sound_items (values_items p) ≡ true) × (exact_items (values_items p) ≡ true)
sound-values true = (refl, refl)
sound-values false = (refl, refl)

-- the first byte of additional data shows its kind
label_kind : (l r : List ℕ) → ok_item (text 1 51) l ≡ true → additional_of (item_bytes (text 1 51) l ++ r) ≡ Selection
label_kind [] r h = let z : ◌≡◌ {A = ℕ} 0 1 = cc in absurd (omega arith)
label_kind (b ∷ l) r h =
    let t = both (leb (length (b ∷ l)) 51) (nonzero (b ∷ l)) h in
    let p = passed (eqb b 0) (nonzero l) t.1 in
    rw p.0

empty_kind : (l r : List ℕ) → ok_item (text 0 0) l ≡ true → additional_of (item_bytes (text 0 0) l ++ r) ≡ Empty
empty_kind [] r h = refl
empty_kind (b ∷ l) r h = let o = both (leb (length (b ∷ l)) 0) (nonzero (b ∷ l)) h in absurd (omega (arith, leb-true (length (b ∷ l)) 0 o.0))

remains_back : (p : Bool) (v : List (List ℕ)) → ok_items (values_items p) v ≡ true → remains (write_items (values_items p) v) ≡ p
remains_back true [] h = let z : ◌≡◌ {A = ℕ} 0 1 = cc in absurd (omega arith)
remains_back true ([] ∷ vs) h = refl
remains_back true ((b ∷ v) ∷ vs) h = refl
remains_back false v h = refl

none_back : (p : Bool) (v : List (List ℕ)) → p ≡ false → additional_of (write_items (values_items p) v) ≡ Absent
none_back true v h = let z : ◌≡◌ {A = ℕ} 0 1 = cc in absurd (omega arith)
none_back false v h = refl

kind_back : (k : ScreenAdditionalData) (p : Bool) (m v : List (List ℕ)) → ok_items (more_items k) m ≡ true → ok_items (values_items p) v ≡ true → alone k p ≡ false
    → additional_of (write_items (more_items k) m ++ write_items (values_items p) v) ≡ k
kind_back Absent p m v g h a = none_back p v a
kind_back Empty p [] v g h a = let z : ◌≡◌ {A = ℕ} 0 1 = cc in absurd (omega arith)
kind_back Empty p (l ∷ m) v g h a =
    let o = both (ok_item (text 0 0) l) (ok_items [] m) g in
    rw (append-nil (item_bytes (text 0 0) l)) (empty_kind l (write_items (values_items p) v) o.0)
kind_back Selection p [] v g h a = let z : ◌≡◌ {A = ℕ} 0 1 = cc in absurd (omega arith)
kind_back Selection p (l ∷ m) v g h a =
    let o = both (ok_item (text 1 51) l) (ok_items selection_items m) g in
    rw (append_assoc (item_bytes (text 1 51) l) (write_items selection_items m) (write_items (values_items p) v))
    (label_kind l (write_items selection_items m ++ write_items (values_items p) v) o.0)

-- what is written reads back
groups_back : (pre : List ℕ) (k : ScreenAdditionalData) (p : Bool) (h m v : List (List ℕ)) → ok_items head_items h ≡ true → ok_items (more_items k) m ≡ true
    → ok_items (values_items p) v ≡ true → alone k p ≡ false
    → read_popup (pre ++ (write_items head_items h ++ (write_items (more_items k) m ++ write_items (values_items p) v))) (length pre) ≡ got (popup k p (h ++ (m ++ v)))
groups_back pre k p h m v g i j a =
    let hw = write_items head_items h in
    let mw = write_items (more_items k) m in
    let vw = write_items (values_items p) v in
    let s = pre ++ (hw ++ (mw ++ vw)) in
    let b : end_of head_items h (length pre) ≡ length (pre ++ hw) = rw (end_is_lem head_items h (length pre)) (sym (length-append pre hw)) in
    let e : s ≡ (pre ++ hw) ++ (mw ++ vw) = sym (append_assoc pre hw (mw ++ vw)) in
    let d : end_of (more_items k) m (length (pre ++ hw)) ≡ length ((pre ++ hw) ++ mw) =
    rw (end_is_lem (more_items k) m (length (pre ++ hw))) (sym (length-append (pre ++ hw) mw)) in
    let f : (pre ++ hw) ++ (mw ++ vw) ≡ ((pre ++ hw) ++ mw) ++ vw = sym (append_assoc (pre ++ hw) mw vw) in
    let q = items_back (values_items p) v ((pre ++ hw) ++ mw) [] (sound-values p).0 j in
    rw (
      items_back head_items h pre (mw ++ vw) refl g,
      b,
      e,
      drop-append_seam (pre ++ hw) (mw ++ vw),
      kind_back k p m v i j a,
      items_back (more_items k) m (pre ++ hw) vw (sound_more k).0 i,
      d,
      f,
      drop-append_seam ((pre ++ hw) ++ mw) vw,
      remains_back p v j,
      rw (append-nil vw) at q,
    )

-- a popup's values in three groups
pub groups : (k : ScreenAdditionalData) (p : Bool) (vs : List (List ℕ)) → ok_items (popup_items k p) vs ≡ true
    → (h : List (List ℕ))
    × ((m : List (List ℕ))
    × ((v : List (List ℕ))
    × ((vs ≡ h ++ (m ++ v))
    × ((ok_items head_items h ≡ true) × ((ok_items (more_items k) m ≡ true) × (ok_items (values_items p) v ≡ true))))))
groups k p vs o =
    let x = ok_split head_items (more_items k ++ values_items p) vs o in
    let y = ok_split (more_items k) (values_items p) x.1.0 x.1.1.1.1 in
    (x.0, (y.0, (y.1.0, (x.1.1.0 ∙ ap (λ (l : List (List ℕ)). x.0 ++ l) y.1.1.0, (x.1.1.1.0, (y.1.1.1.0, y.1.1.1.1))))))

pub groups_write : (k : ScreenAdditionalData) (p : Bool) (h m v : List (List ℕ)) → ok_items head_items h ≡ true → ok_items (more_items k) m ≡ true
    → write_items (popup_items k p) (h ++ (m ++ v)) ≡ write_items head_items h ++ (write_items (more_items k) m ++ write_items (values_items p) v)
groups_write k p h m v g i = rw (write_join head_items (more_items k ++ values_items p) h (m ++ v) g, write_join (more_items k) (values_items p) m v i)

back_by : (pre : List ℕ) (k : ScreenAdditionalData) (p : Bool) (vs h m v : List (List ℕ)) → vs ≡ h ++ (m ++ v)
    → ok_items head_items h ≡ true → ok_items (more_items k) m ≡ true
    → ok_items (values_items p) v ≡ true → alone k p ≡ false → read_popup (pre ++ write_popup (popup k p vs)) (length pre) ≡ got (popup k p vs)
back_by pre k p vs h m v e g i j a = rw (e, groups_write k p h m v g i) (groups_back pre k p h m v g i j a)

pub popup_back : (pre : List ℕ) (k : ScreenAdditionalData) (p : Bool) (vs : List (List ℕ)) → ok_popup (popup k p vs) ≡ true
    → read_popup (pre ++ write_popup (popup k p vs)) (length pre) ≡ got (popup k p vs)
popup_back pre k p vs o =
    let t = passed (alone k p) (ok_items (popup_items k p) vs) o in
    let x = groups k p vs t.1 in
    back_by pre k p vs x.0 x.1.0 x.1.1.0 x.1.1.1.0 x.1.1.1.1.0 x.1.1.1.1.1.0 x.1.1.1.1.1.1 t.0

-- what is read is what would be written, and in range
alone_none : (s : List ℕ) (at e : ℕ) → (additional_of (drop at s) ≡ Absent → e ≡ at) → alone (additional_of (drop at s)) (remains (drop e s)) ≡ false
alone_none s at e h = by (drop at s) refl (additional_of (drop at s)) refl
  where
    by : (r : List ℕ) → drop at s ≡ r → (k : ScreenAdditionalData) → additional_of r ≡ k → alone k (remains (drop e s)) ≡ false
    by [] p Absent q = let z = h (ap additional_of p ∙ q) in rw (z, p)
    by (b ∷ r) p Absent q = first (eqb b 0) q
      where
        first : (t : Bool) → pick t Empty Selection ≡ Absent → remains (drop e s) ≡ false
        first true w = let z : ◌≡◌ {A = ℕ} 0 1 = cc in absurd (omega arith)
        first false w = let z : ◌≡◌ {A = ℕ} 0 1 = cc in absurd (omega arith)
    by r p Empty q = refl
    by r p Selection q = refl

end_none : (k : ScreenAdditionalData) (m : List (List ℕ)) (b : ℕ) → k ≡ Absent → end_of (more_items k) m b ≡ b
end_none Absent m b h = refl
end_none Empty m b h = let z : ◌≡◌ {A = ℕ} 0 1 = cc in absurd (omega arith)
end_none Selection m b h = let z : ◌≡◌ {A = ℕ} 0 1 = cc in absurd (omega arith)

take3 : (s : List ℕ) (at : ℕ) (a b c : List ℕ) → take (length a) (drop at s) ≡ a → take (length b) (drop (at + length a) s) ≡ b
    → take (length c) (drop (at + length a + length b) s) ≡ c → take (length (a ++ (b ++ c))) (drop at s) ≡ a ++ (b ++ c)
take3 s at a b c f g h =
    rw (
      length-append a (b ++ c),
      length-append b c,
      take-add (length a) (length b + length c) (drop at s),
      f,
      drop-drop (length a) at s,
      take-add (length b) (length c) (drop (at + length a) s),
      g,
      drop-drop (length b) (at + length a) s,
      h,
    )

forth_by : (s : List ℕ) (at : ℕ) (q : Popup) (k : ScreenAdditionalData) (p : Bool) (h m v : List (List ℕ)) → q ≡ popup k p (h ++ (m ++ v)) → alone k p ≡ false
    → ok_items head_items h ≡ true → ok_items (more_items k) m ≡ true → ok_items (values_items p) v ≡ true
    → at + length (write_items head_items h) + length (write_items (more_items k) m) + length (write_items (values_items p) v) ≤ length s
    → take (length (write_items head_items h)) (drop at s) ≡ write_items head_items h
    → (b d : ℕ) → b ≡ at + length (write_items head_items h) → d ≡ b + length (write_items (more_items k) m)
    → take (length (write_items (more_items k) m)) (drop b s) ≡ write_items (more_items k) m
    → take (length (write_items (values_items p) v)) (drop d s) ≡ write_items (values_items p) v
    → (ok_popup q ≡ true) × ((at + length (write_popup q) ≤ length s) × (take (length (write_popup q)) (drop at s) ≡ write_popup q))
forth_by s at q k p h m v e a g i j l th b d eb ed tm tv =
    let w = groups_write k p h m v g i in
    let hw = write_items head_items h in
    let mw = write_items (more_items k) m in
    let vw = write_items (values_items p) v in (
      rw (e, a) (ok_join head_items (more_items k ++ values_items p) h (m ++ v) g (ok_join (more_items k) (values_items p) m v i j)),
      (
        rw (e, w, length-append hw (mw ++ vw), length-append mw vw) (omega arith),
        rw (e, w) (take3 s at hw mw vw th (rw eb at tm) (rw (ed, eb) at tv)),
      ),
    )

got_back : (x y : Popup) → got x ≡ got y → y ≡ x
got_back x y h = cc

pub popup_forth : (s : List ℕ) (at : ℕ) (q : Popup) → Bytes s → at ≤ length s → read_popup s at ≡ got q
    → (ok_popup q ≡ true) × ((at + length (write_popup q) ≤ length s) × (take (length (write_popup q)) (drop at s) ≡ write_popup q))
popup_forth s at q y l r =
    let x = and_got (read_items head_items s at) (λ h. read_more s (additional_of (drop (end_of head_items h at) s)) h (end_of head_items h at)) q r in
    let h = x.0 in
    let b = end_of head_items h at in
    let k = additional_of (drop b s) in
    let fh = items-there head_items s at h l x.1.0 in
    let gh = items_forth head_items s at h refl y x.1.0 in
    let eb = end_is_lem head_items h at in
    let x2 = and_got (read_items (more_items k) s b) (λ m. read_rest s k h m (end_of (more_items k) m b)) q x.1.1 in
    let m = x2.0 in
    let e = end_of (more_items k) m b in
    let fm = items-there (more_items k) s b m (omega (arith, fh.1)) x2.1.0 in
    let gm = items_forth (more_items k) s b m (sound_more k).1 y x2.1.0 in
    let ee = end_is_lem (more_items k) m b in
    let p = remains (drop e s) in
    let x3 = and_got (read_items (values_items p) s e) (λ v. got (popup k p (h ++ (m ++ v)))) q x2.1.1 in
    let v = x3.0 in
    let fv = items-there (values_items p) s e v (omega (arith, fm.1)) x3.1.0 in
    let gv = items_forth (values_items p) s e v (sound-values p).1 y x3.1.0 in
    let a = alone_none s b e (end_none k m b) in
    let i = got_back (popup k p (h ++ (m ++ v))) q x3.1.1 in
    forth_by s at q k p h m v i a fh.0 fm.0 fv.0
    (omega (arith, fv.1))
    gh b e eb ee gm gv

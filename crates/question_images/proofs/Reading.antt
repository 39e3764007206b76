-- The question of an image: another length, a flag out of range, or each part at its place. Assumes nothing.
use Prim.Native.Nat.{ℕ, ◌-◌}
use mathlib.Core.Bool.{Bool}
use mathlib.Core.List.{List}
use mathlib.Core.Path.{◌≡◌}
use native.Mathlib.Omega.{arith}
use lib.ListN.{length, take, drop, get_or, length-drop}
use lib.Seq.{get_or-drop, drop-drop}
use lib.Dec.{leb, eqb}
use borrow.Author.Tests.{eq-eqb, ne_eqb}
use Rattle.std.specs.Prelude.{Ok, Err}
use Rattle.codec.specs.Sheet.{got}
use Rattle.codec.specs.declared.refusal.Refusal.{Refusal}
use Rattle.codec.specs.declared.refusal.Refusal.TheVariants.{RecordNotMade}
use Rattle.families.specs.Fields.{PopupIs}
use Rattle.families.specs.declared.screen.ScreenPopup.{ScreenPopup}
use Rattle.families.proofs.Stored.{rest_is}
use Rattle.images.specs.Number.{number_at, flag_of}
use Rattle.images.proofs.NumberLaws.{read-ok, read-not}
use Rattle.images.specs.Popup.{popup_from}
use Rattle.question_images.specs.Image.{question_from, QuestionIs}

module _ (s : List ℕ) where
  pub other_size : (length s ≡ 66 → ⊥) → QuestionIs (question_from s) (Err RecordNotMade)
  other_size h = rw (ne_eqb (length s) 66 h)

  module _ (l : length s ≡ 66) where
    pub started_above : (r : Refusal) → flag_of (get_or s 0 0) ≡ Err r → QuestionIs (question_from s) (Err r)
    started_above r h =
        let n = read-not (eqb (get_or s 0 0) 1) (leb (get_or s 0 0) 1) r h in
        rw (eq-eqb (length s) 66 l, n.0, n.1)

    module _ (started : Bool) (low : flag_of (get_or s 0 0) ≡ Ok started) where
      pub open_above : (r : Refusal) → flag_of (get_or s 1 0) ≡ Err r → QuestionIs (question_from s) (Err r)
      open_above r h =
          let m = read-ok (eqb (get_or s 0 0) 1) (leb (get_or s 0 0) 1) started low in
          let n = read-not (eqb (get_or s 1 0) 1) (leb (get_or s 1 0) 1) r h in
          rw (eq-eqb (length s) 66 l, m.0, n.0, n.1)

      -- the popup's image stands at 10
      popup_there : popup_from (take (length s - 10) (drop 10 s)) ≡ got (record { len = get_or s 10 0; bytes = drop 11 s })
      popup_there =
          let d : length (drop 10 s) ≡ 56 = rw length-drop (omega arith) in
          rw (rest_is s 10, eq-eqb (length (drop 10 s)) 56 d, get_or-drop 10 s 0 0, drop-drop 1 10 s)

      pub popup_refused : (r : Refusal) → PopupIs (popup_from (take (length s - 10) (drop 10 s))) (Err r) → ⊥
      popup_refused r h = rw popup_there at h

      pub each_part : (x : ScreenPopup) (sent last : ℕ) (asks : Bool) → flag_of (get_or s 1 0) ≡ Ok asks → sent ≡ number_at s 2 4 → last ≡ number_at s 6 4
          → PopupIs (popup_from (take (length s - 10) (drop 10 s))) (Ok x)
          → QuestionIs (question_from s) (Ok (record { started = started; «open» = asks; sent = sent; last = last; popup = x }))
      each_part x sent last asks h e f g =
          let m = read-ok (eqb (get_or s 0 0) 1) (leb (get_or s 0 0) 1) started low in
          let n = read-ok (eqb (get_or s 1 0) 1) (leb (get_or s 1 0) 1) asks h in
          let p : x ≡ record { len = get_or s 10 0; bytes = drop 11 s } = rw popup_there at g in
          rw (eq-eqb (length s) 66 l, m.0, n.0, m.1, n.1, e, f, p)

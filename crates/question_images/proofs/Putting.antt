-- A question's image, put part by part at the front of a slice. Assumes nothing.
use Prim.Native.Nat.{ℕ, ◌≤◌}
use mathlib.Core.List.{List, [], ◌∷◌, ◌++◌}
use mathlib.Core.Path.{◌≡◌, refl, ap, ◌∙◌}
use native.Mathlib.Omega.{arith}
use lib.ListN.{length, take, drop}
use borrow.Rule.Slice.PartMut.{put_mid}
use Rattle.codec.specs.Digits.{bytes_of}
use Rattle.codec.specs.Writing.{put_at}
use Rattle.codec.specs.Told.{bit}
use Rattle.codec.proofs.Writes.{put-start, put_on}
use Rattle.images.specs.Popup.{popup_image}
use Rattle.images.proofs.TextLaws.{behind-put}
use Rattle.images.proofs.PopupLaws.{popup-size}
use Rattle.questions.specs.declared.Question.{Question}
use Rattle.question_images.specs.Image.{question_image}

pub question-size : (q : Question) → length q.popup.bytes ≡ 55 → length (question_image q) ≡ 66
question-size q l = omega (arith, popup-size q.popup l)

pub question-put : (q : Question) (s s1 s2 s3 s4 p : List ℕ) (a b : ℕ) → 66 ≤ length s → length q.popup.bytes ≡ 55
    → a ≡ bit q.started → b ≡ bit q.«open»
    → s1 ≡ put_at s 0 (a ∷ []) → s2 ≡ put_at s1 1 (b ∷ []) → s3 ≡ put_at s2 2 (bytes_of 4 q.sent) → s4 ≡ put_at s3 6 (bytes_of 4 q.last)
    → p ≡ put_at (take 56 (drop 10 s4)) 0 (popup_image q.popup) → put_mid 10 56 s4 p ≡ put_at s 0 (question_image q)
question-put q s s1 s2 s3 s4 p a b l n d e f1 f2 f3 f4 f5 =
    let h1 = bit q.started ∷ [] in
    let h2 = bit q.started ∷ bit q.«open» ∷ [] in
    let h3 = bit q.started ∷ bit q.«open» ∷ bytes_of 4 q.sent in
    let h4 = bit q.started ∷ bit q.«open» ∷ (bytes_of 4 q.sent ++ bytes_of 4 q.last) in
    let g1 = put-start s s1 h1 (omega arith) (f1 ∙ ap (λ (x : ℕ). put_at s 0 (x ∷ [])) d) in
    let g2 = put_on s s1 s2 h1 (bit q.«open» ∷ []) 1 g1 (f2 ∙ ap (λ (x : ℕ). put_at s1 1 (x ∷ [])) e) refl (omega arith) in
    let g3 = put_on s s2 s3 h2 (bytes_of 4 q.sent) 2 g2 f3 refl (omega arith) in
    let g4 = put_on s s3 s4 h3 (bytes_of 4 q.last) 6 g3 f4 refl (omega arith) in
    behind-put h4 (popup_image q.popup) s s4 p 10 56 l refl (popup-size q.popup n) g4 f5

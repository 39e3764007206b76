-- Any calls on a question over the C boundary, whatever bytes they are handed, answer the words of the table. Assumes nothing.
use Prim.Native.Nat.{ℕ, zero, suc, ◌+◌, ◌^◌, ◌<◌, ◌≤◌}
use mathlib.Core.Bool.{Bool, true, false}
use mathlib.Core.List.{List, [], ◌∷◌, ◌++◌, map, append-nil}
use mathlib.Core.Path.{◌≡◌, refl, ap, ap₂, sym, subst, ◌∙◌}
use native.Mathlib.Omega.{arith}
use lib.ListN.{length, drop, get_or, replicate, length-drop, drop_of_length-le}
use lib.Seq.{sets, sets-eq}
use lib.Dec.{eqb}
use borrow.Author.Tests.{eqb-true}
use Rattle.crc.specs.Check.{Bytes}
use Rattle.codec.specs.Pick.{pick}
use Rattle.codec.specs.Same.{same}
use Rattle.codec.specs.Sheet.{Answer, got, refused, and_then}
use Rattle.families.specs.declared.payload.CommandPayload.{CommandPayload}
use Rattle.families.specs.declared.payload.CommandPayload.TheVariants.{Fc, Osd, Vtx, Led, General, Crossfire, FlowControl, Screen, Ack}
use Rattle.families.specs.declared.screen.ScreenCommand.TheVariants.{PopupMessageStart, SelectionReturnValue}
use Rattle.families.specs.declared.screen.ScreenPopup.{ScreenPopup}
use Rattle.commands.specs.declared.DirectCommands.{DirectCommands}
use Rattle.images.specs.Popup.{popup_from}
use Rattle.images.specs.Record.{record_image, record_at, record_from}
use Rattle.questions.specs.Table.{State, new_state, Call, asks, returns, neither, Told, answer, next, answers}
use Rattle.questions.specs.Kept.{state_of, new_question, in_limits, reply_to, kept_after, call_by, call_of}
use Rattle.questions.specs.Calls.{kept_next}
use Rattle.questions.specs.declared.Question.{Question}
use Rattle.questions.proofs.Keeps.{new-within, reply-within, state-within, stays_within}
use Rattle.question_images.specs.Image.{question_image}
use Rattle.question_images.proofs.Putting.{question-size}
use Rattle.question_images.proofs.Back.{TypedQuestion, question_back}
use Rattle.crsf.specs.Handed.{image_left}
use Rattle.crsf.specs.Question.{Called, called, called_on, call_on, called_word, question_out, Given, asking, returning, commanding, call_in}
use Rattle.crsf.specs.QuestionCalls.{Typed, CallMade, InTurn, words_of, told_word, next_in, table_words, AreCalls}

-- ---- what a call is handed keeps to its types
abbrev TypedPopup : ScreenPopup → Type 0
TypedPopup p = (p.len < 256) × (length p.bytes ≡ 55)

abbrev TypedCall : Call → Type 0
TypedCall (asks second popup) = (second < 2 ^ 32) × TypedPopup popup
TypedCall (returns second value response) = second < 2 ^ 32
TypedCall neither = Unit {0}

byte_at : (s : List ℕ) (i : ℕ) → Bytes s → get_or s i 0 < 256
byte_at [] i o = omega arith
byte_at (b ∷ s) zero o = o.0
byte_at (b ∷ s) (suc i) o = byte_at s i o.1

popup-typed : (s : List ℕ) (p : ScreenPopup) → Bytes s → popup_from s ≡ got p → TypedPopup p
popup-typed s p o = by (eqb (length s) 56) refl
  where
    by : (b : Bool) → eqb (length s) 56 ≡ b → pick b (got (record { len = get_or s 0 0; bytes = drop 1 s })) (refused 5 0) ≡ got p
        → TypedPopup p
    by true e h =
        let f : record { len = get_or s 0 0; bytes = drop 1 s } ≡ p = cc in
        let l = eqb-true (length s) 56 e in
        subst TypedPopup f (byte_at s 0 o, rw length-drop (omega arith))
    by false e h = let z : ◌≡◌ {A = ℕ} 0 1 = cc in absurd (omega arith)

abbrev TypedRecord : DirectCommands → Type 0
TypedRecord c = (c.len < 256) × (length c.bytes ≡ 55)

record_typed : (s : List ℕ) (c : DirectCommands) → Bytes s → record_from s ≡ got c → TypedRecord c
record_typed s c o = by (eqb (length s) 70) refl (same (record_image (record_at s)) s)
  where
    by : (a : Bool) → eqb (length s) 70 ≡ a → (b : Bool) → pick a (pick b (got (record_at s)) (refused 5 0)) (refused 5 0) ≡ got c
        → TypedRecord c
    by true e true h =
        let f : record_at s ≡ c = cc in
        let l = eqb-true (length s) 70 e in
        subst TypedRecord f (byte_at s 14 o, rw length-drop (omega arith))
    by true e false h = let z : ◌≡◌ {A = ℕ} 0 1 = cc in absurd (omega arith)
    by false e b h = let z : ◌≡◌ {A = ℕ} 0 1 = cc in absurd (omega arith)

by-typed : (second : ℕ) (c : CommandPayload) (p : ScreenPopup) → second < 2 ^ 32 → TypedPopup p → TypedCall (call_by second c p)
by-typed second (Fc c) p h k = tt
by-typed second (Osd c) p h k = tt
by-typed second (Vtx c) p h k = tt
by-typed second (Led c) p h k = tt
by-typed second (General c) p h k = tt
by-typed second (Crossfire c) p h k = tt
by-typed second (FlowControl c) p h k = tt
by-typed second (Screen PopupMessageStart) p h k = (h, k)
by-typed second (Screen (SelectionReturnValue value response)) p h k = h
by-typed second (Ack a) p h k = tt

-- of whatever calls, if it does
abbrev TypedIn : Answer Call → Type 0
TypedIn (got c) = TypedCall c
TypedIn (refused n p) = Unit {0}

given-typed : (g : Given) → Typed g → TypedIn (call_in g)
given-typed (asking second popup) h = by (popup_from popup) refl
  where
    by : (a : Answer ScreenPopup) → popup_from popup ≡ a → TypedIn (and_then a (λ p. got (asks second p)))
    by (got p) e = (h.0, popup-typed popup p h.1 e)
    by (refused n p) e = tt
given-typed (returning second value response) h = h
given-typed (commanding second command) h = by (record_from command) refl
  where
    by : (a : Answer DirectCommands) → record_from command ≡ a → TypedIn (and_then a (λ c. got (call_of second c)))
    by (got c) e = by-typed second c.payload (record { len = c.len; bytes = c.bytes }) h.0 (record_typed command c h.1 e)
    by (refused n p) e = tt

-- ---- one call on the image of a question
sets-whole : (s w : List ℕ) → length s ≡ length w → sets s 0 w ≡ w
sets-whole s w h =
    let l : length s ≤ 0 + length w = omega arith in
    sets-eq w s 0 (omega arith) ∙ ap (λ (t : List ℕ). w ++ t) (drop_of_length-le s l) ∙ append-nil w

kept-typed : (q : Question) (c : Call) (a : Answer Told) → TypedQuestion q → TypedCall c → TypedQuestion (kept_after q c a)
kept-typed q c (refused n p) k h = k
kept-typed q (asks second popup) (got t) k h = record { sent = h.0; last = h.0; len = h.1.0; bytes = h.1.1 }
kept-typed q (returns second value response) (got t) k h = record { sent = omega arith; last = h; len = omega arith; bytes = refl }
kept-typed q neither (got t) k h = k

module _ (q : Question) (k : TypedQuestion q) (within : in_limits q ≡ true) where
  call_is : (a : Answer Call) → call_on (question_image q) a ≡ and_then a (λ c. called_on q c)
  call_is a = ap (λ (x : Answer Question). and_then x (λ y. and_then a (λ c. called_on y c))) (question_back q k)

  word_is : (a : Answer Call) → called_word (call_on (question_image q) a) ≡ told_word (and_then a (λ c. answer (state_of q) c))
  word_is a = ap called_word (call_is a) ∙ of a
    where
      by : (c : Call) (x : Answer Told) → called_word (and_then x (λ t. got (called t (kept_after q c (got t))))) ≡ told_word x
      by c (got t) = refl
      by c (refused n p) = refl

      of : (b : Answer Call) → called_word (and_then b (λ c. called_on q c)) ≡ told_word (and_then b (λ c. answer (state_of q) c))
      of (got c) = by c (reply_to q c) ∙ ap told_word (reply-within q c within)
      of (refused n p) = refl

-- the question that is kept then
abbrev kept_in : Question → Answer Call → Question
kept_in q (got c) = kept_next q c
kept_in q (refused n p) = q

kept_in_lem : (q : Question) (a : Answer Call) → TypedQuestion q → TypedIn a → TypedQuestion (kept_in q a)
kept_in_lem q (got c) k h = kept-typed q c (reply_to q c) k h
kept_in_lem q (refused n p) k h = k

within_in : (q : Question) (a : Answer Call) → in_limits q ≡ true → in_limits (kept_in q a) ≡ true
within_in q (got c) within = stays_within q c within
within_in q (refused n p) within = within

state_in_lem : (q : Question) (a : Answer Call) → in_limits q ≡ true → state_of (kept_in q a) ≡ next_in (state_of q) a
state_in_lem q (got c) within = state-within q c within
state_in_lem q (refused n p) within = refl

left_is : (q : Question) (a : Answer Call) → TypedQuestion q → TypedIn a
    → image_left question_out (and_then a (λ c. called_on q c)) (question_image q) ≡ question_image (kept_in q a)
left_is q (refused n p) k h = refl
left_is q (got c) k h = by (reply_to q c)
  where
    by : (x : Answer Told) → image_left question_out (and_then x (λ t. got (called t (kept_after q c (got t))))) (question_image q)
        ≡ question_image (kept_after q c x)
    by (got t) =
        let f = kept-typed q c (got t) k h in
        sets-whole (question_image q) (question_image (kept_after q c (got t)))
        (question-size q k.bytes ∙ sym (question-size (kept_after q c (got t)) f.bytes))
    by (refused n p) = refl

-- ---- one after the other
calls-from : (ks : List CallMade) (q : Question) → TypedQuestion q → in_limits q ≡ true → InTurn (question_image q) ks
    → words_of ks ≡ table_words (state_of q) ks
calls-from [] q k within h = refl
calls-from (c ∷ cs) q k within (typed, (out, rest)) =
    let a = call_in c.given in
    let t = given-typed c.given typed in
    let left : c.left ≡ question_image (kept_in q a) =
    out.left ∙ ap (λ (x : Answer Called). image_left question_out x (question_image q)) (call_is q k within a) ∙ left_is q a k t in
    let more = calls-from cs (kept_in q a) (kept_in_lem q a k t) (within_in q a within) (subst (λ (s : List ℕ). InTurn s cs) left rest) in
    ap₂ (λ (n : ℕ) (ns : List ℕ). n ∷ ns) (out.word ∙ word_is q k within a)
    (more ∙ ap (λ (s : State). table_words s cs) (state_in_lem q a within))

-- THE theorem: from 66 zeros
pub any_question_calls : (ks : List CallMade) → InTurn (replicate 66 0) ks → words_of ks ≡ table_words new_state ks
any_question_calls ks h =
    calls-from ks new_question (record { sent = omega arith; last = omega arith; len = omega arith; bytes = refl }) new-within h

-- where each is handed the image of a popup or a record: the words of the table's answers
of-answers : (ks : List CallMade) (cs : List Call) (s : State) → AreCalls ks cs → table_words s ks ≡ map told_word (answers s cs)
of-answers [] [] s h = refl
of-answers [] (c ∷ cs) s h = absurd h
of-answers (k ∷ ks) [] s h = absurd h
of-answers (k ∷ ks) (c ∷ cs) s (e, h) =
    ap (λ (a : Answer Call). told_word (and_then a (λ x. answer s x)) ∷ table_words (next_in s a) ks) e
    ∙ ap (λ (ns : List ℕ). told_word (answer s c) ∷ ns) (of-answers ks cs (next s c) h)

pub any_question_answers : (ks : List CallMade) (cs : List Call) → InTurn (replicate 66 0) ks → AreCalls ks cs
    → words_of ks ≡ map told_word (answers new_state cs)
any_question_answers ks cs h are = any_question_calls ks h ∙ of-answers ks cs new_state are

-- Edits in turn: the loop that applies them, and a list of them on a payload that was refused. Assumes nothing.
use Rattle.std.specs.Prelude.{Result, Ok, Err}
use Prim.Native.Nat.{ℕ, zero, suc, ◌+◌, ◌/◌, ◌%◌, ◌<◌, ◌≤◌}
use mathlib.Core.List.{List, [], ◌∷◌, ◌++◌}
use mathlib.Core.Path.{◌≡◌, refl, ap, ap₂, sym, subst, ◌∙◌}
use native.Mathlib.Omega.{arith}
use lib.ListN.{length, take, drop, set, replicate, length-append, length-drop, length-replicate}
use lib.Seq.{sets}
use Rattle.std.proofs.lemmas.List.{take-append-le, drop-append-le, length-take-le}
use Rattle.std.proofs.lemmas.List.Edits.{sets-eq}
use Rattle.std.proofs.Math.Seq.{drop-append_seam}
use borrow.Author.Tests.{le-ltb, lt-ltb, eq-eqb, ne_eqb}
use Rattle.codec.specs.Digits.{number_of}
use Rattle.codec.specs.Sheet.{Answer, got, refused, and_then}
use Rattle.codec.specs.Writing.{leaves}
use Rattle.codec.specs.Refusals.{refusal_number, number_in}
use Rattle.codec.specs.declared.refusal.Refusal.{Refusal}
use Rattle.codec.specs.declared.refusal.Refusal.TheVariants.{InvalidPayloadLength, BufferOverflow}
use Rattle.codec.proofs.Writes.{refusal_some}
use Rattle.commands.specs.declared.DirectCommands.{DirectCommands}
use Rattle.edits.specs.Edit.{Edit, edit, set_field, open_command, bytes_left, EditIs, numbers_of, bytes_after, edits_from, edits_in, stop_list, left_by, ListIs}
use Rattle.edits.specs.Opened.{Opened, AppliesEach, Opens}
use Rattle.edits.specs.declared.layout.Layout.{Layout}

-- ---- the loop that applies them: before the edit at i, those in the rest are to do on what is there
abbrev pub Turns : List ℕ → List ℕ → List ℕ → List ℕ → List ℕ → ℕ → List ℕ → Type 0
Turns es p₀ a₀ p a i rest =
    (bytes_after p₀ (edits_in es) ≡ bytes_after p (edits_in rest))
    × ((sets a₀ 0 (numbers_of p₀ (edits_in es)) ≡ sets a i (numbers_of p (edits_in rest))) × (i + length rest / 8 ≡ length es / 8))

edits-first : (rest e next : List ℕ) → rest ≡ e ++ next → length e ≡ 8
    → edits_in rest ≡ edit (number_of (take 4 e)) (number_of (take 4 (drop 4 e))) ∷ edits_in next
edits-first rest e next h l =
    let g : length rest / 8 ≡ suc (length next / 8) = let k = length-append e next in omega (arith, k, l, ap length h) in
    let x : take 4 rest ≡ take 4 e = ap (take 4) h ∙ take-append-le 4 e next (omega (arith, l)) in
    let y : take 4 (drop 4 rest) ≡ take 4 (drop 4 e) =
    ap (λ (s : List ℕ). take 4 (drop 4 s)) h ∙ ap (take 4) (drop-append-le 4 e next (omega (arith, l)))
    ∙ take-append-le 4 (drop 4 e) next (let k = length-drop 4 e in omega (arith, k, l)) in
    let z : drop 8 rest ≡ next = ap (drop 8) h ∙ ap (λ (n : ℕ). drop n (e ++ next)) (sym l) ∙ drop-append_seam e next in
    ap (λ (k : ℕ). edits_from k rest) g
    ∙ ap₂ (λ (u v : List ℕ). edit (number_of u) (number_of v) ∷ edits_from (length next / 8) (drop 8 rest)) x y
    ∙ ap (λ (s : List ℕ). edit (number_of (take 4 e)) (number_of (take 4 (drop 4 e))) ∷ edits_from (length next / 8) s) z

pub turns_next : (es p₀ a₀ p a p' rest e next : List ℕ) (i f n r : ℕ) → rest ≡ e ++ next → length e ≡ 8 → f ≡ number_of (take 4 e)
    → n ≡ number_of (take 4 (drop 4 e)) → EditIs f n r p p' → Turns es p₀ a₀ p a i rest → Turns es p₀ a₀ p' (set a i r) (i + 1) next
turns_next es p₀ a₀ p a p' rest e next i f n r h l x y d t =
    let first = edits-first rest e next h l ∙ ap₂ (λ (u v : ℕ). edit u v ∷ edits_in next) (sym x) (sym y) in
    let b : bytes_after p (edit f n ∷ edits_in next) ≡ bytes_after p' (edits_in next) = ap (λ (q : List ℕ). bytes_after q (edits_in next)) (sym d.1) in
    let m : sets a i (numbers_of p (edit f n ∷ edits_in next)) ≡ sets (set a i r) (suc i) (numbers_of p' (edits_in next)) =
    ap₂ (λ (k : ℕ) (q : List ℕ). sets (set a i k) (suc i) (numbers_of q (edits_in next))) (sym d.0) (sym d.1) in
    let o : suc i ≡ i + 1 = omega arith in (
      t.0 ∙ ap (bytes_after p) first ∙ b,
      (
        t.1.0 ∙ ap (λ (z : List Edit). sets a i (numbers_of p z)) first ∙ m
            ∙ ap (λ (k : ℕ). sets (set a i r) k (numbers_of p' (edits_in next))) o,
        let k = length-append e next in omega (arith, k, l, t.1.1, ap length h),
      ),
    )

-- there is an answer byte for it
pub turn_room : (es p₀ a₀ p a rest e next : List ℕ) (i : ℕ) → rest ≡ e ++ next → length e ≡ 8 → Turns es p₀ a₀ p a i rest
    → length es / 8 ≤ length a₀ → i < length a₀
turn_room es p₀ a₀ p a rest e next i h l t m = let k = length-append e next in omega (arith, k, l, t.1.1, ap length h)

pub turns_end : (es p₀ a₀ p a rest : List ℕ) (i : ℕ) → length rest < 8 → Turns es p₀ a₀ p a i rest → AppliesEach es p₀ p a₀ a
turns_end es p₀ a₀ p a rest i h t =
    let g : length rest / 8 ≡ 0 = omega arith in (
      sym (t.0 ∙ ap (λ (k : ℕ). bytes_after p (edits_from k rest)) g),
      sym (t.1.0 ∙ ap (λ (k : ℕ). sets a i (numbers_of p (edits_from k rest))) g),
    )

-- ---- what opening told
pub opened_is : (p : List ℕ) (r : Result Layout Refusal) (s : Layout) → r ≡ Ok s → Opens p r → Opened p s
opened_is p r s e h = subst (λ (x : Result Layout Refusal). Opens p x) e h

pub refused_is : (p : List ℕ) (o : Result Layout Refusal) (r : Refusal) → o ≡ Err r → Opens p o → number_in (open_command p) ≡ refusal_number r
refused_is p o r e h = subst (λ (x : Result Layout Refusal). Opens p x) e h

-- ---- a payload that was refused: so is each edit, with that number, and no byte changes
module _ (p : List ℕ) (r : Refusal) (h : number_in (open_command p) ≡ refusal_number r) where
  pub edit-refused : (f n : ℕ) → EditIs f n (refusal_number r) p p
  edit-refused f n = by (open_command p) h
    where
      by : (a : Answer DirectCommands) → number_in a ≡ refusal_number r
          → (refusal_number r ≡ number_in (and_then a (λ c. set_field c f n))) × (p ≡ bytes_left p (and_then a (λ c. set_field c f n)))
      by (got c) e = absurd (omega (arith, e, refusal_some r))
      by (refused k l) e = (sym e, refl)

  all-refused : (es : List Edit) → (numbers_of p es ≡ replicate (length es) (refusal_number r)) × (bytes_after p es ≡ p)
  all-refused [] = (refl, refl)
  all-refused (edit f n ∷ es) =
      let e = edit-refused f n in
      let t = all-refused es in (
        ap₂ (λ (k : ℕ) (q : List ℕ). k ∷ numbers_of q es) (sym e.0) (sym e.1) ∙ ap (λ (l : List ℕ). refusal_number r ∷ l) t.0,
        ap (λ (q : List ℕ). bytes_after q es) (sym e.1) ∙ t.1,
      )

edits-count : (k : ℕ) (s : List ℕ) → length (edits_from k s) ≡ k
edits-count zero s = refl
edits-count (suc k) s = ap suc (edits-count k (drop 8 s))

-- ---- the answers of a list
pub list_done : (es p p' a a' : List ℕ) → length es % 8 ≡ 0 → length es / 8 ≤ length a
    → AppliesEach es p p' a a' → ListIs es 0 p p' a a'
list_done es p p' a a' h l d =
    let e : stop_list (length es) (length a) ≡ 0 = rw (eq-eqb (length es % 8) 0 h, le-ltb (length a) (length es / 8) l) in (
      sym e,
      (d.0 ∙ sym (ap (λ (k : ℕ). left_by k p (edits_in es)) e), d.1 ∙ sym (ap (λ (k : ℕ). leaves k (numbers_of p (edits_in es)) a) e)),
    )

take_none : (a : List ℕ) → take 0 a ≡ []
take_none [] = refl
take_none (x ∷ a) = refl

pub list_refused : (es p a b : List ℕ) (r : Refusal) (n : ℕ) → length es % 8 ≡ 0 → length es / 8 ≤ length a
    → number_in (open_command p) ≡ refusal_number r
    → n ≡ refusal_number r → b ≡ replicate (length (take (length es / 8) a)) n → ListIs es 0 p p a (b ++ drop (length es / 8) a)
list_refused es p a b r n h l o e d =
    let t = all-refused p r o (edits_in es) in
    let k = length es / 8 in
    let c : b ≡ replicate k n = d ∙ ap (λ (m : ℕ). replicate m n) (length-take-le k a l) in
    let m : length (replicate k n) ≡ k = length-replicate k n in
    let z : 0 + length (replicate k n) ≡ k = omega (arith, m) in
    let u : sets a 0 (replicate k n) ≡ replicate k n ++ drop k a =
    sets-eq (replicate k n) a 0 (omega (arith, m, l)) ∙ ap₂ (λ (s : List ℕ) (i : ℕ). s ++ replicate k n ++ drop i a) (take_none a) z in
    list_done es p p a (b ++ drop k a) h l (
      sym t.1,
      ap (λ (s : List ℕ). s ++ drop k a) c ∙ sym u ∙ sym (ap (λ (v : List ℕ). sets a 0 v)
          (t.0 ∙ ap₂ (λ (k m : ℕ). replicate k m) (edits-count k es) (sym e))),
    )

-- ---- a list that is refused leaves all as it was
list_stopped : (es p a : List ℕ) (r : Refusal) → stop_list (length es) (length a) ≡ refusal_number r → ListIs es (refusal_number r) p p a a
list_stopped es p a r e = (sym e, by (stop_list (length es) (length a)) (omega (arith, e, refusal_some r)))
  where
    by : (k : ℕ) → 0 < k → (p ≡ left_by k p (edits_in es)) × (a ≡ leaves k (numbers_of p (edits_in es)) a)
    by zero h = absurd (omega arith)
    by (suc k) h = (refl, refl)

pub list_uneven : (es p a : List ℕ) → (length es % 8 ≡ 0 → ⊥) → ListIs es 1 p p a a
list_uneven es p a h = list_stopped es p a InvalidPayloadLength (rw (ne_eqb (length es % 8) 0 h))

pub list_short : (es p a : List ℕ) → length es % 8 ≡ 0 → length a < length es / 8 → ListIs es 3 p p a a
list_short es p a h l = list_stopped es p a BufferOverflow (rw (eq-eqb (length es % 8) 0 h, lt-ltb (length a) (length es / 8) l))

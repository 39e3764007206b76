-- A chunk's lines as text, in parts. Assumes nothing.
use Rattle.std.specs.Prelude.{Option, Some, None, Result, Ok, Err}
use Prim.Native.Nat.{ℕ, zero, suc, ◌+◌, ◌-◌, ◌<◌, ◌≤◌}
use mathlib.Core.Bool.{Bool, true, false}
use mathlib.Core.List.{List, [], ◌∷◌, ◌++◌, append_assoc, append-nil}
use mathlib.Core.Path.{◌≡◌, refl, ap, sym, subst, ◌∙◌}
use native.Mathlib.Omega.{arith}
use borrow.Author.Tests.{lt-ltb, le-ltb, leb-false, leb-true, ltb-true, ltb-false, eqb-true, eqb-false}
use lib.ListN.{length, take, get_or, length-append}
use lib.Seq.{sets, length-sets}
use lib.Dec.{ltb, leb, eqb}
use Rattle.crc.specs.Check.{Bytes}
use Rattle.codec.proofs.Writes.{out_some}
use Rattle.codec.specs.Sheet.{Answer, got, refused}
use Rattle.codec.specs.declared.refusal.Refusal.{Refusal}
use Rattle.codec.specs.Refusals.{refusal_number, value_in}
use Rattle.codec.specs.Writing.{stop_room}
use Rattle.codec.specs.Told.{WritesAll}
use Rattle.codec.proofs.Loops.{sets_append}
use Rattle.text.proofs.Behind.{behind_none, behind-some}
use Rattle.listing.specs.Listing.{listing}
use Rattle.listing.specs.Text.{longest_text, text_of, PutsText}
use Rattle.listing.specs.Step.{most_records, Stepped, lines_of, told_step, told_next, in_limits, opened, go_on, step_of, closing}
use Rattle.listing.specs.Chunks.{Fed, fed, lines_in, state_in, before, steps, chunk, in_chunks, joined, after_chunks, NoneEmpty, After}
use Rattle.listing.specs.Parts.{told_stop, Filled, nothing, behind, fill_from, filled, Fills, FillsFrom, Moves, parts, text_of_parts, text_of_lines, text_of_chunk, text_of_chunks, text_of_closing}
use Rattle.listing.specs.declared.line.Line.{Line}
use Rattle.listing.specs.declared.line.Line.TheVariants.{Cut, End}
use Rattle.listing.specs.declared.Listing.{Listing}
use Rattle.listing.specs.declared.Step.{Step}
use Rattle.listing.specs.declared.Stop.TheVariants.{Used, Full}
use Rattle.listing.specs.declared.Part.{Part}
use Rattle.listing.proofs.StepLaws.{limit_count, limit_held, goes_none, goes-line, step_none, step-opens, step-goes, step-refused, closing_end, closing_cut, closing-refused, take_put}
use Rattle.listing.proofs.Chunks.{any_chunks}
use Rattle.listing.proofs.TextLaws.{text-some, longest}

-- ---- a step with a line moves on in its chunk
data Onward (i : List ℕ) (at : ℕ) (x : Stepped) : Type 0 where
  line : (l : Line) → x.says ≡ got (l ∷ []) → at < x.at → x.at ≤ length i → Onward i at x
  none : x.says ≡ got [] → Onward i at x
  no : (n p : ℕ) → x.says ≡ refused n p → Onward i at x

goes-onward : (s : Listing) (i : List ℕ) (at from : ℕ) → from ≤ length i → at < from + (s.wanted - s.held) → Onward i at (go_on s i from)
goes-onward s i at from h l = by (ltb (length i - from) (s.wanted - s.held)) refl
  where
    by : (t : Bool) → ltb (length i - from) (s.wanted - s.held) ≡ t → Onward i at (go_on s i from)
    by true e = subst (λ (x : Stepped). Onward i at x)
        (sym (goes_none s i from (ltb-true (length i - from) (s.wanted - s.held) e))) (none refl)
    by false e =
        let f = ltb-false (length i - from) (s.wanted - s.held) e in
        subst (λ (x : Stepped). Onward i at x) (sym (goes-line s i from f)) (line _ refl l (omega arith))

step-onward : (s : Listing) (i : List ℕ) (at : ℕ) → Onward i at (step_of s i at)
step-onward s i at = by (in_limits s) (leb (length i) at) (eqb s.wanted 0) refl refl refl
  where
    by : (a b c : Bool) → in_limits s ≡ a → leb (length i) at ≡ b → eqb s.wanted 0 ≡ c → Onward i at (step_of s i at)
    by false b c e f g = subst (λ (x : Stepped). Onward i at x) (sym (step-refused s i at e)) (no 5 0 refl)
    by true true c e f g = subst (λ (x : Stepped). Onward i at x) (sym (step_none s i at e (leb-true (length i) at f))) (none refl)
    by true false true e f g =
        let l = leb-false (length i) at f in
        subst (λ (x : Stepped). Onward i at x) (sym (step-opens s i at e l (eqb-true s.wanted 0 g)))
        (goes-onward (opened s.count (get_or i at 0)) i at (at + 1) (omega arith) (omega arith))
    by true false false e f g =
        let l = leb-false (length i) at f in
        let n = eqb-false s.wanted 0 g in
        let h = limit_held s e n in
        subst (λ (x : Stepped). Onward i at x) (sym (step-goes s i at e l n)) (goes-onward s i at at (omega arith) (omega arith))

-- where a line was given
step_moves : (s : Listing) (i : List ℕ) (at : ℕ) (l : Line) → (step_of s i at).says ≡ got (l ∷ [])
    → (at < (step_of s i at).at) × ((step_of s i at).at ≤ length i)
step_moves s i at l e = by (step-onward s i at)
  where
    by : Onward i at (step_of s i at) → (at < (step_of s i at).at) × ((step_of s i at).at ≤ length i)
    by (line m f a b) = (a, b)
    by (none f) = let z : ◌≡◌ {A = ℕ} 0 1 = cc in absurd (omega arith)
    by (no n p f) = let z : ◌≡◌ {A = ℕ} 0 1 = cc in absurd (omega arith)

-- ---- one line of a part
module _ (f : ℕ) (s : Listing) (i : List ℕ) (at room : ℕ) where
  fill_line : (l : Line) → (step_of s i at).says ≡ got (l ∷ []) → length (text_of l) ≤ room
      → fill_from (suc f) s i at room
      ≡ behind (text_of l) (fill_from f (step_of s i at).state i (step_of s i at).at (room - length (text_of l)))
  fill_line l e h = rw (e, le-ltb room (length (text_of l)) h)

  fill_full : (l : Line) → (step_of s i at).says ≡ got (l ∷ []) → room < length (text_of l)
      → fill_from (suc f) s i at room ≡ nothing s at (got false)
  fill_full l e h = rw (e, lt-ltb room (length (text_of l)) h)

  fill_used : (step_of s i at).says ≡ got [] → fill_from (suc f) s i at room ≡ nothing (step_of s i at).state (step_of s i at).at (got true)
  fill_used e = rw e

  fill_refused : (n p : ℕ) → (step_of s i at).says ≡ refused n p
      → fill_from (suc f) s i at room ≡ nothing (step_of s i at).state (step_of s i at).at (refused n p)
  fill_refused n p e = rw e

-- ---- what the loop over the lines keeps: n bytes w of the text are put, and what the part goes on with stands behind them; where
-- there are any, it has moved on
pub record Filling (s₀ : Listing) (i : List ℕ) (at : ℕ) (t₀ : List ℕ) (s : Listing) (j n : ℕ) (t : List ℕ) : Type 0 where
  pub put : List ℕ
  pub most : ℕ
  pub size : length put ≡ n
  pub room : n ≤ length t₀
  pub left : length t₀ - n < most
  pub leaves : t ≡ sets t₀ 0 put
  pub same : length t ≡ length t₀
  pub goes : filled s₀ i at (length t₀) ≡ behind put (fill_from most s i j (length t₀ - n))
  pub onward : at ≤ j
  pub moved : 0 < n → (at < j) × (j ≤ length i)

pub filling_starts : (s : Listing) (i : List ℕ) (at : ℕ) (t : List ℕ) → Filling s i at t s at 0 t
filling_starts s i at t = record {
  put = [];
  most = suc (length t);
  size = refl;
  room = omega arith;
  left = omega arith;
  leaves = refl;
  same = refl;
  goes = ap (λ (r : ℕ). fill_from (suc (length t)) s i at r) (let e : length t ≡ length t - 0 = omega arith in e);
  onward = omega arith;
  moved = λ h. absurd (omega arith);
}

behind-behind : (a b : List ℕ) (f : Filled) → behind a (behind b f) ≡ behind (a ++ b) f
behind-behind a b f = ap (λ (w : List ℕ). record { text = w; state = f.state; at = f.at; used = f.used })
    (sym (append_assoc a b f.text))

some_more : (m n : ℕ) → n < m → (f : ℕ) × (m ≡ suc f)
some_more zero n h = absurd (omega arith)
some_more (suc f) n h = (f, refl)

module _ {s₀ s : Listing} {i t₀ t : List ℕ} {at j n : ℕ} (g : Filling s₀ i at t₀ s j n t) where
  one : (f : ℕ) × (g.most ≡ suc f)
  one = some_more g.most (length t₀ - n) g.left

  -- the step ends the part, with this behind what is put
  whole : (y : Filled) → fill_from (suc one.0) s i j (length t₀ - n) ≡ y → filled s₀ i at (length t₀) ≡ behind g.put y
  whole y h = g.goes ∙ ap (λ (m : ℕ). behind g.put (fill_from m s i j (length t₀ - n))) one.1
      ∙ ap (λ (z : Filled). behind g.put z) h

  ends : (y : Filled) (r : Part) (t' : List ℕ) → fill_from (suc one.0) s i j (length t₀ - n) ≡ y → y.text ≡ []
      → r.state ≡ y.state → r.at ≡ y.at → r.len ≡ n
      → told_stop r.stop ≡ y.used → t' ≡ t → Fills (filled s₀ i at (length t₀)) r t₀ t'
  ends y r t' h e₀ e₁ e₂ e₃ e₄ e₅ =
      let w : g.put ++ y.text ≡ g.put = ap (λ (z : List ℕ). g.put ++ z) e₀ ∙ append-nil g.put in
      rw (whole y h) (record {
        state = e₁;
        place = e₂;
        count = e₃ ∙ sym (ap length w ∙ g.size);
        stop = e₄;
        leaves = e₅ ∙ g.leaves ∙ ap (λ (z : List ℕ). sets t₀ 0 z) (sym w);
      })

  -- of the function's answer r: its two promises
  abbrev pub Answers : Part → List ℕ → Type 0
  Answers r t' = Fills (filled s₀ i at (length t₀)) r t₀ t' × Moves at i r t₀

  -- a state beyond its limits
  pub filling_refused : (r : Refusal) → told_next s j (Err r) ≡ step_of s i j
      → Answers (record { state = s; at = j; len = n; stop = Err r }) t
  filling_refused r e = (
    ends _ _ t (fill_refused one.0 s i j (length t₀ - n) (refusal_number r) 0 (sym (ap (λ (y : Stepped). y.says) e)))
        refl (ap (λ (y : Stepped). y.state) e) (ap (λ (y : Stepped). y.at) e) refl refl refl,
    (λ l h. let z : ◌≡◌ {A = ℕ} 0 1 = cc in absurd (omega arith)),
  )

  module _ (x : Step) (e : told_step x ≡ step_of s i j) where
    says : got (lines_of x.line) ≡ (step_of s i j).says
    says = ap (λ (y : Stepped). y.says) e

    state_is : x.state ≡ (step_of s i j).state
    state_is = ap (λ (y : Stepped). y.state) e

    at_is : x.at ≡ (step_of s i j).at
    at_is = ap (λ (y : Stepped). y.at) e

    pub filling_used : x.line ≡ None → Answers (record { state = x.state; at = x.at; len = n; stop = Ok Used }) t
    filling_used h = (
      ends _ _ t (fill_used one.0 s i j (length t₀ - n) (sym says ∙ ap (λ (o : Option Line). got (lines_of o)) h)) refl state_is at_is refl refl refl,
      (λ l e. let z : ◌≡◌ {A = ℕ} 0 1 = cc in absurd (omega arith)),
    )

    module _ {l : Line} {k : ℕ} {t' : List ℕ} (h : x.line ≡ Some l) (p : PutsText l n k t t') where
      line_is : (step_of s i j).says ≡ got (l ∷ [])
      line_is = sym says ∙ ap (λ (o : Option Line). got (lines_of o)) h

      -- a line without room: the part ends before it
      pub filling_full : k ≡ 0 → Answers (record { state = s; at = j; len = n; stop = Ok Full }) t'
      filling_full z =
          let q = behind_none p.put (text-some l) z in (
            ends _ _ t' (fill_full one.0 s i j (length t₀ - n) l line_is (omega (arith, q.0, g.same, g.room)))
                refl refl refl refl refl q.1,
            (λ longest e. g.moved (omega (arith, q.0, g.same, p.longest))),
          )

      pub filling_turn : (k ≡ 0 → ⊥) → Filling s₀ i at t₀ x.state x.at (n + k) t'
      filling_turn z =
          let q = behind-some p.put (text-some l) z in
          let m = step_moves s i j l line_is in
          let u : length t₀ - n - length (text_of l) ≡ length t₀ - (n + k) = omega (arith, q.0) in
          record {
            put = g.put ++ text_of l;
            most = one.0;
            size = length-append g.put (text_of l) ∙ omega (arith, g.size, q.0);
            room = omega (arith, q.1.0, g.same);
            left = omega (arith, one.1, g.left, q.0, q.1.0, g.same, text-some l);
            leaves =
                q.1.1
                ∙ ap (λ (y : List ℕ). sets y n (text_of l)) g.leaves
                ∙ ap (λ (a : ℕ). sets (sets t₀ 0 g.put) a (text_of l)) (let c : n ≡ 0 + length g.put = omega (arith, g.size) in c)
                ∙ sym (sets_append g.put (text_of l) t₀ 0);
            same = ap length q.1.1 ∙ length-sets t n (text_of l) ∙ g.same;
            goes =
                whole _ (fill_line one.0 s i j (length t₀ - n) l line_is (omega (arith, q.0, q.1.0, g.same)))
                ∙ behind-behind g.put (text_of l) _
                ∙ ap (λ (r : ℕ). behind (g.put ++ text_of l) (fill_from one.0 (step_of s i j).state i (step_of s i j).at r)) u
                ∙ ap (λ (y : Listing). behind (g.put ++ text_of l)
                (fill_from one.0 y i (step_of s i j).at (length t₀ - (n + k)))) (sym state_is)
                ∙ ap (λ (a : ℕ). behind (g.put ++ text_of l) (fill_from one.0 x.state i a (length t₀ - (n + k)))) (sym at_is);
            onward = omega (arith, m.0, at_is, g.onward);
            moved = λ y. (omega (arith, m.0, at_is, g.onward), omega (arith, m.1, at_is));
          }

-- ---- a part's text has room
fill_room_by : (f : ℕ) (s : Listing) (i : List ℕ) (at room : ℕ)
    → ((s' : Listing) (at' room' : ℕ) → length (fill_from f s' i at' room').text ≤ room')
    → Onward i at (step_of s i at) → length (fill_from (suc f) s i at room).text ≤ room
fill_room_by f s i at room more (none e) = rw (fill_used f s i at room e) (omega arith)
fill_room_by f s i at room more (no n p e) = rw (fill_refused f s i at room n p e) (omega arith)
fill_room_by f s i at room more (line l e a b) = fits (ltb room (length (text_of l))) refl
  where
    fits : (t : Bool) → ltb room (length (text_of l)) ≡ t → length (fill_from (suc f) s i at room).text ≤ room
    fits true h = rw (fill_full f s i at room l e (ltb-true room (length (text_of l)) h)) (omega arith)
    fits false h =
        let r = ltb-false room (length (text_of l)) h in
        let m = more (step_of s i at).state (step_of s i at).at (room - length (text_of l)) in
        rw (
          fill_line f s i at room l e r,
          length-append (text_of l)
              (fill_from f (step_of s i at).state i (step_of s i at).at (room - length (text_of l))).text,
        ) (omega arith)

fill_room : (f : ℕ) (s : Listing) (i : List ℕ) (at room : ℕ) → length (fill_from f s i at room).text ≤ room
fill_room zero s i at room = omega arith
fill_room (suc f) s i at room = fill_room_by f s i at room (λ s' at' room'. fill_room f s' i at' room') (step-onward s i at)

-- so it is what stands in front in the text that is left
pub part-text : (s : Listing) (i : List ℕ) (at : ℕ) (r : Part) (t t' : List ℕ) → Fills (filled s i at (length t)) r t t'
    → (r.len ≤ length t) × (take r.len t' ≡ (filled s i at (length t)).text)
part-text s i at r t t' h =
    let m = fill_room (suc (length t)) s i at (length t) in (
      omega (arith, h.count),
      ap (λ (x : List ℕ). take r.len x) h.leaves
          ∙ take_put t (filled s i at (length t)).text 0 r.len (omega (arith, h.count)) (omega (arith, h.count)),
    )

-- ---- the parts of a chunk one after the other are its lines
abbrev text_from : ℕ → Listing → List ℕ → ℕ → List ℕ
text_from g s i at = text_of_lines (lines_in (steps g s i at))

abbrev state_from : ℕ → Listing → List ℕ → ℕ → Listing
state_from g s i at = state_in (steps g s i at)

-- a part of the steps from a place on: more steps follow it, or none
data PartOf (g : ℕ) (s : Listing) (i : List ℕ) (at : ℕ) (f : Filled) : Type 0 where
  more : (h : ℕ) → f.used ≡ got false → length i - f.at < h → text_from g s i at ≡ f.text ++ text_from h f.state i f.at
      → state_from g s i at ≡ state_from h f.state i f.at → PartOf g s i at f
  last : (f.used ≡ got false → ⊥) → text_from g s i at ≡ f.text → state_from g s i at ≡ f.state → PartOf g s i at f

lines-before : (l : Line) (s : Listing) (x : Fed) → lines_in (before (got (l ∷ [])) s x) ≡ l ∷ lines_in x
lines-before l s (fed ls t) = refl

state-before : (l : Line) (s : Listing) (x : Fed) → state_in (before (got (l ∷ [])) s x) ≡ state_in x
state-before l s (fed ls t) = refl

module _ (g : ℕ) (s : Listing) (i : List ℕ) (at : ℕ) (l : Line) (e : (step_of s i at).says ≡ got (l ∷ [])) where
  steps-line : steps (suc g) s i at ≡ before (got (l ∷ [])) (step_of s i at).state (steps g (step_of s i at).state i (step_of s i at).at)
  steps-line = ap (λ (a : Answer (List Line)). before a (step_of s i at).state (steps g (step_of s i at).state i (step_of s i at).at)) e

  text-line : text_from (suc g) s i at ≡ text_of l ++ text_from g (step_of s i at).state i (step_of s i at).at
  text-line = ap (λ (x : Fed). text_of_lines (lines_in x)) steps-line
      ∙ ap text_of_lines (lines-before l (step_of s i at).state (steps g (step_of s i at).state i (step_of s i at).at))

  state-line : state_from (suc g) s i at ≡ state_from g (step_of s i at).state i (step_of s i at).at
  state-line = ap state_in steps-line ∙ state-before l (step_of s i at).state (steps g (step_of s i at).state i (step_of s i at).at)

  part-behind : (f : Filled) → PartOf g (step_of s i at).state i (step_of s i at).at f → PartOf (suc g) s i at (behind (text_of l) f)
  part-behind f (more h u b t c) =
      more h u b (text-line ∙ ap (λ (x : List ℕ). text_of l ++ x) t
      ∙ sym (append_assoc (text_of l) f.text (text_from h f.state i f.at))) (state-line ∙ c)
  part-behind f (last u t c) = last u (text-line ∙ ap (λ (x : List ℕ). text_of l ++ x) t) (state-line ∙ c)

part_steps_by : (f g : ℕ) (s : Listing) (i : List ℕ) (at room : ℕ) → room < suc f → length i - at < suc g
    → ((s' : Listing) (at' room' : ℕ) → room' < f → length i - at' < g → PartOf g s' i at' (fill_from f s' i at' room'))
    → Onward i at (step_of s i at) → PartOf (suc g) s i at (fill_from (suc f) s i at room)
part_steps_by f g s i at room h k after (none e) =
    rw (fill_used f s i at room e) (last (λ u. let z : ◌≡◌ {A = ℕ} 0 1 = cc in omega arith) (rw e) (rw e))
part_steps_by f g s i at room h k after (no n p e) =
    rw (fill_refused f s i at room n p e) (last (λ u. let z : ◌≡◌ {A = ℕ} 0 1 = cc in omega arith) (rw e) (rw e))
part_steps_by f g s i at room h k after (line l e a b) = fits (ltb room (length (text_of l))) refl
  where
    fits : (t : Bool) → ltb room (length (text_of l)) ≡ t → PartOf (suc g) s i at (fill_from (suc f) s i at room)
    fits true c = rw (fill_full f s i at room l e (ltb-true room (length (text_of l)) c)) (more (suc g) refl k refl refl)
    fits false c =
        let r = ltb-false room (length (text_of l)) c in
        rw (fill_line f s i at room l e r)
        (part-behind g s i at l e _ (after (step_of s i at).state (step_of s i at).at (room - length (text_of l))
        (omega (arith, text-some l)) (omega arith)))

part-steps : (f g : ℕ) (s : Listing) (i : List ℕ) (at room : ℕ) → room < f → length i - at < g → PartOf g s i at (fill_from f s i at room)
part-steps zero g s i at room h k = absurd (omega arith)
part-steps (suc f) zero s i at room h k = absurd (omega arith)
part-steps (suc f) (suc g) s i at room h k = part_steps_by f g s i at room h k
    (λ s' at' room'. part-steps f g s' i at' room') (step-onward s i at)

-- what the loop over a chunk's parts keeps: so many have been, and steps from the last one's place give the rest of the lines
pub record SoFar (room : ℕ) (s₀ : Listing) (i : List ℕ) (k : ℕ) (s : Listing) (at : ℕ) : Type 0 where
  pub state : s ≡ (parts room s₀ i k).state
  pub place : at ≡ (parts room s₀ i k).at
  pub turns : k ≤ at
  pub within : at ≤ length i
  pub most : ℕ
  pub left : length i - at < most
  pub text : text_of_chunk s₀ i ≡ text_of_parts room s₀ i k ++ text_from most s i at
  pub ends : state_in (chunk s₀ i) ≡ state_from most s i at

pub so_far_starts : (room : ℕ) (s : Listing) (i : List ℕ) → SoFar room s i 0 s 0
so_far_starts room s i = record {
  state = refl;
  place = refl;
  turns = omega arith;
  within = omega arith;
  most = suc (length i);
  left = omega arith;
  text = refl;
  ends = refl;
}

module _ {s₀ s : Listing} {i t t' : List ℕ} {at k : ℕ} {r : Part} (g : SoFar (length t) s₀ i k s at) (h : FillsFrom s i at r t t') where
  part_is : filled s i at (length t) ≡ parts (length t) s₀ i (suc k)
  part_is =
      ap (λ (x : Listing). filled x i at (length t)) g.state
      ∙ ap (λ (a : ℕ). filled (parts (length t) s₀ i k).state i a (length t)) g.place

  -- what is to be written is the next part
  pub next-part : (r.len ≤ length t) × (take r.len t' ≡ (parts (length t) s₀ i (suc k)).text)
  next-part =
      let p = part-text s i at r t t' h in
      (p.0, p.1 ∙ ap (λ (f : Filled). f.text) part_is)

  part_of : PartOf g.most s i at (filled s i at (length t))
  part_of = part-steps (suc (length t)) g.most s i at (length t) (omega arith) g.left

  pub so_far_turn : told_stop r.stop ≡ got false → Moves at i r t → longest_text ≤ length t
      → SoFar (length t) s₀ i (suc k) r.state r.at
  so_far_turn u m l = by part_of
    where
      by : PartOf g.most s i at (filled s i at (length t)) → SoFar (length t) s₀ i (suc k) r.state r.at
      by (last v a b) = absurd (v (sym h.stop ∙ u))
      by (more n v b a c) = record {
        state = h.state ∙ ap (λ (f : Filled). f.state) part_is;
        place = h.place ∙ ap (λ (f : Filled). f.at) part_is;
        turns = omega (arith, g.turns, (m l u).0);
        within = (m l u).1;
        most = n;
        left = omega (arith, h.place);
        text =
            g.text
            ∙ ap (λ (x : List ℕ). text_of_parts (length t) s₀ i k ++ x) a
            ∙ sym (append_assoc (text_of_parts (length t) s₀ i k) (filled s i at (length t)).text
            (text_from n (filled s i at (length t)).state i (filled s i at (length t)).at))
            ∙ ap (λ (f : Filled). (text_of_parts (length t) s₀ i k ++ f.text) ++ text_from n
            (filled s i at (length t)).state i (filled s i at (length t)).at) part_is
            ∙ ap (λ (x : Listing). text_of_parts (length t) s₀ i (suc k) ++ text_from n x i (filled s i at (length t)).at) (sym h.state)
            ∙ ap (λ (x : ℕ). text_of_parts (length t) s₀ i (suc k) ++ text_from n r.state i x) (sym h.place);
        ends =
            g.ends ∙ c
            ∙ ap (λ (x : Listing). state_from n x i (filled s i at (length t)).at) (sym h.state)
            ∙ ap (λ (x : ℕ). state_from n r.state i x) (sym h.place);
      }

  pub so_far-ends : (told_stop r.stop ≡ got false → ⊥)
      → (r.state ≡ state_in (chunk s₀ i)) × (text_of_parts (length t) s₀ i (suc k) ≡ text_of_chunk s₀ i)
  so_far-ends u = by part_of
    where
      by : PartOf g.most s i at (filled s i at (length t))
          → (r.state ≡ state_in (chunk s₀ i)) × (text_of_parts (length t) s₀ i (suc k) ≡ text_of_chunk s₀ i)
      by (more n v b a c) = absurd (u (h.stop ∙ v))
      by (last v a b) = (
        h.state ∙ sym (g.ends ∙ b),
        ap (λ (f : Filled). text_of_parts (length t) s₀ i k ++ f.text) (sym part_is)
            ∙ sym (g.text ∙ ap (λ (x : List ℕ). text_of_parts (length t) s₀ i k ++ x) a),
      )

-- ---- THE text of a listing: that of the chunks one after the other, then what closes it. (The input is as short as in `any-chunks`.)
text_append : (a b : List Line) → text_of_lines (a ++ b) ≡ text_of_lines a ++ text_of_lines b
text_append [] b = refl
text_append (l ∷ a) b = ap (λ (x : List ℕ). text_of l ++ x) (text_append a b) ∙ sym (append_assoc (text_of l) (text_of_lines a) (text_of_lines b))

chunks-text : (s : Listing) (cs : List (List ℕ)) → text_of_lines (in_chunks s cs) ≡ text_of_chunks s cs ++ text_of_closing (after_chunks s cs)
chunks-text s [] = refl
chunks-text s (c ∷ cs) =
    text_append (lines_in (chunk s c)) (in_chunks (state_in (chunk s c)) cs)
    ∙ ap (λ (x : List ℕ). text_of_chunk s c ++ x) (chunks-text (state_in (chunk s c)) cs)
    ∙ sym (append_assoc (text_of_chunk s c) (text_of_chunks (state_in (chunk s c)) cs) (text_of_closing (after_chunks (state_in (chunk s c)) cs)))

pub listing-text : (cs : List (List ℕ)) → Bytes (joined cs) → length (joined cs) < most_records
    → text_of_chunks (opened 0 0) cs ++ text_of_closing (after_chunks (opened 0 0) cs) ≡ text_of_lines (listing (joined cs))
listing-text cs o l = sym (chunks-text (opened 0 0) cs) ∙ ap text_of_lines (any_chunks cs o l)

-- ---- a chunk more
after_append : (s : Listing) (cs : List (List ℕ)) (c : List ℕ) → after_chunks s (cs ++ c ∷ []) ≡ state_in (chunk (after_chunks s cs) c)
after_append s [] c = refl
after_append s (d ∷ cs) c = after_append (state_in (chunk s d)) cs c

pub after_none : After 0 (opened 0 0)
after_none = record { chunks = []; some = tt; count = refl; state = refl }

none_append : (cs : List (List ℕ)) (c : List ℕ) → NoneEmpty cs → 0 < length c → NoneEmpty (cs ++ c ∷ [])
none_append [] c h l = (l, tt)
none_append (d ∷ cs) c h l = (h.0, none_append cs c h.1 l)

pub after_more : (k : ℕ) (s t : Listing) (c : List ℕ) → After k s → 0 < length c → t ≡ state_in (chunk s c) → After (k + 1) t
after_more k s t c a l e = record {
  chunks = a.chunks ++ c ∷ [];
  some = none_append a.chunks c a.some l;
  count = length-append a.chunks (c ∷ []) ∙ ap (λ (n : ℕ). n + 1) a.count;
  state = e ∙ ap (λ (x : Listing). state_in (chunk x c)) a.state ∙ sym (after_append (opened 0 0) a.chunks c);
}

-- ---- the closing line: it has room in a text that holds the longest line
closing-longest : (s : Listing) (l : Line) → closing s ≡ got (l ∷ []) → length (text_of l) ≤ longest_text
closing-longest s l h = by (in_limits s) (eqb s.wanted 0) refl refl
  where
    by : (a b : Bool) → in_limits s ≡ a → eqb s.wanted 0 ≡ b → length (text_of l) ≤ longest_text
    by false b e f = let g = closing-refused s e in let z : ◌≡◌ {A = ℕ} 0 1 = cc in absurd (omega arith)
    by true true e f =
        let g = closing_end s e (eqb-true s.wanted 0 f) in
        let i : End s.count ≡ l = cc in
        rw (← i) (longest (End s.count) (omega (arith, limit_count s e)))
    by true false e f =
        let g = closing_cut s e (eqb-false s.wanted 0 f) in
        let i : Cut s.count ≡ l = cc in
        rw (← i) (longest (Cut s.count) (omega (arith, limit_count s e)))

module _ (s : Listing) (l : Line) (x : Result ℕ Refusal) (t t' : List ℕ) (h : closing s ≡ got (l ∷ [])) (w : WritesAll (text_of l) x t t') where
  pub closing_not_refused : (r : Refusal) → longest_text ≤ length t → x ≡ Err r → ⊥
  closing_not_refused r m e =
      let f : stop_room (length t) (length (text_of l)) ≡ 0 =
      rw (le-ltb (length t) (length (text_of l)) (omega (arith, closing-longest s l h))) in
      out_some r (length (text_of l)) (rw (f, e) at w.0)

  pub closing-text : (n : ℕ) → longest_text ≤ length t → x ≡ Ok n → (n ≤ length t') × (take n t' ≡ text_of_closing s)
  closing-text n m e =
      let f : stop_room (length t) (length (text_of l)) ≡ 0 =
      rw (le-ltb (length t) (length (text_of l)) (omega (arith, closing-longest s l h))) in
      let g = rw (f, e) at w.0 in
      let k : n ≡ length (text_of l) = cc in
      let i : t' ≡ sets t 0 (text_of l) = rw f at w.1 in
      let c : text_of_closing s ≡ text_of l = ap (λ (a : Answer (List Line)). text_of_lines (value_in [] a)) h ∙ append-nil (text_of l) in
      let j : length t' ≡ length t = ap length i ∙ length-sets t 0 (text_of l) in (
        omega (arith, closing-longest s l h),
        ap (λ (y : List ℕ). take n y) i ∙ take_put t (text_of l) 0 n (omega arith)
            (omega (arith, closing-longest s l h)) ∙ sym c,
      )

-- THE chunk theorem: an input fed in any division into chunks gives the lines of its listing, if it has fewer than 2^64 - 1 bytes.
-- Assumes nothing.
use Prim.Native.Nat.{ℕ, zero, suc, ◌+◌, ◌-◌, ◌<◌, ◌≤◌}
use mathlib.Core.Bool.{Bool, true, false}
use mathlib.Core.List.{List, [], ◌∷◌, ◌++◌, append_assoc, append-nil}
use mathlib.Core.Path.{◌≡◌, refl, ap, sym, subst, ◌∙◌}
use native.Mathlib.Omega.{arith}
use native.Mathlib.Nat.{zero-add}
use native.Mathlib.Numerals.{add-one}
use borrow.Author.Tests.{lt-ltb, le-ltb, ltb-true, ltb-false}
use lib.ListN.{length, take, drop, get_or, replicate, length-append, length-drop, length-replicate, drop_of_length-le}
use lib.Seq.{sets, drop-cons, drop-drop, take-append-le, drop-append-le, take-append-add, drop-append-add, length-take-le}
use lib.Dec.{ltb}
use Rattle.crc.specs.Check.{Bytes}
use Rattle.codec.specs.Pick.{pick}
use Rattle.codec.specs.Sheet.{Answer, got}
use Rattle.codec.specs.Refusals.{value_in}
use Rattle.codec.proofs.Loops.{sets_append}
use Rattle.commands.specs.Reading.{read_command}
use Rattle.commands.specs.declared.DirectCommands.{DirectCommands}
use Rattle.commands.proofs.Known.{read_long}
use Rattle.listing.specs.Listing.{line_of, lines_from, listing}
use Rattle.listing.specs.Step.{most_records, longest_record, most_kept, Stepped, in_limits, opened, kept_with, line_with, go_on, step_of, closing}
use Rattle.listing.specs.Chunks.{Fed, fed, lines_in, state_in, before, steps, in_chunks, joined}
use Rattle.listing.specs.declared.line.Line.{Line}
use Rattle.listing.specs.declared.line.Line.TheVariants.{Cut}
use Rattle.listing.specs.declared.Listing.{Listing}
use Rattle.listing.proofs.StepLaws.{picked, passed, limits_between, limits_inside, goes_none, goes-line, step_none, step-opens, step-goes, closing_end, closing_cut, take_put, line-whole}

-- ---- the listing from record k on does not depend on its bound
abbrev lines : ℕ → List ℕ → List Line
lines k s = lines_from (suc (length s)) k s

bound : (f g k : ℕ) (s : List ℕ) → length s < f → length s < g → lines_from f k s ≡ lines_from g k s
bound zero g k s h l = absurd (omega arith)
bound (suc f) zero k s h l = absurd (omega arith)
bound (suc f) (suc g) k [] h l = refl
bound (suc f) (suc g) k (n ∷ s) h l =
    let d : length (drop n s) ≤ length s = rw length-drop (omega arith) in
    ap (λ (x : List Line). pick (ltb (length s) n) (Cut k ∷ []) (line_of k (read_command (take n s)) ∷ x))
    (bound f g (suc k) (drop n s) (omega arith) (omega arith))

lines_cut : (k n : ℕ) (s : List ℕ) → length s < n → lines k (n ∷ s) ≡ Cut k ∷ []
lines_cut k n s h = picked (ltb (length s) n) _ _ (lt-ltb (length s) n h)

lines_more : (k n : ℕ) (s : List ℕ) → n ≤ length s → lines k (n ∷ s) ≡ line_of k (read_command (take n s)) ∷ lines (k + 1) (drop n s)
lines_more k n s h =
    let d : length (drop n s) ≤ length s = rw length-drop (omega arith) in
    passed (ltb (length s) n) _ _ (le-ltb (length s) n h)
    ∙ ap (λ (x : List Line). line_of k (read_command (take n s)) ∷ x)
    (bound (suc (length s)) (suc (length (drop n s))) (suc k) (drop n s) (omega arith) (omega arith))
    ∙ ap (λ (j : ℕ). line_of k (read_command (take n s)) ∷ lines j (drop n s)) (sym (add-one k))

-- ---- the state after k records and the bytes of an unfinished one: none, or a length and fewer payload bytes
abbrev held : ℕ → List ℕ → List ℕ
held n t = pick (ltb most_kept n) (replicate most_kept 0) (sets (replicate most_kept 0) 0 t)

abbrev after : ℕ → List ℕ → Listing
after k [] = opened k 0
after k (n ∷ t) = record { count = k; wanted = n; held = length t; bytes = held n t }

abbrev Unfinished : List ℕ → Type 0
Unfinished [] = Unit {0}
Unfinished (n ∷ t) = (length t < n) × (n ≤ longest_record)

limits_after : (k : ℕ) (p : List ℕ) → k < most_records → Unfinished p → in_limits (after k p) ≡ true
limits_after k [] h u = limits_between (after k []) h refl refl
limits_after k (n ∷ t) h u = limits_inside (after k (n ∷ t)) h u.1 u.0

-- at the end of the input
closes : (k : ℕ) (p : List ℕ) → k < most_records → Unfinished p → value_in [] (closing (after k p)) ≡ lines k p
closes k [] h u = ap (λ (x : Answer (List Line)). value_in [] x) (closing_end (after k []) (limits_after k [] h u) refl)
closes k (n ∷ t) h u =
    ap (λ (x : Answer (List Line)). value_in [] x)
    (closing_cut (after k (n ∷ t)) (limits_after k (n ∷ t) h u) (λ e. omega (arith, u.0)))
    ∙ sym (lines_cut k n t u.0)

-- ---- one step from such a state
kept_is : (k n : ℕ) (t u : List ℕ) → kept_with (after k (n ∷ t)) u ≡ after k (n ∷ (t ++ u))
kept_is k n t u = by (ltb most_kept n) refl
  where
    same : (h : ℕ) (b : List ℕ) → h ≡ length t + length u → b ≡ held n (t ++ u)
        → ◌≡◌ {A = Listing} (record { count = k; wanted = n; held = h; bytes = b }) (after k (n ∷ (t ++ u)))
    same h b e f =
        ap (λ (j : ℕ). record { count = k; wanted = n; held = j; bytes = b }) (e ∙ sym (length-append t u))
        ∙ ap (λ (x : List ℕ). record { count = k; wanted = n; held = length (t ++ u); bytes = x }) f

    by : (b : Bool) → ltb most_kept n ≡ b → kept_with (after k (n ∷ t)) u ≡ after k (n ∷ (t ++ u))
    by true e =
        same (length t + length u) _ refl
        (picked (ltb most_kept n) _ _ e ∙ picked (ltb most_kept n) _ _ e ∙ sym (picked (ltb most_kept n) _ _ e))
    by false e =
        same (length t + length u) _ refl
        (passed (ltb most_kept n) _ _ e
        ∙ ap (λ (x : List ℕ). sets x (length t) u) (passed (ltb most_kept n) _ _ e)
        ∙ sym (passed (ltb most_kept n) _ _ e ∙ sets_append t u (replicate most_kept 0) 0
        ∙ ap (λ (j : ℕ). sets (sets (replicate most_kept 0) 0 t) j u) (zero-add (length t))))

opened_is : (k n : ℕ) (u : List ℕ) → kept_with (opened k n) u ≡ after k (n ∷ u)
opened_is k n u = ap (λ (j : ℕ). record { count = k; wanted = n; held = j; bytes = held n u }) (zero-add (length u))

line_is : (k n : ℕ) (t u : List ℕ) → length t + length u ≡ n → line_of k (read_command (t ++ u)) ≡ line_with (after k (n ∷ t)) u
line_is k n t u e = by (ltb most_kept n) refl
  where
    by : (b : Bool) → ltb most_kept n ≡ b → line_of k (read_command (t ++ u)) ≡ line_with (after k (n ∷ t)) u
    by true g =
        let l = ltb-true most_kept n g in
        let m : most_kept < length (t ++ u) = rw (length-append t u) (omega arith) in
        ap (λ (a : Answer DirectCommands). line_of k a) (read_long (t ++ u) m ∙ sym (picked (ltb most_kept n) _ _ g))
    by false g =
        let l = ltb-false most_kept n g in
        let z : take (length t) (sets (replicate most_kept 0) 0 t) ≡ t = take_put (replicate most_kept 0) t 0 (length t)
        (zero-add (length t)) (rw length-replicate (omega arith)) in
        let y : take (length t) (held n t) ≡ t = ap (λ (x : List ℕ). take (length t) x) (passed (ltb most_kept n) _ _ g) ∙ z in
        ap (λ (a : Answer DirectCommands). line_of k a)
        (ap (λ (x : List ℕ). read_command (x ++ u)) (sym y) ∙ sym (passed (ltb most_kept n) _ _ g))

-- a step uses up the chunk, or gives the first line of what is there
data OneStep (k : ℕ) (p c : List ℕ) (at : ℕ) : Type 0 where
  none : (i : ℕ) → step_of (after k p) c at ≡ record { state = after k (p ++ drop at c); at = i; says = got [] }
      → Unfinished (p ++ drop at c) → OneStep k p c at
  line : (l : Line) (i : ℕ) → step_of (after k p) c at ≡ record { state = after (k + 1) []; at = i; says = got (l ∷ []) }
      → at < i → at < length c
      → ((more : List ℕ) → lines k (p ++ (drop at c ++ more)) ≡ l ∷ lines (k + 1) (drop i c ++ more)) → OneStep k p c at

byte_at : (s : List ℕ) (i : ℕ) → Bytes s → get_or s i 0 ≤ longest_record
byte_at [] i o = omega arith
byte_at (b ∷ s) zero o = omega (arith, o.0)
byte_at (b ∷ s) (suc i) o = byte_at s i o.1

-- nothing is left of the chunk
ended : (k : ℕ) (p c : List ℕ) (at : ℕ) → k < most_records → Unfinished p → length c ≤ at → OneStep k p c at
ended k p c at b u l =
    let e : p ≡ p ++ drop at c = sym (append-nil p) ∙ ap (λ (x : List ℕ). p ++ x) (sym (drop_of_length-le c l)) in
    none at
    (step_none (after k p) c at (limits_after k p b u) l ∙ ap (λ (x : List ℕ). record { state = after k x; at = at; says = got [] }) e)
    (subst (λ (x : List ℕ). Unfinished x) e u)

-- a record opens
module _ (k : ℕ) (c : List ℕ) (at : ℕ) (b : k < most_records) (o : Bytes c) (l : at < length c) where
  abbrev size : ℕ
  size = get_or c at 0

  abbrev left : List ℕ
  left = drop (at + 1) c

  front : drop at c ≡ size ∷ left
  front = drop-cons c at 0 l ∙ ap (λ (j : ℕ). size ∷ drop j c) (sym (add-one at))

  left-length : length left ≡ length c - (at + 1)
  left-length = length-drop (at + 1) c

  opens : step_of (after k []) c at ≡ go_on (opened k size) c (at + 1)
  opens = step-opens (after k []) c at (limits_after k [] b tt) l refl

  begins : OneStep k [] c at
  begins = by (ltb (length left) size) refl
    where
      by : (t : Bool) → ltb (length left) size ≡ t → OneStep k [] c at
      by true g =
          let h = ltb-true (length left) size g in
          none (length c)
          (opens
          ∙ goes_none (opened k size) c (at + 1) (omega (arith, left-length))
          ∙ ap (λ (x : Listing). record { state = x; at = length c; says = got [] }) (opened_is k size left)
          ∙ ap (λ (x : List ℕ). record { state = after k x; at = length c; says = got [] }) (sym front))
          (subst (λ (x : List ℕ). Unfinished x) (sym front) (h, byte_at c at o))
      by false g =
          let h = ltb-false (length left) size g in
          let i = at + 1 + size in
          let z : size - 0 ≡ size = omega arith in
          let w : length (take size left) ≡ size = length-take-le size left h in
          line (line_of k (read_command (take size left))) i
          (opens
          ∙ goes-line (opened k size) c (at + 1) (omega (arith, left-length))
          ∙ ap (λ (j : ℕ). record { state = opened (k + 1) 0; at = at + 1 + j; says = got (line_with (opened k size) (take j left) ∷ []) }) z
          ∙ ap (λ (x : Line). record { state = opened (k + 1) 0; at = i; says = got (x ∷ []) })
          (sym (line-whole k size (take size left) w)))
          (omega arith) l
          (λ more.
          ap (λ (x : List ℕ). lines k (x ++ more)) front
          ∙ lines_more k size (left ++ more) (rw (length-append left more) (omega arith))
          ∙ ap (λ (x : List ℕ). line_of k (read_command x) ∷ lines (k + 1) (drop size (left ++ more))) (take-append-le size left more h)
          ∙ ap (λ (x : List ℕ). line_of k (read_command (take size left)) ∷ lines (k + 1) x)
          (drop-append-le size left more h ∙ ap (λ (x : List ℕ). x ++ more) (drop-drop size (at + 1) c)))

-- a record goes on
module _ (k n : ℕ) (t c : List ℕ) (at : ℕ) (b : k < most_records) (u : (length t < n) × (n ≤ longest_record)) (l : at < length c) where
  abbrev rest : List ℕ
  rest = drop at c

  abbrev need : ℕ
  need = n - length t

  rest-length : length rest ≡ length c - at
  rest-length = length-drop at c

  goes_on_lem : step_of (after k (n ∷ t)) c at ≡ go_on (after k (n ∷ t)) c at
  goes_on_lem = step-goes (after k (n ∷ t)) c at (limits_after k (n ∷ t) b u) l (λ e. omega (arith, u.0))

  resumes : OneStep k (n ∷ t) c at
  resumes = by (ltb (length rest) need) refl
    where
      by : (v : Bool) → ltb (length rest) need ≡ v → OneStep k (n ∷ t) c at
      by true g =
          let h = ltb-true (length rest) need g in
          none (length c)
          (goes_on_lem
          ∙ goes_none (after k (n ∷ t)) c at (omega (arith, rest-length))
          ∙ ap (λ (x : Listing). record { state = x; at = length c; says = got [] }) (kept_is k n t rest))
          (rw (length-append t rest) (omega arith), u.1)
      by false g =
          let h = ltb-false (length rest) need g in
          let w : length (take need rest) ≡ need = length-take-le need rest h in
          let e : n ≡ length t + need = omega (arith, u.0) in
          let v : length t + length (take need rest) ≡ n = omega (arith, u.0) in
          line (line_of k (read_command (t ++ take need rest))) (at + need)
          (goes_on_lem
          ∙ goes-line (after k (n ∷ t)) c at (omega (arith, rest-length))
          ∙ ap (λ (x : Line). record { state = opened (k + 1) 0; at = at + need; says = got (x ∷ []) })
          (sym (line_is k n t (take need rest) v)))
          (omega (arith, u.0)) l
          (λ more.
          let d : n ≤ length (t ++ (rest ++ more)) = rw (length-append t (rest ++ more), length-append rest more) (omega arith) in
          let x : take n (t ++ (rest ++ more)) ≡ t ++ take need rest =
          ap (λ (j : ℕ). take j (t ++ (rest ++ more))) e ∙ take-append-add t (rest ++ more) need
          ∙ ap (λ (y : List ℕ). t ++ y) (take-append-le need rest more h) in
          let z : drop n (t ++ (rest ++ more)) ≡ drop (at + need) c ++ more =
          ap (λ (j : ℕ). drop j (t ++ (rest ++ more))) e ∙ drop-append-add t (rest ++ more) need
          ∙ drop-append-le need rest more h ∙ ap (λ (y : List ℕ). y ++ more) (drop-drop need at c) in
          lines_more k n (t ++ (rest ++ more)) d
          ∙ ap (λ (y : List ℕ). line_of k (read_command y) ∷ lines (k + 1) (drop n (t ++ (rest ++ more)))) x
          ∙ ap (λ (y : List ℕ). line_of k (read_command (t ++ take need rest)) ∷ lines (k + 1) y) z)

one_step : (k : ℕ) (p c : List ℕ) (at : ℕ) → k < most_records → Unfinished p → Bytes c → OneStep k p c at
one_step k p c at b u o = by (ltb at (length c)) refl p u
  where
    by : (t : Bool) → ltb at (length c) ≡ t → (q : List ℕ) → Unfinished q → OneStep k q c at
    by true e [] v = begins k c at b o (ltb-true at (length c) e)
    by true e (n ∷ t) v = resumes k n t c at b v (ltb-true at (length c) e)
    by false e q v = ended k q c at b v (ltb-false at (length c) e)

-- ---- all steps of a chunk
record Goes (f k : ℕ) (p c : List ℕ) (at : ℕ) : Type 0 where
  found : List Line
  count : ℕ
  rest : List ℕ
  feeds : steps f (after k p) c at ≡ fed found (after count rest)
  unfinished : Unfinished rest
  most : count ≤ k + length (drop at c)
  agrees : (more : List ℕ) → lines k (p ++ (drop at c ++ more)) ≡ found ++ lines count (rest ++ more)

-- a step, then those after it
goes_by : (f k : ℕ) (p c : List ℕ) (at : ℕ) → length (drop at c) < suc f → k + length (drop at c) < most_records
    → ((j i : ℕ) → length (drop i c) < f → j + length (drop i c) < most_records → Goes f j [] c i) → OneStep k p c at → Goes (suc f) k p c at
goes_by f k p c at h b more-steps (none i e v) = record {
  found = [];
  count = k;
  rest = p ++ drop at c;
  feeds = ap (λ (x : Stepped). before x.says x.state (steps f x.state c x.at)) e;
  unfinished = v;
  most = omega arith;
  agrees = λ more. ap (λ (x : List ℕ). lines k x) (sym (append_assoc p (drop at c) more));
}
goes_by f k p c at h b more-steps (line l i e a d g) =
    let s : length (drop i c) < length (drop at c) = rw (length-drop i c, length-drop at c) (omega arith) in
    let r = more-steps (k + 1) i (omega arith) (omega arith) in
    record {
      found = l ∷ r.found;
      count = r.count;
      rest = r.rest;
      feeds =
          ap (λ (x : Stepped). before x.says x.state (steps f x.state c x.at)) e
          ∙ ap (λ (x : Fed). before (got (l ∷ [])) (after (k + 1) []) x) r.feeds;
      unfinished = r.unfinished;
      most = omega (arith, r.most);
      agrees = λ more. g more ∙ ap (λ (x : List Line). l ∷ x) (r.agrees more);
    }

goes : (f k : ℕ) (p c : List ℕ) (at : ℕ) → length (drop at c) < f → k + length (drop at c) < most_records → Unfinished p
    → Bytes c → Goes f k p c at
goes zero k p c at h b u o = absurd (omega arith)
goes (suc f) k p c at h b u o = goes_by f k p c at h b (λ j i h' b'. goes f j [] c i h' b' tt o) (one_step k p c at (omega arith) u o)

bytes_left_lem : (s t : List ℕ) → Bytes (s ++ t) → Bytes s × Bytes t
bytes_left_lem [] t o = (tt, o)
bytes_left_lem (b ∷ s) t o = ((o.0, (bytes_left_lem s t o.1).0), (bytes_left_lem s t o.1).1)

-- ---- all chunks
fed-whole : (cs : List (List ℕ)) (k : ℕ) (p : List ℕ) → k + length (joined cs) < most_records → Unfinished p → Bytes (joined cs)
    → in_chunks (after k p) cs ≡ lines k (p ++ joined cs)
fed-whole [] k p b u o = closes k p (omega arith) u ∙ ap (λ (x : List ℕ). lines k x) (sym (append-nil p))
fed-whole (c ∷ cs) k p b u o =
    let a = length-append c (joined cs) in
    let q = bytes_left_lem c (joined cs) o in
    let g = goes (suc (length c)) k p c 0 (omega arith) (omega arith) u q.0 in
    ap (λ (x : Fed). lines_in x ++ in_chunks (state_in x) cs) g.feeds
    ∙ ap (λ (x : List Line). g.found ++ x) (fed-whole cs g.count g.rest (omega (arith, g.most)) g.unfinished q.1)
    ∙ sym (g.agrees (joined cs))

-- THE theorem, of an input of fewer than 2^64 - 1 bytes: so many records can be counted
pub any_chunks : (cs : List (List ℕ)) → Bytes (joined cs) → length (joined cs) < most_records
    → in_chunks (opened 0 0) cs ≡ listing (joined cs)
any_chunks cs o l = fed-whole cs 0 [] (omega arith) tt o

-- The step of the listing, case by case. Assumes nothing.
use Prim.Native.Nat.{ℕ, ◌+◌, ◌-◌, ◌<◌, ◌≤◌}
use mathlib.Core.Bool.{Bool, true, false}
use mathlib.Core.List.{List, [], ◌∷◌, ◌++◌}
use mathlib.Core.Path.{◌≡◌, refl, ap, sym, ◌∙◌}
use native.Mathlib.Omega.{arith}
use borrow.Author.Tests.{lt-ltb, le-ltb, le-leb, lt-leb, eq-eqb, ne_eqb, ltb-true, leb-false}
use lib.ListN.{length, take, drop, get_or, length-append}
use lib.Seq.{sets, sets-eq, take_at, length-take-le}
use lib.Dec.{ltb, leb, eqb}
use Rattle.codec.specs.Pick.{pick}
use Rattle.codec.specs.Sheet.{Answer, got, refused}
use Rattle.codec.specs.Writing.{put_at}
use Rattle.codec.proofs.Writes.{put-fits}
use Rattle.commands.specs.Reading.{read_command}
use Rattle.commands.specs.declared.DirectCommands.{DirectCommands}
use Rattle.commands.proofs.Known.{read_long}
use Rattle.listing.specs.Listing.{line_of}
use Rattle.listing.specs.Step.{most_records, longest_record, most_kept, Stepped, in_limits, opened, kept_with, line_with, go_on, step_of, closing}
use Rattle.listing.specs.declared.line.Line.{Line}
use Rattle.listing.specs.declared.line.Line.TheVariants.{Cut, End}
use Rattle.listing.specs.declared.Listing.{Listing}

pub picked : {A : Type 0} (b : Bool) (x y : A) → b ≡ true → pick b x y ≡ x
picked true x y e = refl
picked false x y e = let z : ◌≡◌ {A = ℕ} 0 1 = cc in absurd (omega arith)

pub passed : {A : Type 0} (b : Bool) (x y : A) → b ≡ false → pick b x y ≡ y
passed false x y e = refl
passed true x y e = let z : ◌≡◌ {A = ℕ} 0 1 = cc in absurd (omega arith)

-- ---- limits
limits : (a b c : Bool) (x y : Bool) → pick a false (pick b false (pick c x y)) ≡ true
    → (a ≡ false) × ((b ≡ false) × ((c ≡ true → x ≡ true) × (c ≡ false → y ≡ true)))
limits true b c x y e = let z : ◌≡◌ {A = ℕ} 0 1 = cc in absurd (omega arith)
limits false true c x y e = let z : ◌≡◌ {A = ℕ} 0 1 = cc in absurd (omega arith)
limits false false true x y e = (refl, (refl, ((λ h. e), (λ h. let z : ◌≡◌ {A = ℕ} 0 1 = cc in absurd (omega arith)))))
limits false false false x y e = (refl, (refl, ((λ h. let z : ◌≡◌ {A = ℕ} 0 1 = cc in absurd (omega arith)), (λ h. e))))

module _ (s : Listing) (h : in_limits s ≡ true) where
  parts : (leb most_records s.count ≡ false)
      × ((ltb longest_record s.wanted ≡ false)
      × ((eqb s.wanted 0 ≡ true → eqb s.held 0 ≡ true)
      × (eqb s.wanted 0 ≡ false → ltb s.held s.wanted ≡ true)))
  parts = limits (leb most_records s.count) (ltb longest_record s.wanted) (eqb s.wanted 0) (eqb s.held 0)
      (ltb s.held s.wanted) h

  pub limit_count : s.count < most_records
  limit_count = leb-false most_records s.count parts.0

  pub limit_held : (s.wanted ≡ 0 → ⊥) → s.held < s.wanted
  limit_held n = ltb-true s.held s.wanted (parts.1.1.1 (ne_eqb s.wanted 0 n))

-- a state that is in its limits
pub limits_between : (s : Listing) → s.count < most_records → s.wanted ≡ 0 → s.held ≡ 0 → in_limits s ≡ true
limits_between s a b c =
    passed (leb most_records s.count) _ _ (lt-leb most_records s.count a)
    ∙ passed (ltb longest_record s.wanted) _ _ (le-ltb longest_record s.wanted (omega arith))
    ∙ picked (eqb s.wanted 0) _ _ (eq-eqb s.wanted 0 b)
    ∙ eq-eqb s.held 0 c

pub limits_inside : (s : Listing) → s.count < most_records → s.wanted ≤ longest_record → s.held < s.wanted → in_limits s ≡ true
limits_inside s a b c =
    passed (leb most_records s.count) _ _ (lt-leb most_records s.count a)
    ∙ passed (ltb longest_record s.wanted) _ _ (le-ltb longest_record s.wanted b)
    ∙ passed (eqb s.wanted 0) _ _ (ne_eqb s.wanted 0 (λ e. omega arith))
    ∙ lt-ltb s.held s.wanted c

-- ---- a record that goes on
pub goes_none : (s : Listing) (i : List ℕ) (at : ℕ) → length i - at < s.wanted - s.held
    → go_on s i at ≡ record { state = kept_with s (drop at i); at = length i; says = got [] }
goes_none s i at h = picked (ltb (length i - at) (s.wanted - s.held)) _ _ (lt-ltb (length i - at) (s.wanted - s.held) h)

pub goes-line : (s : Listing) (i : List ℕ) (at : ℕ) → s.wanted - s.held ≤ length i - at
    → go_on s i at ≡ record {
      state = opened (s.count + 1) 0;
      at = at + (s.wanted - s.held);
      says = got (line_with s (take (s.wanted - s.held) (drop at i)) ∷ []);
    }
goes-line s i at h = passed (ltb (length i - at) (s.wanted - s.held)) _ _ (le-ltb (length i - at) (s.wanted - s.held) h)

-- what the code makes of the second: the chunk's bytes up to `end`
pub made-line : (s₀ t : Listing) (r : Line) (i : List ℕ) (at end : ℕ) → t ≡ opened (s₀.count + 1) 0
    → end ≡ at + (s₀.wanted - s₀.held) → r ≡ line_with s₀ (take (end - at) (drop at i))
    → s₀.wanted - s₀.held ≤ length i - at
    → ◌≡◌ {A = Stepped} (record { state = t; at = end; says = got (r ∷ []) }) (go_on s₀ i at)
made-line s₀ t r i at end e n f l =
    let left = s₀.wanted - s₀.held in
    let size : end - at ≡ left = omega arith in
    let k : r ≡ line_with s₀ (take left (drop at i)) =
    f ∙ ap (λ (m : ℕ). line_with s₀ (take m (drop at i))) size in
    ap (λ (x : Listing). record { state = x; at = end; says = got (r ∷ []) }) e
    ∙ ap (λ (m : ℕ). record { state = opened (s₀.count + 1) 0; at = m; says = got (r ∷ []) }) n
    ∙ ap (λ (x : Line). record { state = opened (s₀.count + 1) 0; at = at + left; says = got (x ∷ []) }) k
    ∙ sym (goes-line s₀ i at l)

-- ---- the step
pub step-refused : (s : Listing) (i : List ℕ) (at : ℕ) → in_limits s ≡ false
    → step_of s i at ≡ record { state = s; at = at; says = refused 5 0 }
step-refused s i at h = passed (in_limits s) _ _ h

module _ (s : Listing) (i : List ℕ) (at : ℕ) (h : in_limits s ≡ true) where
  pub step_none : length i ≤ at → step_of s i at ≡ record { state = s; at = at; says = got [] }
  step_none l = picked (in_limits s) _ _ h ∙ picked (leb (length i) at) _ _ (le-leb (length i) at l)

  pub step-opens : at < length i → s.wanted ≡ 0 → step_of s i at ≡ go_on (opened s.count (get_or i at 0)) i (at + 1)
  step-opens l e =
      picked (in_limits s) _ _ h
      ∙ passed (leb (length i) at) _ _ (lt-leb (length i) at l)
      ∙ picked (eqb s.wanted 0) _ _ (eq-eqb s.wanted 0 e)

  pub step-goes : at < length i → (s.wanted ≡ 0 → ⊥) → step_of s i at ≡ go_on s i at
  step-goes l e =
      picked (in_limits s) _ _ h
      ∙ passed (leb (length i) at) _ _ (lt-leb (length i) at l)
      ∙ passed (eqb s.wanted 0) _ _ (ne_eqb s.wanted 0 e)

-- ---- the end
pub closing_end : (s : Listing) → in_limits s ≡ true → s.wanted ≡ 0 → closing s ≡ got (End s.count ∷ [])
closing_end s h e = picked (in_limits s) _ _ h ∙ picked (eqb s.wanted 0) _ _ (eq-eqb s.wanted 0 e)

pub closing_cut : (s : Listing) → in_limits s ≡ true → (s.wanted ≡ 0 → ⊥) → closing s ≡ got (Cut s.count ∷ [])
closing_cut s h e = picked (in_limits s) _ _ h ∙ passed (eqb s.wanted 0) _ _ (ne_eqb s.wanted 0 e)

pub closing-refused : (s : Listing) → in_limits s ≡ false → closing s ≡ refused 5 0
closing-refused s h = passed (in_limits s) _ _ h

-- ---- what is kept, and the line of it
pub take_put : (b t : List ℕ) (at n : ℕ) → at + length t ≡ n → n ≤ length b → take n (sets b at t) ≡ take at b ++ t
take_put b t at n e l =
    let f : at + length t ≤ length b = omega arith in
    let k : length (take at b) ≡ at = length-take-le at b (omega arith) in
    let g : length (take at b ++ t) ≡ n = rw (length-append (take at b) t, k) e in
    ap (λ (x : List ℕ). take n x) (sets-eq t b at f)
    ∙ take_at (take at b ++ t) (drop (at + length t) b) n g

pub line-joined : (s : Listing) (t b : List ℕ) (r : Line) → s.wanted ≤ most_kept → length s.bytes ≡ most_kept
    → s.held + length t ≡ s.wanted
    → b ≡ put_at s.bytes s.held t → r ≡ line_of s.count (read_command (take s.wanted b)) → r ≡ line_with s t
line-joined s t b r h l e f g =
    let k : take s.wanted b ≡ take s.held s.bytes ++ t =
    ap (λ (x : List ℕ). take s.wanted x) (f ∙ put-fits s.bytes s.held t (omega arith))
    ∙ take_put s.bytes t s.held s.wanted e (omega arith) in
    g
    ∙ ap (λ (p : List ℕ). line_of s.count (read_command p)) k
    ∙ ap (λ (a : Answer DirectCommands). line_of s.count a) (sym (passed (ltb most_kept s.wanted) _ _ (le-ltb most_kept s.wanted h)))

-- a payload that lies whole in the chunk
pub line-whole : (k n : ℕ) (t : List ℕ) → length t ≡ n → line_of k (read_command t) ≡ line_with (opened k n) t
line-whole k n t e = by (ltb most_kept n) refl
  where
    by : (b : Bool) → ltb most_kept n ≡ b → line_of k (read_command t) ≡ line_with (opened k n) t
    by true g =
        let l = ltb-true most_kept n g in
        ap (λ (a : Answer DirectCommands). line_of k a)
        (read_long t (omega arith) ∙ sym (picked (ltb most_kept n) (refused 1 0) (read_command t) g))
    by false g = ap (λ (a : Answer DirectCommands). line_of k a) (sym (passed (ltb most_kept n) (refused 1 0) (read_command t) g))

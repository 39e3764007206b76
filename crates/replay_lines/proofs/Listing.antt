-- The text of a block's events, one behind the other: any block's has room. Assumes nothing.
use Rattle.std.specs.Prelude.{Result, Ok, Err}
use Prim.Native.Nat.{ℕ, ◌+◌, ◌-◌, ◌*◌, ◌<◌, ◌≤◌}
use mathlib.Core.Bool.{Bool, true, false}
use mathlib.Core.List.{List, [], ◌++◌}
use mathlib.Core.Path.{◌≡◌, refl, ap, sym, subst, ◌∙◌}
use native.Mathlib.Omega.{arith}
use borrow.Author.Tests.{lt-ltb, le-ltb, ltb-false}
use lib.ListN.{length, length-append}
use lib.Seq.{sets, length-sets}
use lib.Dec.{ltb}
use Rattle.codec.specs.Pick.{pick}
use Rattle.codec.specs.Sheet.{Answer, got, refused}
use Rattle.codec.specs.Refusals.{refusal_number, Gives, number_in, value_in}
use Rattle.codec.specs.Writing.{put_at}
use Rattle.codec.specs.declared.refusal.Refusal.{Refusal}
use Rattle.codec.specs.declared.refusal.Refusal.TheVariants.{BufferOverflow}
use Rattle.codec.proofs.Loops.{sets_append}
use Rattle.codec.proofs.Writes.{put-fits, refusal_some}
use Rattle.text.specs.Putting.{PutsBehind}
use Rattle.replay.specs.Step.{Stepped, blank_event, step_of, StepIs}
use Rattle.replay.specs.Through.{told, Replayed, through}
use Rattle.replay.specs.declared.Event.{Event}
use Rattle.replay.specs.declared.Replay.{Replay}
use Rattle.replay.specs.declared.Step.{Step}
use Rattle.codec.proofs.Outcomes.{gives_ok}
use Rattle.replay_lines.specs.Text.{text_of, text_of_all}
use Rattle.replay_lines.specs.Lines.{most_text, listed, Lists, OnceOn, step_text, behind_step, PutsText, PutsStep}
use Rattle.replay_lines.specs.declared.Lines.{Lines}
use Rattle.replay_lines.proofs.TextLaws.{all_append, told_text_lem}
use Rattle.replay_lines.proofs.Stepping.{Onward, step-says, says_on, says-stops, Going, going_starts, going-stops, going-ends, going_turn}

-- ---- a text put behind the text that waits
pub put-within : {w t t' : List ℕ} {at k : ℕ} → PutsBehind w at k t t' → at ≤ length t → at + k ≤ length t
put-within {w} {t} {t'} {at} {k} p l = by (ltb (length t) (at + length w)) refl p.count
  where
    by : (b : Bool) → ltb (length t) (at + length w) ≡ b → k ≡ pick b 0 (length w) → at + k ≤ length t
    by true h e = omega arith
    by false h e = omega (arith, ltb-false (length t) (at + length w) h)

none_put : (t : List ℕ) (at : ℕ) → put_at t at [] ≡ t
none_put t at = by (ltb (length t) (at + 0))
  where
    by : (b : Bool) → pick b t (sets t at []) ≡ t
    by true = refl
    by false = refl

none_count : (b : Bool) → ◌≡◌ {A = ℕ} (pick b 0 0) 0
none_count true = refl
none_count false = refl

-- ---- what the loop over a block's steps keeps: the text of what was told is put. The first line takes the place to 6 at least, each
-- other one by 5.
pub data Begun (s₀ : Replay) (position : ℕ) (b : List ℕ) (s : Replay) (es : List Event) : Type 0 where
  first : s ≡ s₀ → es ≡ [] → Begun s₀ position b s es
  later : number_in (through s₀ position b) ≡ 0 → Begun s₀ position b s es

pub record Listing (s₀ : Replay) (position : ℕ) (b t₀ : List ℕ) (s : Replay) (n : ℕ) (t : List ℕ) : Type 0 where
  pub so_far : List Event
  pub going : Going s₀ position b s so_far
  pub size : length (text_of_all so_far) ≡ n
  pub room : n * 5 ≤ 64 * (s.place - 1)
  pub within : n ≤ length t₀
  pub leaves : t ≡ sets t₀ 0 (text_of_all so_far)
  pub same : length t ≡ length t₀
  pub begun : Begun s₀ position b s so_far

pub listing_starts : (s : Replay) (position : ℕ) (b t : List ℕ) → Listing s position b t s 0 t
listing_starts s position b t = record {
  so_far = [];
  going = going_starts s position b;
  size = refl;
  room = omega arith;
  within = omega arith;
  leaves = refl;
  same = refl;
  begun = first refl refl;
}

pub listing-within : {s₀ s : Replay} {position n : ℕ} {b t₀ t : List ℕ} → Listing s₀ position b t₀ s n t → n ≤ length t
listing-within {s₀} {s} {position} {n} {b} {t₀} {t} g = omega (arith, g.within, g.same)

module _ {s₀ s : Replay} {position n : ℕ} {b t₀ t : List ℕ} (g : Listing s₀ position b t₀ s n t)
    (much : most_text ≤ length t₀) (once : OnceOn s₀ position b) where
  abbrev x : Stepped
  x = step_of s position b

  abbrev put-text : List ℕ
  put-text = text_of_all g.so_far

  -- an event is handed on
  module _ {t' : List ℕ} (r : Lines) (p : PutsStep (step_of s position b) n (Ok r) t t') where
    said : (e : Event) × ((x.says ≡ got e) × (Onward s x.state × (r ≡ behind_step x (n + p.put) e)))
    said = says_on _ (step-says s position b) r p.gives

    abbrev onward : Onward s x.state
    onward = said.1.1.0

    state_is : r.state ≡ x.state
    state_is = ap (λ (l : Lines). l.state) said.1.1.1

    count_is : r.len ≡ n + p.put
    count_is = ap (λ (l : Lines). l.len) said.1.1.1

    text_is : step_text x ≡ text_of said.0
    text_is = ap (λ (a : Answer Event). text_of (value_in blank_event a)) said.1.0

    fits : n + length (step_text x) ≤ length t
    fits = omega (arith, p.puts.longest, g.room, onward.low, g.same, much)

    put_is : p.put ≡ length (step_text x)
    put_is = p.puts.put.count
        ∙ ap (λ (z : Bool). pick z 0 (length (step_text x))) (le-ltb (length t) (n + length (step_text x)) fits)

    all_is : text_of_all (g.so_far ++ told said.0) ≡ put-text ++ step_text x
    all_is = all_append g.so_far (told said.0) ∙ ap (λ (w : List ℕ). put-text ++ w) (told_text_lem said.0 ∙ sym text_is)

    size_is : length (text_of_all (g.so_far ++ told said.0)) ≡ r.len
    size_is = ap length all_is ∙ length-append put-text (step_text x) ∙ omega (arith, g.size, put_is, count_is)

    bytes_are : t' ≡ sets t₀ 0 (text_of_all (g.so_far ++ told said.0))
    bytes_are =
        p.puts.put.leaves
        ∙ put-fits t n (step_text x) fits
        ∙ ap (λ (y : List ℕ). sets y n (step_text x)) g.leaves
        ∙ ap (λ (a : ℕ). sets (sets t₀ 0 put-text) a (step_text x)) (let c : n ≡ 0 + length put-text = omega (arith, g.size) in c)
        ∙ sym (sets_append put-text (step_text x) t₀ 0)
        ∙ ap (λ (y : List ℕ). sets t₀ 0 y) (sym all_is)

    -- the block's last
    pub listing-ends : r.state.place ≡ 0 → Lists s₀ (through s₀ position b) (Ok r) t₀ t'
    listing-ends z =
        let e = going-ends g.going said.1.0 (ap (λ (y : Replay). y.place) (sym state_is) ∙ z) in
        subst (λ (a : Answer Replayed). Lists s₀ a (Ok r) t₀ t') (sym e) (record {
          gives =
              ap (λ (y : Replay). record { state = y; len = r.len }) state_is
              ∙ ap (λ (m : ℕ). record { state = x.state; len = m }) (sym size_is);
          fits = omega (arith, fits, put_is, count_is, size_is, g.same);
          leaves = bytes_are;
        })

    -- or there is more
    module _ (k : r.state.place ≡ 0 → ⊥) where
      further : (s.place + 5 ≤ x.state.place) × ((6 ≤ x.state.place) × (x.state.place ≤ 511))
      further = onward.next (λ z. k (ap (λ (y : Replay). y.place) state_is ∙ z))

      none_refuses : Begun s₀ position b s g.so_far → number_in (through s₀ position b) ≡ 0
      none_refuses (first e f) =
          once said.0 (subst (λ (y : Replay). (step_of y position b).says ≡ got said.0) e said.1.0)
      none_refuses (later e) = e

      pub listing_turn : Listing s₀ position b t₀ r.state r.len t'
      listing_turn = subst (λ (y : Replay). Listing s₀ position b t₀ y r.len t') (sym state_is) (record {
        so_far = g.so_far ++ told said.0;
        going = going_turn g.going said.1.0 onward (λ z. k (ap (λ (y : Replay). y.place) state_is ∙ z));
        size = size_is;
        room = omega (arith, g.room, put_is, count_is, p.puts.longest, further.0, further.1.0);
        within = omega (arith, fits, put_is, count_is, g.same);
        leaves = bytes_are;
        same = ap length bytes_are ∙ length-sets t₀ 0 (text_of_all (g.so_far ++ told said.0));
        begun = later (none_refuses g.begun);
      })

      pub listing_less : 512 - r.state.place < 512 - s.place
      listing_less = omega (arith, further.0, further.1.1, ap (λ (y : Replay). y.place) state_is)

  -- a step refuses: it is the first
  module _ {t' : List ℕ} (why : Refusal) (p : PutsStep (step_of s position b) n (Err why) t t') where
    stopped : (x.says ≡ refused 5 0) × ((x.state ≡ s) × (refusal_number why ≡ 5))
    stopped = says-stops _ (step-says s position b) why p.gives

    none_is : step_text x ≡ []
    none_is = ap (λ (a : Answer Event). text_of (value_in blank_event a)) stopped.0

    keeps : t' ≡ t
    keeps = p.puts.put.leaves ∙ ap (λ (w : List ℕ). put_at t n w) none_is ∙ none_put t n

    pub listing-stops : (out : Result Lines Refusal) → out ≡ Err why → Lists s₀ (through s₀ position b) out t₀ t'
    listing-stops out o =
        let e = going-stops g.going 5 0 stopped.0 in
        subst (λ (r : Result Lines Refusal). Lists s₀ (through s₀ position b) r t₀ t') (sym o)
        (subst (λ (a : Answer Replayed). Lists s₀ a (Err why) t₀ t') (sym e) (by e g.begun))
      where
        by : through s₀ position b ≡ refused 5 0 → Begun s₀ position b s g.so_far → Lists s₀ (refused 5 0) (Err why) t₀ t'
        by e (later f) = let z : ◌≡◌ {A = ℕ} 0 5 = sym f ∙ ap number_in e in absurd (omega arith)
        by e (first f d) = record {
          gives = stopped.1.1;
          fits = omega arith;
          leaves = keeps ∙ g.leaves ∙ ap (λ (es : List Event). sets t₀ 0 (text_of_all es)) d;
        }

-- a step that refuses puts nothing
pub none_puts : (s : Replay) (position : ℕ) (b t : List ℕ) (n : ℕ) (why : Refusal) (out : Result Lines Refusal) → out ≡ Err why
    → StepIs (step_of s position b) (Err why) → PutsStep (step_of s position b) n out t t
none_puts s position b t n why out o h =
    let e = says-stops _ (step-says s position b) why h in
    subst (λ (r : Result Lines Refusal). PutsStep (step_of s position b) n r t t) (sym o) (by (step_of s position b) e.0 e.1.1)
  where
    by : (x : Stepped) → x.says ≡ refused 5 0 → refusal_number why ≡ 5 → PutsStep x n (Err why) t t
    by x f g =
        let none : step_text x ≡ [] = ap (λ (a : Answer Event). text_of (value_in blank_event a)) f in
        record {
          put = 0;
          gives = subst (λ (a : Answer Event). Gives (behind_step x (n + 0)) a (Err why)) (sym f) g;
          puts = subst (λ (w : List ℕ). PutsText w n 0 t t) (sym none) (record {
            put = record { count = sym (none_count (ltb (length t) (n + 0))); leaves = sym (none_put t n) };
            longest = omega arith;
          });
        }

-- one that is not refused puts its event's text
pub step_puts : (x : Stepped) (at k : ℕ) (r : Step) {t t' : List ℕ} → StepIs x (Ok r) → PutsText (text_of r.event) at k t t'
    → PutsStep x at (Ok (record { state = r.state; len = at + k })) t t'
step_puts x at k r {t} {t'} h p =
    let g = gives_ok _ x.says r h in
    let text : text_of r.event ≡ step_text x =
    ap (λ (y : Step). text_of y.event) g.1.1 ∙ sym (ap (λ (a : Answer Event). text_of (value_in blank_event a)) g.1.0) in
    record {
      put = k;
      gives =
          subst (λ (a : Answer Event). Gives (behind_step x (at + k)) a (Ok (record { state = r.state; len = at + k }))) (sym g.1.0)
          (ap (λ (y : Step). record { state = y.state; len = at + k }) g.1.1);
      puts = subst (λ (w : List ℕ). PutsText w at k t t') text p;
    }

-- ---- the room, and the steps tried first
module _ (s : Replay) (position : ℕ) (b t : List ℕ) where
  pub lists_short : length t < most_text → Lists s (listed s position b t) (Err BufferOverflow) t t
  unfolding listed
  lists_short h =
      subst (λ (z : Bool). Lists s (pick z (refused 3 0) (through s position b)) (Err BufferOverflow) t t) (sym (lt-ltb (length t) most_text h))
      (record { gives = refl; fits = omega arith; leaves = refl })

  pub lists_there : {r : Result Lines Refusal} {t' : List ℕ} → most_text ≤ length t → Lists s (through s position b) r t t'
      → Lists s (listed s position b t) r t t'
  unfolding listed
  lists_there {r} {t'} h l =
      subst (λ (z : Bool). Lists s (pick z (refused 3 0) (through s position b)) r t t') (sym (le-ltb (length t) most_text h)) l

  pub lists_tried : (why : Refusal) (out : Result Lines Refusal) → out ≡ Err why → refusal_number why ≡ number_in (through s position b)
      → Lists s (through s position b) out t t
  lists_tried why out o h = subst (λ (r : Result Lines Refusal). Lists s (through s position b) r t t) (sym o) (by (through s position b) h)
    where
      by : (a : Answer Replayed) → refusal_number why ≡ number_in a → Lists s a (Err why) t t
      by (got x) f = absurd (omega (arith, refusal_some why))
      by (refused n p) f = record { gives = f; fits = omega arith; leaves = refl }

  pub tried_on : 0 ≡ number_in (through s position b) → OnceOn s position b
  tried_on h = λ event f. sym h

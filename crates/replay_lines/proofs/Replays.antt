-- A log handed in block by block: what `list_block` gives of each block is the log's text, in order. Assumes nothing.
use Rattle.std.specs.Prelude.{Result, Ok, Err}
use Prim.Native.Nat.{ℕ, suc, ◌+◌, ◌<◌, ◌≤◌}
use mathlib.Core.Bool.{Bool, true}
use mathlib.Core.List.{List, [], ◌∷◌, ◌++◌, append_assoc, append-nil}
use mathlib.Core.Path.{◌≡◌, refl, ap, sym, subst, ◌∙◌}
use native.Mathlib.Omega.{arith}
use borrow.Author.Tests.{le-ltb}
use lib.ListN.{length, take, drop, length-append}
use lib.Seq.{sets, sets-eq, length-sets, take_at}
use Rattle.codec.specs.Pick.{pick}
use Rattle.codec.specs.Sheet.{Answer, got, refused}
use Rattle.codec.specs.Writing.{stop_room}
use Rattle.codec.specs.Told.{WritesAll}
use Rattle.codec.specs.declared.refusal.Refusal.{Refusal}
use Rattle.codec.proofs.Writes.{out_some}
use Rattle.text.specs.Putting.{Front}
use Rattle.text.proofs.Digits.{bits64, end_length}
use Rattle.blocks.specs.Block.{block_number, records_of}
use Rattle.replay.specs.Log.{Handed, handed, Before, none, before_next, events_of, block_events}
use Rattle.replay.specs.Step.{new_replay, before_of, in_limits}
use Rattle.replay.specs.Through.{Replayed, replayed, through, between, last_of}
use Rattle.replay.specs.declared.Event.{Event}
use Rattle.replay.specs.declared.Replay.{Replay}
use Rattle.replay.proofs.AnyBlocks.{rests}
use Rattle.replay_lines.specs.Text.{text_of_all, end_text}
use Rattle.replay_lines.specs.Lines.{most_text, listed, Lists}
use Rattle.replay_lines.specs.Replays.{placed, log_text, block_text, behind_block, block_texts, After}
use Rattle.replay_lines.specs.declared.Lines.{Lines}
use Rattle.replay_lines.proofs.TextLaws.{all_append}
use Rattle.replay_lines.proofs.Stepping.{one_block}

-- ---- the text at the front of t, as it is handed to be written
none_taken : (t : List ℕ) → take 0 t ≡ []
none_taken [] = refl
none_taken (x ∷ t) = refl

front_there : (t w : List ℕ) (n : ℕ) → n ≡ length w → n ≤ length t → Front n (sets t 0 w) w
front_there t w n e l =
    let k : take 0 t ++ w ≡ w = ap (λ (x : List ℕ). x ++ w) (none_taken t) in record {
      fits = omega (arith, length-sets t 0 w);
      bytes =
          ap (λ (x : List ℕ). take n x) (sets-eq w t 0 (omega arith))
          ∙ take_at (take 0 t ++ w) (drop (0 + length w) t) n (ap length k ∙ sym e)
          ∙ k;
    }

-- ---- blocks one behind the other
placed-more : (k : ℕ) (bs : List (List ℕ)) (b : List ℕ) → placed k (bs ++ b ∷ []) ≡ placed k bs ++ handed (k + length bs) b ∷ []
placed-more k [] b = ap (λ (n : ℕ). handed n b ∷ []) (let e : k ≡ k + 0 = omega arith in e)
placed-more k (a ∷ bs) b =
    ap (λ (hs : List Handed). handed k a ∷ hs) (placed-more (suc k) bs b
    ∙ ap (λ (n : ℕ). placed (suc k) bs ++ handed n b ∷ []) (let e : suc k + length bs ≡ k + suc (length bs) = omega arith in e))

last_more : (l : Before) (hs : List Handed) (h : Handed) → last_of l (hs ++ h ∷ []) ≡ last_of (last_of l hs) (h ∷ [])
last_more l [] h = refl
last_more l (handed p b ∷ hs) h = last_more (before_next l (block_number b) (records_of b)) hs h

events-more : (l : Before) (hs : List Handed) (h : Handed) → events_of l (hs ++ h ∷ []) ≡ events_of l hs ++ events_of (last_of l hs) (h ∷ [])
events-more l [] h = refl
events-more l (handed p b ∷ hs) h =
    let n = block_number b in
    let es = block_events l p n (records_of b) in
    let m = before_next l n (records_of b) in
    ap (λ (fs : List Event). es ++ fs) (events-more m hs h) ∙ sym (append_assoc es (events_of m hs) (events_of (last_of m hs) (h ∷ [])))

-- ---- the texts of a log's blocks, one after the other, are the text of its events
texts-from : (bs : List (List ℕ)) (l : Before) (k : ℕ) → block_texts (between l) k bs ≡ text_of_all (events_of l (placed k bs))
texts-from [] l k = refl
texts-from (b ∷ bs) l k =
    let n = block_number b in
    let es = block_events l k n (records_of b) in
    let m = before_next l n (records_of b) in
    ap (λ (x : Before). text_of_all (events_of x (handed k b ∷ [])) ++ block_texts (between (last_of x (handed k b ∷ []))) (suc k) bs) (rests l).1.1
    ∙ ap (λ (w : List ℕ). text_of_all (es ++ []) ++ w) (texts-from bs m (suc k))
    ∙ ap (λ (fs : List Event). text_of_all fs ++ text_of_all (events_of m (placed (suc k) bs))) (append-nil es)
    ∙ sym (all_append es (events_of m (placed (suc k) bs)))

pub log_written : (bs : List (List ℕ)) → block_texts new_replay 0 bs ≡ log_text bs
log_written bs = texts-from bs none 0

-- ---- the state after so many blocks
pub after_none : After 0 new_replay
after_none = record { blocks = []; count = refl; state = refl }

module _ {k : ℕ} {s : Replay} (a : After k s) where
  before_is : before_of s ≡ last_of none (placed 0 a.blocks)
  before_is = ap before_of a.state ∙ (rests (last_of none (placed 0 a.blocks))).1.1

  limits : in_limits s ≡ true
  limits = ap in_limits a.state ∙ (rests (last_of none (placed 0 a.blocks))).0

  at_rest : s.place ≡ 0
  at_rest = ap (λ (y : Replay). y.place) a.state ∙ (rests (last_of none (placed 0 a.blocks))).1.0

  position_is : 0 + length a.blocks ≡ k
  position_is = omega (arith, a.count)

  placed-last : (b : List ℕ) → placed 0 (a.blocks ++ b ∷ []) ≡ placed 0 a.blocks ++ handed k b ∷ []
  placed-last b = placed-more 0 a.blocks b ∙ ap (λ (n : ℕ). placed 0 a.blocks ++ handed n b ∷ []) position_is

  pub after_more : (b : List ℕ) (s' : Replay) → s' ≡ behind_block s k b → After (k + 1) s'
  after_more b s' e = record {
    blocks = a.blocks ++ b ∷ [];
    count = length-append a.blocks (b ∷ []) ∙ omega (arith, a.count);
    state =
        e
        ∙ ap (λ (l : Before). between (last_of l (handed k b ∷ []))) before_is
        ∙ ap between (sym (last_more none (placed 0 a.blocks) (handed k b)))
        ∙ ap (λ (hs : List Handed). between (last_of none hs)) (sym (placed-last b));
  }

  -- what is written of one more block stands behind the text of those before it: no line is left out, and none comes twice
  pub log_more : (b : List ℕ) → log_text (a.blocks ++ b ∷ []) ≡ log_text a.blocks ++ block_text s k b
  log_more b =
      ap (λ (hs : List Handed). text_of_all (events_of none hs)) (placed-last b)
      ∙ ap text_of_all (events-more none (placed 0 a.blocks) (handed k b))
      ∙ all_append (events_of none (placed 0 a.blocks)) (events_of (last_of none (placed 0 a.blocks)) (handed k b ∷ []))
      ∙ ap (λ (l : Before). log_text a.blocks ++ text_of_all (events_of l (handed k b ∷ []))) (sym before_is)

  -- what `list_block` answers
  module _ (b t t' : List ℕ) (much : most_text ≤ length t) where
    is : listed s k b t
        ≡ got (replayed (events_of (before_of s) (handed k b ∷ [])) (behind_block s k b))
    unfolding listed
    is = ap (λ (z : Bool). pick z (refused 3 0) (through s k b)) (le-ltb (length t) most_text much) ∙ one_block s k b limits at_rest

    given : (r : Result Lines Refusal) → Lists s (listed s k b t) r t t'
        → Lists s (got (replayed (events_of (before_of s) (handed k b ∷ [])) (behind_block s k b))) r t t'
    given r l = subst (λ (x : Answer Replayed). Lists s x r t t') is l

    -- it refuses none
    pub block_not_refused : (why : Refusal) → Lists s (listed s k b t) (Err why) t t' → ⊥
    block_not_refused why l = (given (Err why) l).gives

    module _ (r : Lines) (l : Lists s (listed s k b t) (Ok r) t t') where
      pub block-state : r.state ≡ behind_block s k b
      block-state = ap (λ (x : Lines). x.state) (given (Ok r) l).gives

      pub block-handed : Front r.len t' (block_text s k b)
      block-handed =
          let g = given (Ok r) l in
          let count : r.len ≡ length (block_text s k b) = ap (λ (x : Lines). x.len) g.gives in
          subst (λ (x : List ℕ). Front r.len x (block_text s k b)) (sym g.leaves)
          (front_there t (block_text s k b) r.len count (omega (arith, count, g.fits)))

-- ---- the closing line
module _ (n : ℕ) (small : n < bits64) (x : Result ℕ Refusal) (t t' : List ℕ) (much : most_text ≤ length t) (w : WritesAll (end_text n) x t t') where
  end_fits : length (end_text n) ≤ length t
  end_fits = omega (arith, end_length n small)

  goes : stop_room (length t) (length (end_text n)) ≡ 0
  goes = rw (le-ltb (length t) (length (end_text n)) end_fits)

  pub end_not_refused : (r : Refusal) → x ≡ Err r → ⊥
  end_not_refused r e = out_some r (length (end_text n)) (rw (goes, e) at w.0)

  pub end_handed : (k : ℕ) → x ≡ Ok k → Front k t' (end_text n)
  end_handed k e =
      let g = rw (goes, e) at w.0 in
      let d : k ≡ length (end_text n) = cc in
      subst (λ (y : List ℕ). Front k y (end_text n)) (sym (rw goes at w.1))
      (front_there t (end_text n) k d (omega (arith, end_fits, d)))

-- How long a line's pieces are: each line has room in `longestText` bytes. Assumes nothing.
use Rattle.std.specs.Prelude.{Ok, Err}
use Prim.Native.Nat.{ℕ, suc, ◌+◌, ◌^◌, ◌<◌, ◌≤◌}
use mathlib.Core.List.{List, [], ◌∷◌, ◌++◌, append_assoc, append-nil}
use mathlib.Core.Path.{◌≡◌, refl, ap, sym, ◌∙◌}
use native.Mathlib.Omega.{arith}
use borrow.Author.Tests.{lt-ltb, le-ltb}
use lib.ListN.{length, length-append}
use Rattle.codec.specs.Writing.{stop_room}
use Rattle.codec.specs.Told.{WritesAll}
use Rattle.codec.specs.declared.refusal.Refusal.TheVariants.{BufferOverflow}
use Rattle.codec.proofs.InTurn.{writes-stop, writes-all}
use Rattle.text.specs.Putting.{PutsBehind}
use Rattle.text.proofs.Behind.{behind_none, behind-some}
use Rattle.text.specs.Pieces.{decimal}
use Rattle.text.proofs.Digits.{bits64, digits-length, decimal-length}
use Rattle.replay.specs.Through.{told, told_as}
use Rattle.replay.specs.declared.Event.{Event}
use Rattle.replay.specs.declared.Kind.{Kind}
use Rattle.replay.specs.declared.Kind.TheVariants.{Nothing, Command, Refused, Damaged, Gap, Back}
use Rattle.replay_lines.specs.Text.{text_as, text_of, text_of_all, end_text}

-- ---- a number's digits in front of a text: a number of 64, 32 or 8 bits
pub wide-length : (n : ℕ) (w : List ℕ) → n < bits64 → length (decimal n ++ w) ≤ 20 + length w
wide-length n w h = rw (length-append (decimal n) w) (omega (arith, decimal-length n h))

pub word-length : (n : ℕ) (w : List ℕ) → n < 4294967296 → length (decimal n ++ w) ≤ 10 + length w
word-length n w h =
    let p : 10 ^ 10 ≡ 10000000000 = refl in
    rw (length-append (decimal n) w) (omega (arith, digits-length (suc n) 9 n (rw p (omega arith))))

pub byte-length : (n : ℕ) (w : List ℕ) → n < 256 → length (decimal n ++ w) ≤ 3 + length w
byte-length n w h =
    let p : 10 ^ 3 ≡ 1000 = refl in
    rw (length-append (decimal n) w) (omega (arith, digits-length (suc n) 2 n (rw p (omega arith))))

-- ---- the text of events one behind the other
pub all_append : (es fs : List Event) → text_of_all (es ++ fs) ≡ text_of_all es ++ text_of_all fs
all_append [] fs = refl
all_append (e ∷ es) fs =
    ap (λ (w : List ℕ). text_of e ++ w) (all_append es fs) ∙ sym (append_assoc (text_of e) (text_of_all es) (text_of_all fs))

-- an event that is not told has no text
pub told_text_lem : (e : Event) → text_of_all (told e) ≡ text_of e
told_text_lem e = by e.kind refl
  where
    one : (k : Kind) → e.kind ≡ k → text_of e ++ [] ≡ text_as k e
    one k h = append-nil (text_of e) ∙ ap (λ (j : Kind). text_as j e) h

    by : (k : Kind) → e.kind ≡ k → text_of_all (told_as k e) ≡ text_as k e
    by Nothing h = refl
    by Command h = one Command h
    by Refused h = one Refused h
    by Damaged h = one Damaged h
    by Gap h = one Gap h
    by Back h = one Back h

-- ---- a text at the front of a lent slice
module _ {w : List ℕ} (some : 0 < length w) {k : ℕ} {s s' : List ℕ} (p : PutsBehind w 0 k s s') where
  pub front_none : k ≡ 0 → WritesAll w (Err BufferOverflow) s s'
  front_none e =
      let n = behind_none p some e in
      rw n.1 (writes-stop (stop_room (length s) (length w)) w s BufferOverflow (rw (lt-ltb (length s) (length w) (omega (arith, n.0)))))

  pub front_put : (k ≡ 0 → ⊥) → WritesAll w (Ok k) s s'
  front_put e =
      let n = behind-some p some e in
      writes-all (stop_room (length s) (length w)) k w s s' (rw (le-ltb (length s) (length w) (omega (arith, n.0, n.1.0)))) n.0 n.1.1

-- the closing line is not empty
pub end_some : (n : ℕ) → 0 < length (end_text n)
end_some n = omega arith

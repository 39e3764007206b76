-- What the functions that judge a payload or read its kind cite. Assumes nothing.
use Rattle.std.specs.Prelude.{Result, Ok, Err}
use Prim.Native.Nat.{ℕ, ◌≤◌}
use mathlib.Core.List.{List}
use mathlib.Core.Path.{◌≡◌, refl, ap, sym}
use native.Mathlib.Omega.{arith}
use lib.ListN.{length, get_or}
use Rattle.codec.specs.Sheet.{Answer, got, refused, and_then}
use Rattle.codec.specs.Refusals.{refusal_number, told}
use Rattle.codec.specs.declared.refusal.Refusal.{Refusal}
use Rattle.codec.proofs.Writes.{refusal_some}
use Rattle.commands.specs.Command.{WithStored, with_stored, command_of}
use Rattle.commands.specs.Reading.{body_in, read_family, read_as, read_command}
use Rattle.commands.specs.Kind.{Kind, kind_of, read_kind, told_kind, kind_with_stored, kind_kept, stop_reading}
use Rattle.commands.specs.declared.kind.KindRead.{KindRead}
use Rattle.commands.proofs.Answers.{addressed}
use Rattle.commands.proofs.Known.{Judged, passes, stopped, judged}

-- ---- the tests before the body
unstopped : (p : List ℕ) → stop_reading p ≡ 0 → (4 ≤ length p) × (read_command p ≡ read_as (get_or p 0 0) (get_or p 1 0) (get_or p 2 0) (body_in p))
unstopped p h = by (judged p)
  where
    by : Judged p → (4 ≤ length p) × (read_command p ≡ read_as (get_or p 0 0) (get_or p 1 0) (get_or p 2 0) (body_in p))
    by (passes l m k s r) = (l, r)
    by (stopped s r) = absurd (omega arith)

pub judged-long : (p : List ℕ) → 0 ≡ stop_reading p → 4 ≤ length p
judged-long p h = (unstopped p (sym h)).0

pub judged_read : (p : List ℕ) → 0 ≡ stop_reading p → read_command p ≡ read_as (get_or p 0 0) (get_or p 1 0) (get_or p 2 0) (body_in p)
judged_read p h = (unstopped p (sym h)).1

pub judged-refused : (p : List ℕ) (r : Refusal) → refusal_number r ≡ stop_reading p → read_command p ≡ refused (refusal_number r) 0
judged-refused p r n = by (judged p)
  where
    by : Judged p → read_command p ≡ refused (refusal_number r) 0
    by (passes l m k s g) = let z = refusal_some r in absurd (omega (arith, z, n, s))
    by (stopped s g) = rw n g

-- ---- the kind of a payload with what is stored beside it
abbrev pub kind_in : Answer WithStored → Answer Kind
kind_in a = and_then a (λ k. got (kind_with_stored k))

command-kind : (k : WithStored) (dst src : ℕ) → kind_of (command_of dst src k) ≡ kind_with_stored k
command-kind (with_stored p t) dst src = refl

-- whatever the addresses
kind_read : (a : Answer WithStored) (dst src : ℕ) → and_then (addressed dst src a) (λ c. got (kind_of c)) ≡ kind_in a
kind_read (got k) dst src = ap (λ (x : Kind). got x) (command-kind k dst src)
kind_read (refused n p) dst src = refl

-- of a payload that passes the tests
pub judged-kind : (p : List ℕ) → 0 ≡ stop_reading p → read_kind p ≡ kind_in (read_family (get_or p 2 0) (body_in p))
judged-kind p h = rw (judged_read p h) (kind_read (read_family (get_or p 2 0) (body_in p)) (get_or p 0 0) (get_or p 1 0))

-- what is kept tells the kind
pub kept_kind : (a : Answer WithStored) (r : Result KindRead Refusal) → told (λ k. k) r ≡ and_then a (λ k. got (kind_kept k)) → told_kind r ≡ kind_in a
kept_kind (got (with_stored p t)) (Ok x) h = let e : x ≡ kind_kept (with_stored p t) = cc in rw e
kept_kind (got (with_stored p t)) (Err r) h = let z : ◌≡◌ {A = ℕ} 0 1 = cc in absurd (omega arith)
kept_kind (refused n p) (Ok x) h = let z : ◌≡◌ {A = ℕ} 0 1 = cc in absurd (omega arith)
kept_kind (refused n p) (Err r) h = let e : refusal_number r ≡ n = cc in let f : 0 ≡ p = cc in rw (e, f)

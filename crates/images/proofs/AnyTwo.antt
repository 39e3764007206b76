-- Any two answers that a contract allows: how they are the same. Assumes nothing.
use Prim.Native.Nat.{ℕ}
use mathlib.Core.List.{List}
use mathlib.Core.Path.{◌≡◌, sym, ◌∙◌}
use contract.Lifetimes.{Lfts}
use borrow.Fn.Kinds.{ParamKind, ResultKind, Out, Dens, res_t, ended_of}
use denote.Triple.Clauses.{AtExit}

-- results x and y, and lent slices at exit s and t, of the same arguments
abbrev pub AnyTwo : (n : ℕ) (ps : List (ParamKind n)) (r : ResultKind n) → Out n ps r
    → ((κs : Lfts n) → (x y : (res_t r κs).Denot) → (s t : AtExit (ended_of n ps r) κs) → Type 0) → Type 0
AnyTwo n ps r Post same =
    (κs : Lfts n) (a : Dens κs ps) (x y : (res_t r κs).Denot) (s t : AtExit (ended_of n ps r) κs)
    → Post κs a x s → Post κs a y t → same κs x y s t

-- a result and a slice that are told are the same
pub told-twice : {A B : Type 0} {x y v : A} {s t w : B} → (x ≡ v) × (s ≡ w) → (y ≡ v) × (t ≡ w) → (x ≡ y) × (s ≡ t)
told-twice p q = (p.0 ∙ sym q.0, p.1 ∙ sym q.1)

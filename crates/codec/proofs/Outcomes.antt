-- A Result is fixed by the answer that it gives. Assumes nothing.
use Rattle.std.specs.Prelude.{Result, Ok, Err, ⊤, IsErr, IsErrAnd}
use Prim.Native.Nat.{ℕ}
use mathlib.Core.Path.{◌≡◌, refl, ap, sym, ◌∙◌}
use native.Mathlib.Omega.{arith}
use Rattle.codec.specs.Sheet.{Answer, got, refused}
use Rattle.codec.specs.Refusals.{refusal_number, outcome_number, told, Gives}
use Rattle.codec.specs.declared.refusal.Refusal.{Refusal}
use Rattle.codec.proofs.Writes.{refusal_of, refusal_back, refusal_some}

-- a refusal by its number
pub refusal_one : (r s : Refusal) → refusal_number r ≡ refusal_number s → r ≡ s
refusal_one r s h = sym (refusal_back r) ∙ ap refusal_of h ∙ refusal_back s

pub outcome_one : (x y : Result ⊤ Refusal) → outcome_number x ≡ outcome_number y → x ≡ y
outcome_one (Ok x) (Ok y) h = refl
outcome_one (Ok x) (Err r) h = let k = refusal_some r in absurd (omega arith)
outcome_one (Err r) (Ok y) h = let k = refusal_some r in absurd (omega arith)
outcome_one (Err r) (Err s) h = ap Err (refusal_one r s h)

pub gives_one : {A B : Type 0} (shown : A → B) (a : Answer A) (x y : Result B Refusal) → Gives shown a x → Gives shown a y → x ≡ y
gives_one shown (got a) (Ok b) (Ok c) p q = ap Ok (p ∙ sym q)
gives_one shown (got a) (Ok b) (Err s) p q = absurd q
gives_one shown (got a) (Err r) y p q = absurd p
gives_one shown (refused n k) (Ok b) y p q = absurd p
gives_one shown (refused n k) (Err r) (Ok c) p q = absurd q
gives_one shown (refused n k) (Err r) (Err s) p q = ap Err (refusal_one r s (p ∙ sym q))

-- what was given was got, and what was not was refused
pub gives_ok : {A B : Type 0} (shown : A → B) (a : Answer A) (b : B) → Gives shown a (Ok b) → (v : A) × ((a ≡ got v) × (b ≡ shown v))
gives_ok shown (got v) b h = (v, (refl, h))
gives_ok shown (refused n p) b h = absurd h

pub gives_err : {A B : Type 0} (shown : A → B) (a : Answer A) (r : Refusal) → Gives shown a (Err r) → (p : ℕ) × (a ≡ refused (refusal_number r) p)
gives_err shown (got v) r h = absurd h
gives_err shown (refused n p) r h = (p, rw h)

-- where what a value says tells the value, what a Result tells tells the Result
unsaid : {A B : Type 0} → (B → A) → Answer B → Result A Refusal
unsaid of (got b) = Ok (of b)
unsaid of (refused n p) = Err (refusal_of n)

unsaid_told : {A B : Type 0} (says : A → B) (of : B → A) → ((c : A) → of (says c) ≡ c) → (r : Result A Refusal) → unsaid of (told says r) ≡ r
unfolding unsaid
unsaid_told says of h (Ok c) = ap Ok (h c)
unsaid_told says of h (Err r) = ap Err (refusal_back r)

pub told_one : {A B : Type 0} (says : A → B) (of : B → A) → ((c : A) → of (says c) ≡ c) → (x y : Result A Refusal) (a : Answer B) → told says x ≡ a → told says y ≡ a → x ≡ y
told_one says of h x y a p q = sym (unsaid_told says of h x) ∙ ap (unsaid of) (p ∙ sym q) ∙ unsaid_told says of h y

-- what a `?` hands on is the refusal that it met
pub err_is : {A E : Type 0} (r : Result A E) (e : E) → IsErr r × IsErrAnd r (λ x. x ≡ e) → r ≡ Err e
err_is (Ok a) e h = absurd h.1
err_is (Err x) e h = ap Err h.1

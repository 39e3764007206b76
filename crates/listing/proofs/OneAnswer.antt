-- Any two answers that a public function's contract allows coincide, and so do the bytes that it leaves in a lent slice. `Post` is
-- the contract as the check reads it from the source, and no copy of it. Assumes nothing.
use Rattle.std.specs.Prelude.{Option, Some, None, Result, Ok, Err}
use Prim.Native.Nat.{ℕ}
use mathlib.Core.Bool.{Bool, true, false}
use mathlib.Core.List.{List, [], ◌∷◌}
use mathlib.Core.Path.{◌≡◌, refl, ap, sym, ◌∙◌}
use contract.Lifetimes.{Lfts}
use borrow.Fn.Kinds.{Dens, res_t, ended_of}
use denote.Triple.Clauses.{AtExit}
use Rattle.codec.specs.Sheet.{Answer, got, refused}
use Rattle.codec.proofs.Writes.{refusal_of, refusal_back, written_fixed}
use Rattle.listing.specs.Parts.{told_stop, Filled, Fills}
use Rattle.codec.specs.Refusals.{told}
use Rattle.codec.specs.declared.refusal.Refusal.{Refusal}
use Rattle.listing.specs.Step.{Stepped, told_step, told_next}
use Rattle.listing.specs.declared.line.Line.{Line}
use Rattle.listing.specs.declared.Listing.{Listing}
use Rattle.listing.specs.declared.Step.{Step}
use Rattle.listing.specs.declared.Stop.{Stop}
use Rattle.listing.specs.declared.Stop.TheVariants.{Used, Full}
use Rattle.listing.specs.declared.Part.{Part}
use Rattle.listing.proofs.Listing.new.Reads as new
use Rattle.listing.proofs.Listing.new.Kinds as new-kinds
use Rattle.listing.proofs.Listing.next.Reads as next
use Rattle.listing.proofs.Listing.next.Kinds as next-kinds
use Rattle.listing.proofs.Listing.fill.Reads as fill
use Rattle.listing.proofs.Listing.fill.Kinds as fill-kinds
use Rattle.listing.proofs.Listing.finish.Reads as finish
use Rattle.listing.proofs.Listing.finish.Kinds as finish-kinds
use Rattle.listing.proofs.line.render.Reads as render
use Rattle.listing.proofs.line.render.Kinds as render-kinds

-- what is told fixes the answer
abbrev told_back : Listing → ℕ → Answer (List Line) → Result Step Refusal
told_back s at (got []) = Ok (record { state = s; at = at; line = None })
told_back s at (got (l ∷ ls)) = Ok (record { state = s; at = at; line = Some l })
told_back s at (refused n p) = Err (refusal_of n)

abbrev back_of : Stepped → Result Step Refusal
back_of y = told_back y.state y.at y.says

step-told : (s : Listing) (at : ℕ) (x : Result Step Refusal) → back_of (told_next s at x) ≡ x
step-told s at (Ok x) = by x.line refl
  where
    by : (o : Option Line) → x.line ≡ o → back_of (told_step x) ≡ Ok x
    by None e = rw e refl
    by (Some l) e = rw e refl
step-told s at (Err r) = ap Err (refusal_back r)

step_fixed : (s : Listing) (at : ℕ) (x y : Result Step Refusal) → told_next s at x ≡ told_next s at y → x ≡ y
step_fixed s at x y e = sym (step-told s at x) ∙ ap back_of e ∙ step-told s at y

line_back : Answer (List Line) → Result Line Refusal
line_back (got []) = Err (refusal_of 0)
line_back (got (l ∷ ls)) = Ok l
line_back (refused n p) = Err (refusal_of n)

abbrev told_line : Result Line Refusal → Answer (List Line)
told_line x = told (λ (l : Line). l ∷ []) x

line-told : (x : Result Line Refusal) → line_back (told_line x) ≡ x
unfolding line_back
line-told (Ok l) = refl
line-told (Err r) = ap Err (refusal_back r)

line_fixed : (x y : Result Line Refusal) → told_line x ≡ told_line y → x ≡ y
line_fixed x y e = sym (line-told x) ∙ ap line_back e ∙ line-told y

stop_told : Answer Bool → Result Stop Refusal
stop_told (got true) = Ok Used
stop_told (got false) = Ok Full
stop_told (refused n p) = Err (refusal_of n)

stop-told : (x : Result Stop Refusal) → stop_told (told_stop x) ≡ x
unfolding stop_told
stop-told (Ok Used) = refl
stop-told (Ok Full) = refl
stop-told (Err r) = ap Err (refusal_back r)

stop_fixed : (x y : Result Stop Refusal) → told_stop x ≡ told_stop y → x ≡ y
stop_fixed x y e = sym (stop-told x) ∙ ap stop_told e ∙ stop-told y

fills_fixed : (f : Filled) (x y : Part) (t p q : List ℕ) → Fills f x t p → Fills f y t q → (x ≡ y) × (p ≡ q)
fills_fixed f x y t p q g h = (
  ap (λ (s : Listing). record { state = s; at = x.at; len = x.len; stop = x.stop }) (g.state ∙ sym h.state)
      ∙ ap (λ (a : ℕ). record { state = y.state; at = a; len = x.len; stop = x.stop }) (g.place ∙ sym h.place)
      ∙ ap (λ (n : ℕ). record { state = y.state; at = y.at; len = n; stop = x.stop }) (g.count ∙ sym h.count)
      ∙ ap (λ (u : Result Stop Refusal). record { state = y.state; at = y.at; len = y.len; stop = u })
      (stop_fixed x.stop y.stop (g.stop ∙ sym h.stop)),
  g.leaves ∙ sym h.leaves,
)

pub new_one : (κs : Lfts 0) (a : Dens κs new-kinds.ps) (x y : (res_t new-kinds.r κs).Denot)
    (s t : AtExit (ended_of 0 new-kinds.ps new-kinds.r) κs)
    → new.Post κs a x s → new.Post κs a y t → x ≡ y
new_one κs a x y s t p q = p ∙ sym q

pub next_one : (κs : Lfts 1) (a : Dens κs next-kinds.ps) (x y : (res_t next-kinds.r κs).Denot)
    (s t : AtExit (ended_of 1 next-kinds.ps next-kinds.r) κs)
    → next.Post κs a x s → next.Post κs a y t → x ≡ y
next_one κs a x y s t p q = step_fixed a.0 a.1.1.0 x y (p ∙ sym q)

pub fill_one : (κs : Lfts 2) (a : Dens κs fill-kinds.ps) (x y : (res_t fill-kinds.r κs).Denot)
    (s t : AtExit (ended_of 2 fill-kinds.ps fill-kinds.r) κs)
    → fill.Post κs a x s → fill.Post κs a y t → (x ≡ y) × (s.1.1.1.0.now ≡ t.1.1.1.0.now)
fill_one κs a x y s t p q = fills_fixed _ x y _ _ _ p.0 q.0

pub finish_one : (κs : Lfts 0) (a : Dens κs finish-kinds.ps) (x y : (res_t finish-kinds.r κs).Denot)
    (s t : AtExit (ended_of 0 finish-kinds.ps finish-kinds.r) κs)
    → finish.Post κs a x s → finish.Post κs a y t → x ≡ y
finish_one κs a x y s t p q = line_fixed x y (p ∙ sym q)

pub render_one : (κs : Lfts 1) (a : Dens κs render-kinds.ps) (x y : (res_t render-kinds.r κs).Denot)
    (s t : AtExit (ended_of 1 render-kinds.ps render-kinds.r) κs)
    → render.Post κs a x s → render.Post κs a y t → (x ≡ y) × (s.1.0.now ≡ t.1.0.now)
render_one κs a x y s t p q = (written_fixed x y _ p.0 q.0, p.1 ∙ sym q.1)

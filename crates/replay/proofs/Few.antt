-- A sound block has no more records than bytes: from one place only one way goes on to the end, so no two records have their place in
-- common. Assumes nothing.
use Prim.Native.Nat.{ℕ, zero, suc, ◌<◌, ◌≤◌}
use mathlib.Core.Bool.{Bool, true, false}
use mathlib.Core.List.{List, [], ◌∷◌, map}
use mathlib.Core.Path.{◌≡◌, refl, ap, sym, subst, ◌∙◌}
use native.Mathlib.Omega.{arith}
use borrow.Author.Tests.{eqb-true, eqb-false}
use lib.ListN.{length}
use lib.Dec.{eqb}
use Rattle.codec.specs.Pick.{pick}
use Rattle.codec.specs.Sheet.{Answer, got}
use Rattle.blocks.specs.Block.{block_size, block_number, Record}
use Rattle.blocks.specs.Walk.{first_of, Standing, standing, record_at}
use Rattle.blocks.proofs.Walks.{Walks}

-- ---- numbers below n of which no two are the same are at most n
abbrev AllBelow : ℕ → List ℕ → Type 0
AllBelow n [] = Unit {0}
AllBelow n (x ∷ l) = (x < n) × AllBelow n l

abbrev NotIn : ℕ → List ℕ → Type 0
NotIn x [] = Unit {0}
NotIn x (y ∷ l) = (x ≡ y → ⊥) × NotIn x l

abbrev Apart : List ℕ → Type 0
Apart [] = Unit {0}
Apart (x ∷ l) = NotIn x l × Apart l

abbrev without : ℕ → List ℕ → List ℕ
without x [] = []
without x (y ∷ l) = pick (eqb x y) (without x l) (y ∷ without x l)

all_stay : (x : ℕ) (l : List ℕ) → NotIn x l → without x l ≡ l
all_stay x [] h = refl
all_stay x (y ∷ l) h = by (eqb x y) refl (all_stay x l h.1)
  where
    by : (t : Bool) → eqb x y ≡ t → without x l ≡ l → pick t (without x l) (y ∷ without x l) ≡ y ∷ l
    by true e k = absurd (h.0 (eqb-true x y e))
    by false e k = ap (λ (m : List ℕ). y ∷ m) k

one_goes : (x : ℕ) (l : List ℕ) → Apart l → length l ≤ suc (length (without x l))
one_goes x [] h = omega arith
one_goes x (y ∷ l) h = by (eqb x y) refl (one_goes x l h.1)
  where
    by : (t : Bool) → eqb x y ≡ t → length l ≤ suc (length (without x l))
        → suc (length l) ≤ suc (length (pick t (without x l) (y ∷ without x l)))
    by true e k =
        let n = subst (λ (z : ℕ). NotIn z l) (sym (eqb-true x y e)) h.0 in
        let m = ap (λ (j : List ℕ). length j) (all_stay x l n) in omega arith
    by false e k = omega arith

stays_out : (z x : ℕ) (l : List ℕ) → NotIn z l → NotIn z (without x l)
stays_out z x [] h = tt
stays_out z x (y ∷ l) h = by (eqb x y) (stays_out z x l h.1)
  where
    by : (t : Bool) → NotIn z (without x l) → NotIn z (pick t (without x l) (y ∷ without x l))
    by true k = k
    by false k = (h.0, k)

stay_apart : (x : ℕ) (l : List ℕ) → Apart l → Apart (without x l)
stay_apart x [] h = tt
stay_apart x (y ∷ l) h = by (eqb x y) (stay_apart x l h.1)
  where
    by : (t : Bool) → Apart (without x l) → Apart (pick t (without x l) (y ∷ without x l))
    by true k = k
    by false k = (stays_out y x l h.0, k)

below_less : (n : ℕ) (l : List ℕ) → AllBelow (suc n) l → AllBelow n (without n l)
below_less n [] h = tt
below_less n (y ∷ l) h = by (eqb n y) refl (below_less n l h.1)
  where
    by : (t : Bool) → eqb n y ≡ t → AllBelow n (without n l) → AllBelow n (pick t (without n l) (y ∷ without n l))
    by true e k = k
    by false e k = let d = eqb-false n y e in let m = h.0 in (omega arith, k)

few-apart : (n : ℕ) (l : List ℕ) → AllBelow n l → Apart l → length l ≤ n
few-apart zero [] h a = omega arith
few-apart zero (y ∷ l) h a = absurd (omega (arith, h.0))
few-apart (suc n) l h a =
    let k = one_goes n l a in
    let m = few-apart n (without n l) (below_less n l h) (stay_apart n l a) in omega arith

-- ---- the places of records
abbrev places : List Record → List ℕ
places rs = map (λ r. r.place) rs

places-length : (rs : List Record) → length (places rs) ≡ length rs
places-length [] = refl
places-length (r ∷ rs) = ap suc (places-length rs)

places-below : (b : List ℕ) (rs : List Record) → Walks b rs → AllBelow block_size (places rs)
places-below b [] w = tt
places-below b (r ∷ rs) (e, (stands, (holds, (low, (high, w))))) = (omega arith, places-below b rs w)

next-same : (n m e f x y : ℕ) → ◌≡◌ {A = Answer Standing} (got (standing n e x)) (got (standing m f y)) → x ≡ y
next-same n m e f x y h = cc

-- from one place only one way goes on to the end
one_way : (b : List ℕ) (rs qs : List Record) → Walks b rs → Walks b qs → first_of rs ≡ first_of qs → length rs ≡ length qs
one_way b [] [] w v h = refl
one_way b [] (q ∷ qs) w (e, (stands, (holds, (low, (high, v))))) h = absurd (omega arith)
one_way b (r ∷ rs) [] (e, (stands, (holds, (low, (high, w))))) v h = absurd (omega arith)
one_way b (r ∷ rs) (q ∷ qs) (e, (x, (i, (j, (k, w))))) (f, (y, (i', (j', (k', v))))) h =
    let n = block_number b in
    ap suc (one_way b rs qs w v
    (next-same n n e f (first_of rs) (first_of qs) (sym x ∙ ap (λ (at : ℕ). record_at b at) h ∙ y)))

-- so no record further on has that place
not_again : (b : List ℕ) (at k : ℕ) → ((qs : List Record) → Walks b qs → first_of qs ≡ at → length qs ≡ k)
    → (qs : List Record) → Walks b qs → length qs < k → NotIn at (places qs)
not_again b at k only [] w l = tt
not_again b at k only (q ∷ qs) w l =
    ((λ h. let m = only (q ∷ qs) w (sym h) in omega arith), not_again b at k only qs w.1.1.1.1.1 (omega arith))

places-apart : (b : List ℕ) (rs : List Record) → Walks b rs → Apart (places rs)
places-apart b [] w = tt
places-apart b (r ∷ rs) w =
    let v = w.1.1.1.1.1 in
    (not_again b r.place (length (r ∷ rs)) (λ qs u h. one_way b qs (r ∷ rs) u w h) rs v (omega arith), places-apart b rs v)

pub few : (b : List ℕ) (rs : List Record) → Walks b rs → length rs ≤ block_size
few b rs w = subst (λ (n : ℕ). n ≤ block_size) (places-length rs) (few-apart block_size (places rs) (places-below b rs w) (places-apart b rs w))

-- The text constructor way by way; what is made is what stands for some bytes. Assumes nothing.
use Rattle.std.specs.Prelude.{Ok}
use Prim.Native.Nat.{ℕ, zero, suc, ◌-◌, ◌<◌, ◌≤◌}
use mathlib.Core.Bool.{Bool, true, false}
use mathlib.Core.List.{List, [], ◌∷◌, ◌++◌}
use mathlib.Core.Path.{◌≡◌, refl, ap, sym, ◌∙◌}
use native.Mathlib.Omega.{arith}
use lib.ListN.{length, drop, take, replicate, take-append-drop, length-drop}
use lib.Seq.{take-append_seam, drop-append_seam, length-take-le}
use lib.Dec.{leb, eqb}
use borrow.Author.Tests.{le-leb, lt-leb, leb-true, eqb-true}
use Rattle.codec.specs.Pick.{pick}
use Rattle.codec.specs.Sheet.{got, refused}
use Rattle.codec.specs.Writing.{nonzero}
use Rattle.codec.proofs.Back.{both}
use Rattle.families.specs.Text.{zeros, made_bytes, made_text, padded, text_of, bytes_in, new_text, TextIs}
use Rattle.families.specs.declared.text.CommandString.{CommandString}

-- ---- the ways through the constructor
pub new-zero : (v : List ℕ) → nonzero v ≡ false → new_text v ≡ refused 2 0
new-zero v h = rw h

pub new-long : (v : List ℕ) → nonzero v ≡ true → 51 < length v → new_text v ≡ refused 1 0
new-long v h l = rw (h, lt-leb (length v) 51 l)

pub new-got : (v : List ℕ) → nonzero v ≡ true → length v ≤ 51 → new_text v ≡ got v
new-got v h l = rw (h, le-leb (length v) 51 l)

pub new-text : (v : List ℕ) (t : CommandString) → nonzero v ≡ true → length v ≤ 51 → t ≡ text_of v → TextIs (new_text v) (Ok t)
new-text v t h l e = rw (new-got v h l) e

-- what it takes
pub new_range : (v w : List ℕ) → new_text v ≡ got w → (v ≡ w) × ((nonzero v ≡ true) × (length v ≤ 51))
new_range v w = by (nonzero v) (leb (length v) 51) refl refl
  where
    by : (a b : Bool) → nonzero v ≡ a → leb (length v) 51 ≡ b → pick a (pick b (got v) (refused 1 0)) (refused 2 0) ≡ got w
        → (v ≡ w) × ((nonzero v ≡ true) × (length v ≤ 51))
    by true true p q h = (cc, (p, leb-true (length v) 51 q))
    by true false p q h = let z : ◌≡◌ {A = ℕ} 0 1 = cc in absurd (omega arith)
    by false b p q h = let z : ◌≡◌ {A = ℕ} 0 1 = cc in absurd (omega arith)

-- ---- bytes and zeros are made
pub zeros-replicate : (n : ℕ) → zeros (replicate n 0) ≡ true
zeros-replicate zero = refl
zeros-replicate (suc n) = zeros-replicate n

pub made-padded : (most size : ℕ) (v : List ℕ) → nonzero v ≡ true → length v ≤ most → made_bytes most (length v) (padded size v) ≡ true
made-padded most size v h l =
    rw (le-leb (length v) most l, take-append_seam v (replicate (size - length v) 0), h, drop-append_seam v (replicate (size - length v) 0))
    (zeros-replicate (size - length v))

-- what the constructor makes is made
pub new-made : (v w : List ℕ) → new_text v ≡ got w → made_text (text_of w) ≡ true
new-made v w h = let r = new_range v w h in rw (← r.0) (made-padded 51 51 v r.1.0 r.1.1)

-- ---- and what is made is bytes and zeros
pub zeros_are : (s : List ℕ) → zeros s ≡ true → s ≡ replicate (length s) 0
zeros_are [] h = refl
zeros_are (b ∷ s) h =
    let p = both (eqb b 0) (zeros s) h in
    rw (eqb-true b 0 p.0) (ap (λ (l : List ℕ). 0 ∷ l) (zeros_are s p.1))

abbrev pub Stands : ℕ → ℕ → ℕ → List ℕ → Type 0
Stands most size n b = (n ≤ most) × ((nonzero (take n b) ≡ true) × ((length (take n b) ≡ n) × (b ≡ padded size (take n b))))

pub made-stands : (most size n : ℕ) (b : List ℕ) → made_bytes most n b ≡ true → length b ≡ size → most ≤ size → Stands most size n b
made-stands most size n b h l m =
    let p = both (leb n most) (pick (nonzero (take n b)) (zeros (drop n b)) false) h in
    let q = both (nonzero (take n b)) (zeros (drop n b)) p.1 in
    let k = leb-true n most p.0 in
    let t : length (take n b) ≡ n = length-take-le n b (omega arith) in
    let d : length (drop n b) ≡ size - length (take n b) = rw (length-drop n b, t, l) in
    let e : b ≡ take n b ++ drop n b = sym (take-append-drop n b) in
    let z : drop n b ≡ replicate (size - length (take n b)) 0 = zeros_are (drop n b) q.1 ∙ ap (λ (x : ℕ). replicate x 0) d in
    (k, (q.0, (t, e ∙ ap (λ (x : List ℕ). take n b ++ x) z)))

-- a made text is the text of its bytes
pub made_is : (t : CommandString) → length t.bytes ≡ 51 → made_text t ≡ true → text_of (bytes_in t) ≡ t
made_is t l h = let s = made-stands 51 51 t.len t.bytes h l (omega arith) in rw (← s.1.1.1, s.1.1.0)

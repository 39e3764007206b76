-- The input's name put and kept. Assumes nothing.
use Prim.Native.Nat.{ℕ, ◌+◌, ◌-◌, ◌≤◌}
use mathlib.Core.List.{List, [], ◌++◌, append_assoc}
use mathlib.Core.Path.{◌≡◌, refl, ap, sym, ◌∙◌}
use native.Mathlib.Omega.{arith}
use borrow.Rule.Slice.PartMut.{post_of, put_mid, take_put}
use lib.ListN.{length, take, drop, length-append}
use lib.Seq.{sets, sets-eq, length-sets, length-take-le, take-append_seam}
use Rattle.codec.specs.Writing.{put_at}
use Rattle.codec.proofs.Writes.{put-start, put_on}
use Rattle.std.specs.Prelude.{Some, Result, Ok, Err}
use Rattle.console.specs.Names.{colon, name_of, Named, NamedIn, PutsName, Sized}
use Rattle.console.specs.declared.Opened.{Opened}
use Rattle.console.specs.declared.Said.{Said}

-- ---- the name put
name_length : (program what : List ℕ) → length (name_of program what) ≡ length program + (2 + length what)
name_length program what = omega (arith, length-append program (colon ++ what))

pub name_put : (program what t t₁ t₂ t₃ : List ℕ) → length program + (2 + length what) ≤ length t → t₁ ≡ put_at t 0 program
    → t₂ ≡ put_at t₁ (length program) colon → t₃ ≡ put_at t₂ (length program + 2) what
    → PutsName (name_of program what) (Some (length program + 2 + length what)) t t₃
name_put program what t t₁ t₂ t₃ h e₁ e₂ e₃ =
    let l = name_length program what in
    let s₁ : t₁ ≡ sets t 0 program = put-start t t₁ program (omega arith) e₁ in
    let s₂ : t₂ ≡ sets t 0 (program ++ colon) = put_on t t₁ t₂ program colon (length program) s₁ e₂ refl (omega arith) in
    let n : length program + 2 ≡ length (program ++ colon) = sym (length-append program colon) in
    let s₃ : t₃ ≡ sets t 0 ((program ++ colon) ++ what) =
    put_on t t₂ t₃ (program ++ colon) what (length program + 2) s₂ e₃ n (omega arith) in
    (omega arith, (omega arith, s₃ ∙ ap (λ (w : List ℕ). sets t 0 w) (append_assoc program colon what)))

-- what was put begins with the program's name
take_name : (program what t : List ℕ) → length (name_of program what) ≤ length t
    → take (length (name_of program [])) (sets t 0 (name_of program what)) ≡ name_of program []
take_name program what t h =
    let rest = drop (0 + length (name_of program what)) t in
    let e : sets t 0 (name_of program what) ≡ (program ++ colon) ++ (what ++ rest) = sets-eq (name_of program what) t 0 (omega arith)
    ∙ ap (λ (w : List ℕ). w ++ rest) (sym (append_assoc program colon what))
    ∙ append_assoc (program ++ colon) what rest in
    ap (λ (w : List ℕ). take (length (program ++ colon)) w) e ∙ take-append_seam (program ++ colon) (what ++ rest)

module _ (program what t t' : List ℕ) (k : ℕ) (put : PutsName (name_of program what) (Some k) t t') where
  pub put-named : Named program k t'
  put-named =
      let l : length t' ≡ length t = ap length put.1.1 ∙ length-sets t 0 (name_of program what) in
      let f : k ≤ length t = omega (arith, put.1.0) in
      let e : k ≡ length (name_of program what) = put.0 in record {
        fits = omega arith;
        begins = ap (λ (x : List ℕ). take (length (name_of program [])) x) put.1.1 ∙ take_name program what t (omega arith);
        rest = omega (arith, name_length program what, name_length program []);
      }

-- an argument behind it, and all else as it was before it
pub argument_named : (program t t' : List ℕ) (k : ℕ) → PutsName (name_of program []) (Some k) t t'
    → (n : ℕ) (s : List ℕ) → n ≤ length s → Named program (k + n) (put_mid k (length t' - k) t' s)
argument_named program t t' k put n s h =
    let e : k ≡ length (name_of program []) = put.0 in
    let named = put-named program [] t t' k put in
    let after = post_of k (length t' - k) t' in record {
      fits = omega (arith, length-append (take k t') (s ++ after), length-append s after, length-take-le k t' named.fits);
      begins = ap (λ (i : ℕ). take i (put_mid k (length t' - k) t' s)) (sym e)
          ∙ take_put k (length t' - k) t' s named.fits
          ∙ ap (λ (i : ℕ). take i t') e
          ∙ named.begins;
      rest = omega arith;
    }

-- an input that was opened by all of a name
pub sized_named : {program t : List ℕ} {n : ℕ} (r : Result Opened Said) → Named program n t → Sized n r → NamedIn program r t
sized_named (Ok input) h e = rw e h
sized_named (Err said) h e = tt

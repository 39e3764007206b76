-- The check after some bytes of a message changed. Assumes nothing.
use mathlib.Core.Path.{◌≡◌, refl, sym, ap, ap₂, ◌∙◌}
use mathlib.Core.List.{List, [], ◌∷◌, ◌++◌}
use Prim.Native.Nat.{ℕ, suc, ◌<◌}
use lib.Bits.{xor_comm, xor_lt, xor_self, xor_zero_r}
use lib.Dec.{lit<}
use lib.ListN.{length, replicate}
use Rattle.crc.specs.Polynomial.{plus, Degree8}
use Rattle.crc.specs.Check.{command_polynomial, Bytes, check_of, check_from}
use Rattle.crc.specs.Steps.{steps}
use Rattle.crc.proofs.Xor.{xor_assoc, xor_swap}
use Rattle.crc.proofs.Worked.{steps_low}
use Rattle.crc.proofs.Laws.{bytes_append, from_zero, check-low, check_none, check-next, check_append, command}
use Rattle.crc.proofs.Zeros.{steps-sum, bytes-zeros}

module _ {g : ℕ} (d : Degree8 g) where
  -- what is added to a start goes on by itself, as before bytes 00
  check-sum : (s t : ℕ) (bs : List ℕ) → s < 256 → t < 256 → Bytes bs
      → check_from g (plus s t) bs ≡ plus (check_from g s bs) (check_from g t (replicate (length bs) 0))
  check-sum s t [] hs ht hb = check_none d (plus s t) (xor_lt 8 s t hs ht) ∙ sym (ap₂ plus (check_none d s hs) (check_none d t ht))
  check-sum s t (b ∷ bs) hs ht (hb, hbs) =
      let u : ℕ = steps g 8 (plus s b) in
      let v : ℕ = steps g 8 t in
      let e : plus (plus s t) b ≡ plus (plus s b) t = xor_assoc s t b ∙ ap (plus s) (xor_comm t b) ∙ sym (xor_assoc s b t) in
      let l : plus s b < 256 = xor_lt 8 s b hs hb in
      check-next d (plus s t) b bs (xor_lt 8 s t hs ht) hb hbs
      ∙ ap (λ (y : ℕ). check_from g y bs) (ap (steps g 8) e ∙ steps-sum d 8 (plus s b) t l ht)
      ∙ check-sum u v bs (steps_low d 8 (plus s b) l) (steps_low d 8 t ht) hbs
      ∙ sym (ap₂ plus (check-next d s b bs hs hb hbs)
      (check-next d t 0 (replicate (length bs) 0) ht (lit< tt) (bytes-zeros (length bs))
      ∙ ap (λ (y : ℕ). check_from g (steps g 8 y) (replicate (length bs) 0)) (xor_zero_r t)))

  -- bytes a became b: the check changes by the sum of their own checks, whatever came before them
  changed : (s : ℕ) (a b : List ℕ) → s < 256 → Bytes a → Bytes b → length a ≡ length b
      → check_from g s b ≡ plus (check_from g s a) (plus (check_from g 0 a) (check_from g 0 b))
  changed s a b hs ha hb e =
      let z : ℕ = check_from g s (replicate (length a) 0) in
      let p : ℕ = check_from g 0 a in
      let q : ℕ = check_from g 0 b in
      let from : (c : List ℕ) → Bytes c → length a ≡ length c → check_from g s c ≡ plus (check_from g 0 c) z =
      λ c hc l. check-sum 0 s c (lit< tt) hs hc ∙ ap (λ (n : ℕ). plus (check_from g 0 c) (check_from g s (replicate n 0))) (sym l) in
      from b hb e
      ∙ xor_comm q z
      ∙ sym (ap (λ (y : ℕ). plus y (plus p q)) (from a ha refl) ∙ xor_swap p z p q ∙ ap (λ (y : ℕ). plus y (plus z q)) (xor_self p))

-- the bytes a of a message became b
pub check_renewed : (hd a b post : List ℕ) → Bytes hd → Bytes a → Bytes b → Bytes post → length a ≡ length b
    → check_of command_polynomial (hd ++ (b ++ post))
    ≡ plus (check_of command_polynomial (hd ++ (a ++ post)))
    (check_from command_polynomial (plus (check_from command_polynomial 0 a) (check_from command_polynomial 0 b)) (replicate (length post) 0))
check_renewed hd a b post hh ha hb hp e =
    let f : ℕ → List ℕ → ℕ = check_from command_polynomial in
    let low : (s : ℕ) (c : List ℕ) → f s c < 256 = check-low command in
    let parts : (c : List ℕ) → Bytes c → check_of command_polynomial (hd ++ (c ++ post)) ≡ f (f (f 0 hd) c) post =
    λ c hc. sym (from_zero command_polynomial (hd ++ (c ++ post)))
    ∙ check_append command 0 hd (c ++ post) (lit< tt) hh (bytes_append c post hc hp)
    ∙ check_append command (f 0 hd) c post (low 0 hd) hc hp in
    parts b hb
    ∙ ap (λ (y : ℕ). f y post) (changed command (f 0 hd) a b (low 0 hd) ha hb e)
    ∙ check-sum command (f (f 0 hd) a) (plus (f 0 a) (f 0 b)) post (low (f 0 hd) a) (xor_lt 8 (f 0 a) (f 0 b) (low 0 a) (low 0 b)) hp
    ∙ ap (λ (y : ℕ). plus y (f (plus (f 0 a) (f 0 b)) (replicate (length post) 0))) (sym (parts a ha))

-- one byte of a message became another: their sum is the start of one byte 00 more
pub byte_renewed : (a b n : ℕ) → a < 256 → b < 256
    → check_from command_polynomial (plus (check_from command_polynomial 0 (a ∷ [])) (check_from command_polynomial 0 (b ∷ []))) (replicate n 0)
    ≡ check_from command_polynomial (plus a b) (replicate (suc n) 0)
byte_renewed a b n ha hb =
    let f : ℕ → List ℕ → ℕ = check_from command_polynomial in
    let own : (c : ℕ) → c < 256 → f 0 (c ∷ []) ≡ steps command_polynomial 8 c =
    λ c hc. check-next command 0 c [] (lit< tt) hc tt
    ∙ ap (λ (y : ℕ). f (steps command_polynomial 8 y) []) (xor_comm 0 c ∙ xor_zero_r c)
    ∙ check_none command (steps command_polynomial 8 c) (steps_low command 8 c hc) in
    ap (λ (y : ℕ). f y (replicate n 0)) (ap₂ plus (own a ha) (own b hb) ∙ sym (steps-sum command 8 a b ha hb))
    ∙ sym (check-next command (plus a b) 0 (replicate n 0) (xor_lt 8 a b ha hb) (lit< tt) (bytes-zeros n)
    ∙ ap (λ (y : ℕ). f (steps command_polynomial 8 y) (replicate n 0)) (xor_zero_r (plus a b)))

-- Items taken one after the other, and judged in their order, are the items read. Assumes nothing.
--     Taken            items that were taken in a row from the front of some bytes, with what each answered
--     taken_reads      their answers in turn are what reading the items gives
--     item_got         the items behind one that was taken are read from the bytes still to come
--     item_not         one that was refused ends them
--     body_taken       a sub-command taken, and its row's items read from the bytes still to come: the body read
use Prim.Native.Nat.{ℕ, ◌+◌}
use mathlib.Core.Path.{◌≡◌, refl, ap, sym, ◌∙◌}
use mathlib.Core.List.{List, [], ◌∷◌}
use native.Mathlib.Nat.{add_assoc, add-zero, zero-add}
use lib.ListN.{drop}
use lib.Seq.{drop-drop}
use lib.Dec.{eqb}
use Rattle.codec.specs.Pick.{pick}
use Rattle.codec.specs.Sheet.{Item, Row, row, said, Answer, got, refused, and_then, byte, size_of, first}
use Rattle.codec.specs.Reading.{read_item, read_items, read_row, read_body}
use Rattle.codec.specs.Taking.{behind_item, Takes, in_turn, read_behind}

-- where an item was got, what is left is what stands behind it
pub data Taken : List Item → List (Answer (List ℕ)) → List ℕ → Type 0 where
  none : {s : List ℕ} → Taken [] [] s
  after : {i : Item} {is : List Item} {a : Answer (List ℕ)} {more : List (Answer (List ℕ))} {s s' : List ℕ}
      → a ≡ read_item i s → ((v : List ℕ) → a ≡ got v → s' ≡ drop (size_of i v) s) → Taken is more s'
      → Taken (i ∷ is) (a ∷ more) s

pub next : {i : Item} {is : List Item} {a : Answer (List ℕ)} {more : List (Answer (List ℕ))} {s s' : List ℕ}
    → Takes i a s s' → Taken is more s' → Taken (i ∷ is) (a ∷ more) s
next {i} {is} {a} {more} {s} t u = after t.0 (λ v e. t.1 ∙ ap (λ (x : Answer (List ℕ)). behind_item i x s) e) u

then_same : {A B : Type 0} (a : Answer A) (f g : A → Answer B) → ((x : A) → f x ≡ g x) → and_then a f ≡ and_then a g
then_same (got x) f g h = h x
then_same (refused n p) f g h = refl

-- reading from a place of what is behind another
read_from : (is : List Item) (s : List ℕ) (k at : ℕ) → read_items is (drop k s) at ≡ read_items is s (k + at)
read_from [] s k at = refl
read_from (i ∷ is) s k at =
    ap (λ (l : List ℕ). and_then (read_item i l) (λ v. and_then (read_items is (drop k s) (at + size_of i v)) (λ vs. got (v ∷ vs)))) (drop-drop at k s)
    ∙ then_same (read_item i (drop (k + at) s)) _ _
    (λ v. ap (λ (x : Answer (List (List ℕ))). and_then x (λ vs. got (v ∷ vs)))
    (read_from is s k (at + size_of i v) ∙ ap (read_items is s) (sym (add_assoc k at (size_of i v)))))

pub read_behind_lem : (is : List Item) (s : List ℕ) (k : ℕ) → read_items is (drop k s) 0 ≡ read_items is s k
read_behind_lem is s k = read_from is s k 0 ∙ ap (read_items is s) (add-zero k)

next-reads : (i : Item) (is : List Item) (a : Answer (List ℕ)) (b : Answer (List (List ℕ))) (s s' : List ℕ)
    → ((v : List ℕ) → a ≡ got v → s' ≡ drop (size_of i v) s) → b ≡ read_items is s' 0
    → and_then a (λ v. and_then b (λ vs. got (v ∷ vs))) ≡ and_then a (λ v. and_then (read_items is s (0 + size_of i v)) (λ vs. got (v ∷ vs)))
next-reads i is (got v) b s s' e f =
    ap (λ (x : Answer (List (List ℕ))). and_then x (λ vs. got (v ∷ vs)))
    (f ∙ ap (λ (l : List ℕ). read_items is l 0) (e v refl) ∙ read_behind_lem is s (size_of i v) ∙ ap (read_items is s) (sym (zero-add (size_of i v))))
next-reads i is (refused n p) b s s' e f = refl

pub taken_reads : {is : List Item} {more : List (Answer (List ℕ))} {s : List ℕ} → Taken is more s → in_turn more ≡ read_items is s 0
taken_reads none = refl
taken_reads (after {i} {is} {a} {more} {s} {s'} t f u) =
    next-reads i is a (in_turn more) s s' f (taken_reads u)
    ∙ ap (λ (x : Answer (List ℕ)). and_then x (λ v. and_then (read_items is s (0 + size_of i v)) (λ vs. got (v ∷ vs))))
    t

pub item_got : (i : Item) (is : List Item) (v s s' : List ℕ) → Takes i (got v) s s' → read_items (i ∷ is) s 0 ≡ and_then (read_items is s' 0) (λ vs. got (v ∷ vs))
item_got i is v s s' t =
    ap (λ (x : Answer (List ℕ)). and_then x (λ w. and_then (read_items is s (0 + size_of i w)) (λ vs. got (w ∷ vs)))) (sym t.0)
    ∙ sym (next-reads i is (got v) (read_items is s' 0) s s' (λ w e. t.1 ∙ ap (λ (x : Answer (List ℕ)). behind_item i x s) e) refl)

pub item_not : (i : Item) (is : List Item) (n p : ℕ) (s : List ℕ) → refused n p ≡ read_item i s → read_items (i ∷ is) s 0 ≡ refused n p
item_not i is n p s e = ap (λ (x : Answer (List ℕ)). and_then x (λ w. and_then (read_items is s (0 + size_of i w)) (λ vs. got (w ∷ vs)))) (sym e)

row-behind : (rs : List Row) (s : List ℕ) (sub : ℕ) → read_behind rs (drop 1 s) sub ≡ read_row rs s sub
row-behind [] s sub = refl
row-behind (row k is ∷ rs) s sub =
    ap (λ (x : Answer (List (List ℕ))). pick (eqb sub k) (and_then x (λ vs. got (said k vs))) (read_behind rs (drop 1 s) sub)) (read_behind_lem is s 1)
    ∙ ap (pick (eqb sub k) (and_then (read_items is s 1) (λ vs. got (said k vs)))) (row-behind rs s sub)

body-by : (rs : List Row) (a : Answer (List ℕ)) (s s' : List ℕ) → s' ≡ behind_item byte a s
    → and_then a (λ v. read_behind rs s' (first v)) ≡ and_then a (λ v. read_row rs s (first v))
body-by rs (got v) s s' e = ap (λ (l : List ℕ). read_behind rs l (first v)) e ∙ row-behind rs s (first v)
body-by rs (refused n p) s s' e = refl

pub body_taken : (rs : List Row) (a : Answer (List ℕ)) (s s' : List ℕ) → Takes byte a s s' → and_then a (λ v. read_behind rs s' (first v)) ≡ read_body rs s
body_taken rs a s s' t = body-by rs a s s' t.1 ∙ ap (λ (x : Answer (List ℕ)). and_then x (λ v. read_row rs s (first v))) t.0

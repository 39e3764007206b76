-- Sheets read one after the other. Assumes nothing.
use Prim.Native.Nat.{ℕ, ◌+◌}
use mathlib.Core.List.{List, [], ◌∷◌, ◌++◌}
use mathlib.Core.Path.{◌≡◌, refl, ap, ◌∙◌}
use lib.ListN.{drop}
use Rattle.codec.specs.Sheet.{Item, size_of, Answer, got, refused, and_then}
use Rattle.codec.specs.Reading.{read_item, read_items, end_of}

again : (a : Answer (List (List ℕ))) → a ≡ and_then a (λ ys. got ys)
again (got x) = refl
again (refused n p) = refl

join_last : (v : List ℕ) (xs : List (List ℕ)) (a : Answer (List (List ℕ)))
    → and_then (and_then a (λ ys. got (xs ++ ys))) (λ vs. got (v ∷ vs)) ≡ and_then a (λ ys. got (v ∷ (xs ++ ys)))
join_last v xs (got x) = refl
join_last v xs (refused n p) = refl

join-next : (i : Item) (is js : List Item) (s : List ℕ) (at : ℕ) (v : List ℕ) (a : Answer (List (List ℕ)))
    → and_then (and_then a (λ xs. and_then (read_items js s (end_of is xs (at + size_of i v))) (λ ys. got (xs ++ ys)))) (λ vs. got (v ∷ vs))
    ≡ and_then (and_then a (λ vs. got (v ∷ vs))) (λ xs. and_then (read_items js s (end_of (i ∷ is) xs at)) (λ ys. got (xs ++ ys)))
join-next i is js s at v (got xs) = join_last v xs (read_items js s (end_of is xs (at + size_of i v)))
join-next i is js s at v (refused n p) = refl

join_by : (i : Item) (is js : List Item) (s : List ℕ) (at : ℕ) (a : Answer (List ℕ))
    → ((v : List ℕ) → read_items (is ++ js) s (at + size_of i v)
    ≡ and_then (read_items is s (at + size_of i v)) (λ xs. and_then (read_items js s (end_of is xs (at + size_of i v))) (λ ys. got (xs ++ ys))))
    → and_then a (λ v. and_then (read_items (is ++ js) s (at + size_of i v)) (λ vs. got (v ∷ vs)))
    ≡ and_then (and_then a (λ v. and_then (read_items is s (at + size_of i v)) (λ vs. got (v ∷ vs))))
    (λ xs. and_then (read_items js s (end_of (i ∷ is) xs at)) (λ ys. got (xs ++ ys)))
join_by i is js s at (got v) go =
    ap (λ (x : Answer (List (List ℕ))). and_then x (λ vs. got (v ∷ vs))) (go v) ∙ join-next i is js s at v (read_items is s (at + size_of i v))
join_by i is js s at (refused n p) go = refl

pub read_join : (is js : List Item) (s : List ℕ) (at : ℕ)
    → read_items (is ++ js) s at ≡ and_then (read_items is s at) (λ xs. and_then (read_items js s (end_of is xs at)) (λ ys. got (xs ++ ys)))
read_join [] js s at = again (read_items js s at)
read_join (i ∷ is) js s at = join_by i is js s at (read_item i (drop at s)) (λ v. read_join is js s (at + size_of i v))

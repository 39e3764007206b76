-- A popup from a place of some bytes on is the popup at the front of what stands there; so a popup is read behind its sub-command. Assumes nothing.
use Prim.Native.Nat.{ℕ, ◌+◌}
use mathlib.Core.List.{List, [], ◌∷◌, ◌++◌}
use mathlib.Core.Bool.{Bool}
use mathlib.Core.Path.{◌≡◌, refl, ap, sym, ◌∙◌}
use native.Mathlib.Nat.{add_assoc, add-zero}
use lib.ListN.{drop}
use lib.Seq.{drop-drop}
use lib.Dec.{eqb}
use Rattle.codec.specs.Pick.{pick}
use Rattle.codec.specs.Sheet.{Item, Answer, got, refused, and_then, byte, size_of, first}
use Rattle.codec.specs.Reading.{read_items, end_of, read_row}
use Rattle.codec.specs.Taking.{Takes}
use Rattle.codec.proofs.InRow.{read_behind_lem}
use Rattle.families.specs.declared.screen.ScreenAdditionalData.{ScreenAdditionalData}
use Rattle.families.specs.Sheets.{screen_rows}
use Rattle.families.specs.Popup.{head_items, more_items, values_items, Popup, popup, additional_of, remains, read_rest, read_more, read_popup}
use Rattle.families.specs.Screen.{returned, read_screen, started_by}

then_same : {A B : Type 0} (a : Answer A) (f g : A → Answer B) → ((x : A) → f x ≡ g x) → and_then a f ≡ and_then a g
then_same (got x) f g h = h x
then_same (refused n p) f g h = refl

items-behind : (is : List Item) (s : List ℕ) (k at : ℕ) → read_items is (drop k s) at ≡ read_items is s (k + at)
items-behind is s k at = sym (read_behind_lem is (drop k s) at) ∙ ap (λ (l : List ℕ). read_items is l 0) (drop-drop at k s) ∙ read_behind_lem is s (k + at)

end_behind : (is : List Item) (vs : List (List ℕ)) (k at : ℕ) → k + end_of is vs at ≡ end_of is vs (k + at)
end_behind [] vs k at = refl
end_behind (i ∷ is) [] k at = refl
end_behind (i ∷ is) (v ∷ vs) k at = end_behind is vs k (at + size_of i v) ∙ ap (end_of is vs) (sym (add_assoc k at (size_of i v)))

abbrev rest-by : ScreenAdditionalData → Bool → List (List ℕ) → List (List ℕ) → Answer (List (List ℕ)) → Answer Popup
rest-by kind p h m a = and_then a (λ v. got (popup kind p (h ++ (m ++ v))))

rest-behind : (s : List ℕ) (k : ℕ) (kind : ScreenAdditionalData) (h m : List (List ℕ)) (e : ℕ) → read_rest (drop k s) kind h m e ≡ read_rest s kind h m (k + e)
rest-behind s k kind h m e =
    ap (λ (l : List ℕ). rest-by kind (remains l) h m (read_items (values_items (remains l)) (drop k s) e)) (drop-drop e k s)
    ∙ ap (rest-by kind (remains (drop (k + e) s)) h m) (items-behind (values_items (remains (drop (k + e) s))) s k e)

more-behind : (s : List ℕ) (k : ℕ) (kind : ScreenAdditionalData) (h : List (List ℕ)) (b : ℕ) → read_more (drop k s) kind h b ≡ read_more s kind h (k + b)
more-behind s k kind h b =
    ap (λ (x : Answer (List (List ℕ))). and_then x (λ m. read_rest (drop k s) kind h m (end_of (more_items kind) m b))) (items-behind (more_items kind) s k b)
    ∙ then_same (read_items (more_items kind) s (k + b)) _ _ (λ m. rest-behind s k kind h m (end_of (more_items kind) m b)
    ∙ ap (read_rest s kind h m) (end_behind (more_items kind) m k b))

pub popup-behind : (s : List ℕ) (k : ℕ) → read_popup (drop k s) 0 ≡ read_popup s k
popup-behind s k =
    ap (λ (x : Answer (List (List ℕ))). and_then x
    (λ h. read_more (drop k s) (additional_of (drop (end_of head_items h 0) (drop k s))) h (end_of head_items h 0)))
    (read_behind_lem head_items s k)
    ∙ then_same (read_items head_items s k) _ _ (λ h.
    more-behind s k (additional_of (drop (end_of head_items h 0) (drop k s))) h (end_of head_items h 0)
    ∙ ap (λ (l : List ℕ). read_more s (additional_of l) h (k + end_of head_items h 0)) (drop-drop (end_of head_items h 0) k s)
    ∙ ap (λ (n : ℕ). read_more s (additional_of (drop n s)) h n) (end_behind head_items h k 0 ∙ ap (end_of head_items h) (add-zero k)))

pub start_taken : (s s' : List ℕ) → Takes byte (got (0x01 ∷ [])) s s' → read_screen s ≡ started_by (read_popup s' 0)
start_taken s s' t =
    ap (λ (x : Answer (List ℕ)). and_then x
    (λ v. pick (eqb (first v) 0x01) (started_by (read_popup s 1))
    (and_then (read_row screen_rows s (first v)) (λ b. got (returned b))))) (sym t.0)
    ∙ ap started_by (sym (ap (λ (l : List ℕ). read_popup l 0) t.1 ∙ popup-behind s 1))

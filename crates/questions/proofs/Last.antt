-- The state after any calls is fixed by the last accepted one alone: at most one question is open, and it is the popup last sent.
-- Assumes nothing.
use Prim.Native.Nat.{ℕ}
use mathlib.Core.List.{List, [], ◌∷◌}
use mathlib.Core.Path.{◌≡◌, refl, ap, ap₂, sym, subst, ◌∙◌}
use native.Mathlib.Omega.{arith}
use Rattle.codec.specs.Sheet.{Answer, got, refused}
use Rattle.families.specs.Fields.{inspect}
use Rattle.families.specs.declared.screen.ScreenPopup.{ScreenPopup}
use Rattle.families.specs.declared.screen.ScreenPopupFields.{ScreenPopupFields}
use Rattle.questions.specs.Table.{closed, «open», State, new_state, Call, asks, returns, neither, Told, opened, answer, fields_in, after, next, answers, state_after}
use Rattle.questions.specs.Last.{Last, none, last, if_accepted, later, last_accepted, leaves, Acceptable, AllRefused, LastOf}
use Rattle.questions.proofs.Accepted.{refused-got, asks-accepted, refused_stays}

-- ---- where the last accepted call stands, and the state that it leaves of the one before it
data Stands (s : State) (cs : List Call) : Type 0 where
  nowhere : last_accepted s cs ≡ none → AllRefused (answers s cs) → state_after s cs ≡ s → Stands s cs
  stands : (c : Call) (t : Told) → last_accepted s cs ≡ last c → LastOf s cs c t
      → (u : State) → answer u c ≡ got t → state_after s cs ≡ after u c (got t) → Stands s cs

module _ (s : State) (c : Call) (cs : List Call) where
  -- all behind c are refused
  stands-first : (a : Answer Told) → answer s c ≡ a → last_accepted (next s c) cs ≡ none → AllRefused (answers (next s c) cs)
      → state_after (next s c) cs ≡ next s c → Stands s (c ∷ cs)
  stands-first (refused n p) e l all stays =
      nowhere (ap₂ (λ (a : Answer Told) (m : Last). later (if_accepted c a) m) e l)
      (subst (λ (a : Answer Told). AllRefused (a ∷ answers (next s c) cs)) (sym e) all) (stays ∙ refused_stays s c n p e)
  stands-first (got t) e l all stays =
      stands c t (ap₂ (λ (a : Answer Told) (m : Last). later (if_accepted c a) m) e l) (record {
        before = [];
        behind = cs;
        refusals = answers (next s c) cs;
        calls = refl;
        told = ap (λ (a : Answer Told). a ∷ answers (next s c) cs) e;
        all-refused = all;
      }) s e (stays ∙ ap (after s c) e)

  -- it stands behind c
  stands_then : Stands (next s c) cs → Stands s (c ∷ cs)
  stands_then (nowhere l all stays) = stands-first (answer s c) refl l all stays
  stands_then (stands d t l i u e stays) =
      stands d t (ap (later (if_accepted c (answer s c))) l) (record {
        before = c ∷ i.before;
        behind = i.behind;
        refusals = i.refusals;
        calls = ap (λ (ds : List Call). c ∷ ds) i.calls;
        told = ap (λ (xs : List (Answer Told)). answer s c ∷ xs) i.told;
        all-refused = i.all-refused;
      }) u e stays

stands_in : (cs : List Call) (s : State) → Stands s cs
stands_in [] s = nowhere refl tt refl
stands_in (c ∷ cs) s = stands_then s c cs (stands_in cs (next s c))

-- the last accepted call is what its name says
pub last-stands : (cs : List Call) (s : State) (c : Call) → last_accepted s cs ≡ last c → (t : Told) × LastOf s cs c t
last-stands cs s c h = by (stands_in cs s)
  where
    by : Stands s cs → (t : Told) × LastOf s cs c t
    by (nowhere l all stays) = let z : ◌≡◌ {A = ℕ} 0 1 = cc in absurd (omega arith)
    by (stands d t l i u e stays) = let f : d ≡ c = cc in (t, subst (λ (b : Call). LastOf s cs b t) f i)

-- ---- THE law: no accepted call leaves the state as it was, a popup that was sent a question that is open, a returned value none
fixed_by : (s u : State) (c : Call) (t : Told) → answer u c ≡ got t → (after u c (got t) ≡ leaves s (last c)) × Acceptable (last c)
fixed_by s u (asks second popup) t e = (refl, (asks-accepted u second popup t e).0)
fixed_by s u (returns second value response) t e = (refl, tt)
fixed_by s u neither t e = refused-got 2 0 t e

pub last_fixes : (cs : List Call) (s : State) → (state_after s cs ≡ leaves s (last_accepted s cs)) × Acceptable (last_accepted s cs)
last_fixes cs s = by (stands_in cs s)
  where
    by : Stands s cs → (state_after s cs ≡ leaves s (last_accepted s cs)) × Acceptable (last_accepted s cs)
    by (nowhere l all stays) = (stays ∙ ap (leaves s) (sym l), subst Acceptable (sym l) tt)
    by (stands c t l i u e stays) =
        let h = fixed_by s u c t e in (stays ∙ h.0 ∙ ap (leaves s) (sym l), subst Acceptable (sym l) h.1)

-- from a new state: any calls with the same last accepted one leave the same
pub same-last : (cs ds : List Call) → last_accepted new_state cs ≡ last_accepted new_state ds → state_after new_state cs ≡ state_after new_state ds
same-last cs ds e = (last_fixes cs new_state).0 ∙ ap (leaves new_state) e ∙ sym (last_fixes ds new_state).0

-- ---- an open question: its popup was sent by one of the calls, which was answered `opened`, and behind it all were refused
closed_open : {P : Type 0} (f : ScreenPopupFields) (sent : ℕ) → closed ≡ «open» f sent → P
closed_open f sent e = let z : ◌≡◌ {A = ℕ} 0 1 = cc in absurd (omega arith)

pub open_sent : (cs : List Call) (f : ScreenPopupFields) (sent : ℕ) → (state_after new_state cs).asked ≡ «open» f sent
    → (popup : ScreenPopup) × ((inspect popup ≡ got f) × LastOf new_state cs (asks sent popup) opened)
open_sent cs f sent h = by (stands_in cs new_state)
  where
    by : Stands new_state cs → (popup : ScreenPopup) × ((inspect popup ≡ got f) × LastOf new_state cs (asks sent popup) opened)
    by (nowhere l all stays) = closed_open f sent (sym (ap (λ (s : State). s.asked) stays) ∙ h)
    by (stands neither t l i u e stays) = refused-got 2 0 t e
    by (stands (returns second value response) t l i u e stays) = closed_open f sent (sym (ap (λ (s : State). s.asked) stays) ∙ h)
    by (stands (asks second popup) t l i u e stays) =
        let k = asks-accepted u second popup t e in
        let o : «open» (fields_in popup) second ≡ «open» f sent = sym (ap (λ (s : State). s.asked) stays) ∙ h in
        let fields : fields_in popup ≡ f = cc in
        let at : second ≡ sent = cc in (
          popup,
          (
            k.0 ∙ ap got fields,
            subst (λ (n : ℕ). LastOf new_state cs (asks n popup) opened) at
                (subst (λ (v : Told). LastOf new_state cs (asks second popup) v) k.1 i),
          ),
        )

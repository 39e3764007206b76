-- Any two answers that a public function's contract allows coincide. `Post` is the contract as the check reads it from the source, and no
-- copy of it. Assumes nothing.
use Rattle.std.specs.Prelude.{Option, Some, None, Result, Ok, Err}
use Prim.Native.Nat.{ℕ}
use mathlib.Core.Path.{◌≡◌, refl, ap, sym, ◌∙◌}
use contract.Lifetimes.{Lfts}
use borrow.Fn.Kinds.{Dens, res_t, ended_of}
use denote.Triple.Clauses.{AtExit}
use lib.Dec.{eqb}
use Rattle.codec.specs.Pick.{pick}
use Rattle.codec.specs.Sheet.{Answer, got, refused}
use Rattle.blocks.specs.Walk.{damage_number, Opening, opening, told_judged, Standing, standing, told_walked}
use Rattle.blocks.specs.declared.Damage.{Damage}
use Rattle.blocks.specs.declared.Damage.TheVariants.{NotABlock, BlockCheck, BlockLayout}
use Rattle.blocks.specs.declared.Sound.{Sound}
use Rattle.blocks.specs.declared.Record.{Record}
use Rattle.blocks.proofs.U8FromDamage.from.Reads as number
use Rattle.blocks.proofs.U8FromDamage.from.Kinds as number-kinds
use Rattle.blocks.proofs.judge.Reads as judge
use Rattle.blocks.proofs.judge.Kinds as judge-kinds
use Rattle.blocks.proofs.record_at.Reads as record-at
use Rattle.blocks.proofs.record_at.Kinds as record-at-kinds

-- what is told fixes the answer
abbrev damage_of : ℕ → Damage
damage_of n = pick (eqb n 1) NotABlock (pick (eqb n 9) BlockCheck BlockLayout)

damage_back : (d : Damage) → damage_of (damage_number d) ≡ d
damage_back NotABlock = refl
damage_back BlockCheck = refl
damage_back BlockLayout = refl

judged_told : Answer Opening → Result Sound Damage
judged_told (got (opening n first)) = Ok (record { number = n; first = first })
judged_told (refused n p) = Err (damage_of n)

judged-told : (x : Result Sound Damage) → judged_told (told_judged x) ≡ x
unfolding judged_told
judged-told (Ok s) = refl
judged-told (Err d) = ap Err (damage_back d)

walked_told : Answer Standing → Option Record
walked_told (got (standing n end next)) = Some (record { number = n; end = end; next = next })
walked_told (refused n p) = None

walked-told : (x : Option Record) → walked_told (told_walked x) ≡ x
unfolding walked_told
walked-told (Some r) = refl
walked-told None = refl

pub number_one : (κs : Lfts 0) (a : Dens κs number-kinds.ps) (x y : (res_t number-kinds.r κs).Denot)
    (s t : AtExit (ended_of 0 number-kinds.ps number-kinds.r) κs)
    → number.Post κs a x s → number.Post κs a y t → x ≡ y
number_one κs a x y s t p q = p ∙ sym q

pub judge_one : (κs : Lfts 1) (a : Dens κs judge-kinds.ps) (x y : (res_t judge-kinds.r κs).Denot)
    (s t : AtExit (ended_of 1 judge-kinds.ps judge-kinds.r) κs)
    → judge.Post κs a x s → judge.Post κs a y t → x ≡ y
judge_one κs a x y s t p q = sym (judged-told x) ∙ ap judged_told (p ∙ sym q) ∙ judged-told y

pub record_at_one : (κs : Lfts 1) (a : Dens κs record-at-kinds.ps) (x y : (res_t record-at-kinds.r κs).Denot)
    (s t : AtExit (ended_of 1 record-at-kinds.ps record-at-kinds.r) κs)
    → record-at.Post κs a x s → record-at.Post κs a y t → x ≡ y
record_at_one κs a x y s t p q = sym (walked-told x) ∙ ap walked_told (p ∙ sym q) ∙ walked-told y

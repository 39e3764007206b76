-- The last accepted call, and what it leaves: "The box keeps at most one open question, the popup last sent". Assumes nothing.
use Rattle.std.specs.Prelude.{List, [], ◌∷◌, ◌++◌, ◌≡◌}
use Rattle.codec.specs.Sheet.{Answer, got, refused}
use Rattle.families.specs.Fields.{inspect}
use Rattle.questions.specs.Table.{closed, «open», accepted, State, Call, asks, returns, neither, Told, answer, fields_in, next, answers}

pub data Last : Type 0 where
  none : Last
  last : Call → Last

-- this call, if it is accepted
abbrev pub if_accepted : Call → Answer Told → Last
if_accepted c (got t) = last c
if_accepted c (refused n p) = none

-- the second of the two, if it is one
abbrev pub later : Last → Last → Last
later l none = l
later l (last c) = last c

abbrev pub last_accepted : State → List Call → Last
last_accepted s [] = none
last_accepted s (c ∷ cs) = later (if_accepted c (answer s c)) (last_accepted (next s c) cs)

-- the state that it leaves, whatever came before it; where there is none, the state is as it was
abbrev pub leaves : State → Last → State
leaves s none = s
leaves s (last (asks second popup)) = record { clock = accepted second; asked = «open» (fields_in popup) second }
leaves s (last (returns second value response)) = record { clock = accepted second; asked = closed }
leaves s (last neither) = s

-- a popup that was accepted is made, and a command that is neither was not
abbrev pub Acceptable : Last → Type 0
Acceptable none = Unit {0}
Acceptable (last (asks second popup)) = inspect popup ≡ got (fields_in popup)
Acceptable (last (returns second value response)) = Unit {0}
Acceptable (last neither) = ⊥

abbrev pub AllRefused : List (Answer Told) → Type 0
AllRefused [] = Unit {0}
AllRefused (got t ∷ xs) = ⊥
AllRefused (refused n p ∷ xs) = AllRefused xs

-- c is one of the calls and was answered t, and every call behind it was refused
pub record LastOf (s : State) (cs : List Call) (c : Call) (t : Told) : Type 0 where
  pub before : List Call
  pub behind : List Call
  pub refusals : List (Answer Told)
  pub calls : cs ≡ before ++ c ∷ behind
  pub told : answers s cs ≡ answers s before ++ got t ∷ refusals
  pub all-refused : AllRefused refusals

-- From commands to a log and back: commands that the writer accepts, laid out in blocks as far as they fit, are handed on as they were, in
-- order, each with its block and its place, and nothing else is told. Assumes nothing.
use Prim.Native.Nat.{ℕ, zero, suc, ◌+◌, ◌-◌, ◌<◌, ◌≤◌}
use mathlib.Core.Bool.{Bool, true, false}
use mathlib.Core.List.{List, [], ◌∷◌, ◌++◌, map, append-nil}
use mathlib.Core.Path.{◌≡◌, refl, ap, ap₂, ◌∙◌}
use native.Mathlib.Omega.{arith}
use borrow.Author.Tests.{ltb-true, ltb-false, leb-true, le-leb, eq-eqb}
use lib.ListN.{length, length-append}
use lib.Dec.{ltb, leb, eqb}
use Rattle.codec.specs.Pick.{pick}
use Rattle.codec.specs.Sheet.{Answer, got, refused}
use Rattle.commands.specs.Reading.{read_command}
use Rattle.commands.specs.Writing.{payload_of, stop_writing}
use Rattle.commands.specs.declared.DirectCommands.{DirectCommands}
use Rattle.commands.proofs.Back.{Typed, written_back}
use Rattle.commands.proofs.Known.{read_short, read_long}
use Rattle.blocks.specs.Block.{most_used, first_place, block_number, Record, records_of}
use Rattle.blocks.specs.Laid.{laid_records, placed_from, Holds, AllHold}
use Rattle.blocks.proofs.Laid.{laid-sound, laid-number}
use Rattle.replay.specs.Events.{record_event, gap_event, back_event}
use Rattle.replay.specs.Log.{handed, Before, none, after, ordered, record_events, block_events, before_next, events_of, log_events}
use Rattle.replay.specs.Written.{record_size, fitting, block_with, command_events, log_with, log_commands, left_over, shared_out, log_of, commands_in}
use Rattle.replay.specs.declared.Event.{Event}

-- what the writer accepts
abbrev pub Accepted : DirectCommands → Type 0
Accepted c = Typed c × (stop_writing c 60 ≡ 0)

abbrev pub AllAccepted : List DirectCommands → Type 0
AllAccepted [] = Unit {0}
AllAccepted (c ∷ cs) = Accepted c × AllAccepted cs

abbrev pub AllIn : List (List DirectCommands) → Type 0
AllIn [] = Unit {0}
AllIn (cs ∷ css) = AllAccepted cs × AllIn css

reads : (c : DirectCommands) → Accepted c → read_command (payload_of c) ≡ got c
reads c a = written_back c 60 a.0 a.1

-- ---- a record can hold it: what has another length doesn't read
not-refused : (a : Answer DirectCommands) (c : DirectCommands) → a ≡ got c → a ≡ refused 1 0 → ⊥
not-refused a c e f = let z : ◌≡◌ {A = ℕ} 0 1 = cc in omega arith

holds : (c : DirectCommands) → Accepted c → Holds (payload_of c)
holds c a = (least (ltb (length (payload_of c)) 4) refl, most (ltb 60 (length (payload_of c))) refl)
  where
    least : (t : Bool) → ltb (length (payload_of c)) 4 ≡ t → 4 ≤ length (payload_of c)
    least false e = ltb-false (length (payload_of c)) 4 e
    least true e =
        absurd (not-refused (read_command (payload_of c)) c (reads c a) (read_short (payload_of c) (ltb-true (length (payload_of c)) 4 e)))

    most : (t : Bool) → ltb 60 (length (payload_of c)) ≡ t → length (payload_of c) ≤ 60
    most false e = ltb-false 60 (length (payload_of c)) e
    most true e =
        absurd (not-refused (read_command (payload_of c)) c (reads c a) (read_long (payload_of c) (ltb-true 60 (length (payload_of c)) e)))

all_hold : (cs : List DirectCommands) → AllAccepted cs → AllHold (map payload_of cs)
all_hold [] h = tt
all_hold (c ∷ cs) h = (holds c h.0, all_hold cs h.1)

-- ---- what fits is accepted, and fits
fitting-accepted : (room : ℕ) (cs : List DirectCommands) → AllAccepted cs → AllAccepted (fitting room cs)
fitting-accepted room [] h = tt
fitting-accepted room (c ∷ cs) h = by (leb (record_size c) room) (fitting-accepted (room - record_size c) cs h.1)
  where
    by : (t : Bool) → AllAccepted (fitting (room - record_size c) cs) → AllAccepted (pick t (c ∷ fitting (room - record_size c) cs) [])
    by true k = (h.0, k)
    by false k = tt

fitting_hold : (room : ℕ) (cs : List DirectCommands) → AllAccepted cs → AllHold (map payload_of (fitting room cs))
fitting_hold room cs h = all_hold (fitting room cs) (fitting-accepted room cs h)

pub fitting-fits : (room : ℕ) (cs : List DirectCommands) → length (laid_records (map payload_of (fitting room cs))) ≤ room
fitting-fits room [] = omega arith
fitting-fits room (c ∷ cs) = by (leb (record_size c) room) refl (fitting-fits (room - record_size c) cs)
  where
    by : (t : Bool) → leb (record_size c) room ≡ t
        → length (laid_records (map payload_of (fitting (room - record_size c) cs))) ≤ room - record_size c
        → length (laid_records (map payload_of (pick t (c ∷ fitting (room - record_size c) cs) []))) ≤ room
    by false e k = omega arith
    by true e k =
        let l = leb-true (record_size c) room e in
        let s = length-append (payload_of c) (laid_records (map payload_of (fitting (room - record_size c) cs))) in
        omega arith

-- ---- the records of accepted payloads are handed on as their commands
handed-on : (n at : ℕ) (cs : List DirectCommands) → AllAccepted cs → record_events n (placed_from at (map payload_of cs)) ≡ command_events n at cs
handed-on n at [] h = refl
handed-on n at (c ∷ cs) h =
    ap₂ (λ (a : Answer DirectCommands) (es : List Event). record_event n at a ∷ es) (reads c h.0)
    (handed-on n (at + record_size c) cs h.1)

-- "exactly one above that of the sound block before it"
in_order : (n : ℕ) → ordered (after n) (n + 1) ≡ []
in_order n = by (eqb (n + 1) (n + 1)) (eq-eqb (n + 1) (n + 1) refl)
  where
    by : (t : Bool) → t ≡ true → pick t [] (pick (ltb n (n + 1)) (gap_event (n + 1) ∷ []) (back_event (n + 1) ∷ [])) ≡ []
    by true e = refl
    by false e = let z : ◌≡◌ {A = ℕ} 0 1 = cc in absurd (omega arith)

-- ---- the block is sound, of that number, and has just these payloads
pub written-sound : (n : ℕ) (cs : List DirectCommands) → n < 4294967296 → AllAccepted cs
    → records_of (block_with n cs) ≡ got (placed_from first_place (map payload_of (fitting most_used cs)))
written-sound n cs l h =
    laid-sound n (map payload_of (fitting most_used cs)) l (fitting_hold most_used cs h) (fitting-fits most_used cs)

pub written-number : (n : ℕ) (cs : List DirectCommands) → n < 4294967296 → AllAccepted cs → block_number (block_with n cs) ≡ n
written-number n cs l h =
    laid-number n (map payload_of (fitting most_used cs)) l (fitting_hold most_used cs h) (fitting-fits most_used cs)

-- ---- blocks numbered one above the other, behind one that the first is in order with
written_log : (css : List (List DirectCommands)) (l : Before) (position n : ℕ) → ordered l n ≡ [] → n + length css ≤ 4294967296 → AllIn css
    → events_of l (log_with position n css) ≡ log_commands n css
written_log [] l position n o m h = refl
written_log (cs ∷ css) l position n o m h =
    let ps = map payload_of (fitting most_used cs) in
    let next = log_with (position + 1) (n + 1) css in
    ap₂ (λ (k : ℕ) (a : Answer (List Record)). block_events l position k a ++ events_of (before_next l k a) next)
    (written-number n cs (omega arith) h.0) (written-sound n cs (omega arith) h.0)
    ∙ ap (λ (es : List Event). (es ++ record_events n (placed_from first_place ps)) ++ events_of (after n) next) o
    ∙ ap₂ (λ (es fs : List Event). es ++ fs) (handed-on n first_place (fitting most_used cs) (fitting-accepted most_used cs h.0))
    (written_log css (after n) (position + 1) (n + 1) (in_order n) (omega arith) h.1)

-- THE law, of a log of such blocks
pub log_back : (css : List (List DirectCommands)) (position n : ℕ) → n + length css ≤ 4294967296 → AllIn css
    → log_events (log_with position n css) ≡ log_commands n css
log_back css position n m h = written_log css none position n refl m h

-- and of one block
pub block_back : (cs : List DirectCommands) (position n : ℕ) → n < 4294967296 → AllAccepted cs
    → log_events (handed position (block_with n cs) ∷ []) ≡ command_events n first_place (fitting most_used cs)
block_back cs position n l h =
    log_back (cs ∷ []) position n (omega arith) (h, tt) ∙ append-nil (command_events n first_place (fitting most_used cs))

-- ---- a log of any commands: none is lost
pub fitting-left : (room : ℕ) (cs : List DirectCommands) → fitting room cs ++ left_over room cs ≡ cs
fitting-left room [] = refl
fitting-left room (c ∷ cs) = by (leb (record_size c) room) (fitting-left (room - record_size c) cs)
  where
    by : (t : Bool) → fitting (room - record_size c) cs ++ left_over (room - record_size c) cs ≡ cs
        → pick t (c ∷ fitting (room - record_size c) cs) [] ++ pick t (left_over (room - record_size c) cs) (c ∷ cs) ≡ c ∷ cs
    by true e = ap (λ (ds : List DirectCommands). c ∷ ds) e
    by false e = refl

left_less : (room : ℕ) (cs : List DirectCommands) → length (left_over room cs) ≤ length cs
left_less room [] = omega arith
left_less room (c ∷ cs) = by (leb (record_size c) room) (left_less (room - record_size c) cs)
  where
    by : (t : Bool) → length (left_over (room - record_size c) cs) ≤ length cs
        → length (pick t (left_over (room - record_size c) cs) (c ∷ cs)) ≤ suc (length cs)
    by true l = omega arith
    by false l = omega arith

left-accepted : (room : ℕ) (cs : List DirectCommands) → AllAccepted cs → AllAccepted (left_over room cs)
left-accepted room [] h = tt
left-accepted room (c ∷ cs) h = by (leb (record_size c) room) (left-accepted (room - record_size c) cs h.1)
  where
    by : (t : Bool) → AllAccepted (left_over (room - record_size c) cs) → AllAccepted (pick t (left_over (room - record_size c) cs) (c ∷ cs))
    by true k = k
    by false k = h

-- a block takes one at least
takes_one : (c : DirectCommands) (cs : List DirectCommands) → Accepted c → length (left_over most_used (c ∷ cs)) ≤ length cs
takes_one c cs a =
    let l = (holds c a).1 in
    by (leb (record_size c) most_used) (le-leb (record_size c) most_used (omega arith))
  where
    by : (t : Bool) → t ≡ true → length (pick t (left_over (most_used - record_size c) cs) (c ∷ cs)) ≤ length cs
    by true e = left_less (most_used - record_size c) cs
    by false e = let z : ◌≡◌ {A = ℕ} 0 1 = cc in absurd (omega arith)

shared_few : (most : ℕ) (cs : List DirectCommands) → length (shared_out most cs) ≤ most
shared_few zero cs = omega arith
shared_few (suc most) [] = omega arith
shared_few (suc most) (c ∷ cs) = let l = shared_few most (left_over most_used (c ∷ cs)) in omega arith

shared_accepted : (most : ℕ) (cs : List DirectCommands) → AllAccepted cs → AllIn (shared_out most cs)
shared_accepted zero cs h = tt
shared_accepted (suc most) [] h = tt
shared_accepted (suc most) (c ∷ cs) h = (h, shared_accepted most (left_over most_used (c ∷ cs)) (left-accepted most_used (c ∷ cs) h))

-- the commands in their events
in_events : (n at : ℕ) (cs : List DirectCommands) (es : List Event) → commands_in (command_events n at cs ++ es) ≡ cs ++ commands_in es
in_events n at [] es = refl
in_events n at (c ∷ cs) es = ap (λ (ds : List DirectCommands). c ∷ ds) (in_events n (at + record_size c) cs es)

all_there : (most n : ℕ) (cs : List DirectCommands) → length cs ≤ most → AllAccepted cs → commands_in (log_commands n (shared_out most cs)) ≡ cs
all_there zero n [] l h = refl
all_there zero n (c ∷ cs) l h = absurd (omega arith)
all_there (suc most) n [] l h = refl
all_there (suc most) n (c ∷ cs) l h =
    let ds = c ∷ cs in
    let k = takes_one c cs h.0 in
    in_events n first_place (fitting most_used ds) (log_commands (n + 1) (shared_out most (left_over most_used ds)))
    ∙ ap (λ (x : List DirectCommands). fitting most_used ds ++ x)
    (all_there most (n + 1) (left_over most_used ds) (omega arith) (left-accepted most_used ds h))
    ∙ fitting-left most_used ds

-- THE law, of any commands: their log hands on just these, in order, and tells nothing else
pub commands_back : (cs : List DirectCommands) (position n : ℕ) → n + length cs ≤ 4294967296 → AllAccepted cs
    → (log_events (log_of position n cs) ≡ log_commands n (shared_out (length cs) cs)) × (commands_in (log_events (log_of position n cs)) ≡ cs)
commands_back cs position n m h =
    let few = shared_few (length cs) cs in
    let told = log_back (shared_out (length cs) cs) position n (omega arith) (shared_accepted (length cs) cs h) in
    (told, ap commands_in told ∙ all_there (length cs) n cs (omega arith) h)

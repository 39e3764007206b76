-- What the functions that read cite: a body that was read, one that was refused. Assumes nothing.
use Rattle.std.specs.Prelude.{Ok, Err}
use Prim.Native.Nat.{ℕ}
use mathlib.Core.List.{List, []}
use mathlib.Core.Path.{◌≡◌, refl, ap, subst, ◌∙◌}
use native.Mathlib.Omega.{arith}
use lib.ListN.{length, get_or}
use Rattle.codec.specs.Sheet.{Answer, got, refused, and_then}
use Rattle.codec.specs.Refusals.{refusal_number, Gives}
use Rattle.codec.specs.declared.refusal.Refusal.{Refusal}
use Rattle.codec.proofs.Refused.{Some}
use Rattle.families.specs.Text.{padded}
use Rattle.families.specs.Ack.{acked, read_ack, AckIs}
use Rattle.families.specs.Popup.{write_popup}
use Rattle.families.specs.Screen.{ScreenSaid, started, returned, screen_read, read_screen, ScreenIs}
use Rattle.families.specs.declared.ack.AckRead.{AckRead}
use Rattle.families.specs.declared.screen.ScreenRead.{ScreenRead}
use Rattle.families.specs.declared.payload.CommandPayload.TheVariants.{Screen, Ack}
use Rattle.commands.specs.Command.{WithStored, with_stored, command_of}
use Rattle.commands.specs.Reading.{read_as, screen_with_stored, ack_with_stored, CommandIs}
use Rattle.commands.specs.declared.DirectCommands.{DirectCommands}

-- a body with these addresses
abbrev pub addressed : ℕ → ℕ → Answer WithStored → Answer DirectCommands
addressed dst src a = and_then a (λ k. got (command_of dst src k))

pub addressed_is : (a : Answer WithStored) (x : DirectCommands) (dst src : ℕ) → got x ≡ and_then a (λ k. got (command_of 0 0 k))
    → Gives (λ c. c) (addressed dst src a) (Ok (record { dst_addr = dst; src_addr = src; payload = x.payload; len = x.len; bytes = x.bytes }))
addressed_is (got (with_stored p t)) x dst src h = let e : x ≡ command_of 0 0 (with_stored p t) = cc in rw e
addressed_is (refused n p) x dst src h = let z : ◌≡◌ {A = ℕ} 0 1 = cc in absurd (omega arith)

pub unaddressed : (a : Answer WithStored) (r : Refusal) (dst src : ℕ) → refused (refusal_number r) 0 ≡ and_then a (λ k. got (command_of 0 0 k))
    → Gives (λ c. c) (addressed dst src a) (Err r)
unaddressed (got k) r dst src h = let z : ◌≡◌ {A = ℕ} 0 1 = cc in absurd (omega arith)
unaddressed (refused n p) r dst src h = cc

-- what is kept of a body that was made from something
pub kept_of : {A K : Type 0} (kept : WithStored → K) (a : Answer A) (f : A → WithStored)
    → and_then a (λ x. got (kept (f x))) ≡ and_then (and_then a (λ x. got (f x))) (λ k. got (kept k))
kept_of kept (got x) f = refl
kept_of kept (refused n p) f = refl

-- a refusal: its number, place 0
pub none_kept : {A B K : Type 0} (shown : A → B) (a : Answer A) (f : A → K) (r : Refusal) → Some a → Gives shown a (Err r)
    → refused (refusal_number r) 0 ≡ and_then a (λ x. got (f x))
none_kept shown (got x) f r o h = absurd h
none_kept shown (refused n p) f r o h = rw (h, (o n p refl).1)

-- what is kept of a popup or a returned value, and of an ACK, by their stored bytes
pub screen_kept : {K : Type 0} (kept : WithStored → K) (a : Answer ScreenSaid) (x : ScreenRead) (k : K) → Gives screen_read a (Ok x)
    → ((t : List ℕ) → x.popup.len ≡ length t → x.popup.bytes ≡ padded 55 t → k ≡ kept (with_stored (Screen x.command) t))
    → got k ≡ and_then a (λ q. got (kept (screen_with_stored q)))
screen_kept kept (got (started p)) x k h g = ap got (g (write_popup p) (rw h) (rw h) ∙ rw h)
screen_kept kept (got (returned b)) x k h g = ap got (g [] (rw h) (rw h) ∙ rw h)
screen_kept kept (refused n p) x k h g = absurd h

pub ack_kept : {K : Type 0} (kept : WithStored → K) (a : Answer (List (List ℕ))) (x : AckRead) (k : K) → Gives acked a (Ok x)
    → ((t : List ℕ) → x.len ≡ length t → x.bytes ≡ padded 55 t → k ≡ kept (with_stored (Ack x.ack) t))
    → got k ≡ and_then a (λ vs. got (kept (ack_with_stored vs)))
ack_kept kept (got vs) x k h g = ap got (g (get_or vs 3 []) (rw h) (rw h) ∙ rw h)
ack_kept kept (refused n p) x k h g = absurd h

-- so of whole commands with these addresses
abbrev pub screen_command : ℕ → ℕ → ScreenRead → DirectCommands
screen_command dst src x =
    record { dst_addr = dst; src_addr = src; payload = Screen x.command; len = x.popup.len; bytes = x.popup.bytes }

pub screen_got : (dst src : ℕ) (s : List ℕ) (x : ScreenRead) → ScreenIs (read_screen s) (Ok x)
    → CommandIs (read_as dst src 0x22 s) (Ok (screen_command dst src x))
screen_got dst src s x h =
    subst (λ (a : Answer DirectCommands). CommandIs a (Ok (screen_command dst src x)))
    (screen_kept (command_of dst src) (read_screen s) x (screen_command dst src x) h (λ t len bytes. rw (len, bytes))
    ∙ kept_of (command_of dst src) (read_screen s) screen_with_stored) refl

abbrev pub ack_command : ℕ → ℕ → AckRead → DirectCommands
ack_command dst src x = record { dst_addr = dst; src_addr = src; payload = Ack x.ack; len = x.len; bytes = x.bytes }

pub ack_got : (dst src : ℕ) (s : List ℕ) (x : AckRead) → AckIs (read_ack s) (Ok x) → CommandIs (read_as dst src 0xFF s) (Ok (ack_command dst src x))
ack_got dst src s x h =
    subst (λ (a : Answer DirectCommands). CommandIs a (Ok (ack_command dst src x)))
    (ack_kept (command_of dst src) (read_ack s) x (ack_command dst src x) h (λ t len bytes. rw (len, bytes))
    ∙ kept_of (command_of dst src) (read_ack s) ack_with_stored) refl

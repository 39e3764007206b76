-- The layout of a payload: addresses, id, body, check; its last byte is the remainder. Assumes nothing.
use Prim.Native.Nat.{ℕ, ◌+◌, ◌-◌, ◌≤◌}
use mathlib.Core.List.{List, [], ◌∷◌, ◌++◌}
use mathlib.Core.Path.{◌≡◌, ap, sym, ◌∙◌}
use native.Mathlib.Omega.{arith}
use lib.ListN.{length, get_or, length-append}
use lib.Seq.{take-append_seam, get_or-append_seam}
use borrow.Author.Tests.{le-ltb, eq-eqb}
use Rattle.crc.specs.Check.{command_polynomial, check_of, typed_check, payload_check}
use Rattle.families.specs.Payload.{family_id}
use Rattle.families.specs.declared.payload.CommandPayload.{CommandPayload}
use Rattle.commands.specs.Command.{stored_in}
use Rattle.commands.specs.Reading.{body_in, check_in, read_as, read_command}
use Rattle.commands.specs.Reading.Equation.{read_is}
use Rattle.commands.specs.Writing.{body_of, opening, checked, payload_of}
use Rattle.commands.specs.Writing.Equation.{payload_is}
use Rattle.commands.specs.declared.DirectCommands.{DirectCommands}
use Rattle.commands.proofs.Closed.{but_last}
use Rattle.commands.proofs.Written.{checked-length}

-- the last byte is the remainder of 0x32 and all before it
pub last_is : (o : List ℕ) → check_in (checked o) ≡ check_of command_polynomial (0x32 ∷ o)
last_is o =
    let k = check_of command_polynomial (0x32 ∷ o) in
    let e : length (o ++ k ∷ []) - 1 ≡ length o = rw (length-append o (k ∷ [])) (omega arith) in
    rw e (get_or-append_seam o k [] 0)

pub check_is : (o : List ℕ) → payload_check (checked o) ≡ check_of command_polynomial (0x32 ∷ o)
unfolding typed_check
check_is o = rw (but_last o (check_of command_polynomial (0x32 ∷ o)))

-- a payload, by its places
pub destination_is : (c : DirectCommands) → get_or (payload_of c) 0 0 ≡ c.dst_addr
destination_is c = ap (λ (w : List ℕ). get_or w 0 0) (payload_is c)

pub source_is : (c : DirectCommands) → get_or (payload_of c) 1 0 ≡ c.src_addr
source_is c = ap (λ (w : List ℕ). get_or w 1 0) (payload_is c)

pub id_is : (c : DirectCommands) → get_or (payload_of c) 2 0 ≡ family_id c.payload
id_is c = ap (λ (w : List ℕ). get_or w 2 0) (payload_is c)

body_at : (dst src : ℕ) (p : CommandPayload) (t : List ℕ) → body_in (checked (opening dst src p t)) ≡ body_of p t
body_at dst src p t =
    let w = body_of p t in
    let e : length (checked (opening dst src p t)) - 4 ≡ length w = rw (checked-length dst src p t) (omega arith) in
    rw e (take-append_seam w (check_of command_polynomial (0x32 ∷ opening dst src p t) ∷ []))

pub body_is : (c : DirectCommands) → body_in (payload_of c) ≡ body_of c.payload (stored_in c)
body_is c = ap body_in (payload_is c) ∙ body_at c.dst_addr c.src_addr c.payload (stored_in c)

pub payload_check_is : (c : DirectCommands) → check_in (payload_of c) ≡ payload_check (payload_of c)
payload_check_is c = let o = opening c.dst_addr c.src_addr c.payload (stored_in c) in rw (payload_is c) (last_is o ∙ sym (check_is o))

pub payload-length : (c : DirectCommands) → length (payload_of c) ≡ length (body_of c.payload (stored_in c)) + 4
payload-length c = ap (λ (w : List ℕ). length w) (payload_is c) ∙ checked-length c.dst_addr c.src_addr c.payload (stored_in c)

-- reading a payload that is laid out so is reading its body
pub read_payload : (c : DirectCommands) → length (body_of c.payload (stored_in c)) ≤ 56
    → read_command (payload_of c) ≡ read_as c.dst_addr c.src_addr (family_id c.payload) (body_of c.payload (stored_in c))
read_payload c h =
    let l = payload-length c in
    rw (
      read_is (payload_of c),
      le-ltb (length (payload_of c)) 4 (omega arith),
      le-ltb 60 (length (payload_of c))
          (omega arith),
      eq-eqb (check_in (payload_of c)) (payload_check (payload_of c)) (payload_check_is c),
      destination_is c,
      source_is c,
      id_is c,
      body_is c,
    )

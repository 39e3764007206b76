-- The ways through `record_at` and `judge`: each ends as the definition does. Assumes nothing.
use Rattle.std.specs.Prelude.{Option, Some, None, Result, Ok, Err}
use Rattle.std.specs.Result.{result_unwrap_or}
use Rattle.std.specs.Option.{ok_or}
use Prim.Native.Nat.{ℕ, suc, ◌-◌, ◌<◌, ◌≤◌}
use mathlib.Core.Bool.{true, false}
use mathlib.Core.List.{List}
use mathlib.Core.Path.{◌≡◌, refl, sym, ◌∙◌}
use native.Mathlib.Omega.{arith}
use borrow.Author.Tests.{le-ltb, lt-ltb, le-leb, lt-leb, eq-eqb, ne_eqb}
use lib.ListN.{length, take, drop}
use Rattle.crc.specs.Check.{Bytes, command_polynomial, check_from}
use Rattle.crc.proofs.Laws.{from_zero}
use Rattle.codec.specs.Pick.{pick}
use Rattle.codec.specs.Sheet.{Answer, got, refused, and_then, number}
use Rattle.codec.specs.Reading.{read_item}
use Rattle.codec.specs.Told.{told_number}
use Rattle.codec.specs.declared.refusal.Refusal.{Refusal}
use Rattle.codec.proofs.Numbers.{number-got, number-not}
use Rattle.families.specs.Text.{zeros}
use Rattle.blocks.specs.Block.{block_number, used_count, check_byte, block_check, Record, records_of}
use Rattle.blocks.specs.Walk.{first_of, Opening, opening, opening_of, standing, place_before, record_end, record_at}
use Rattle.blocks.specs.Steps.{Used, UsedTo, records_to, whole_records}
use Rattle.blocks.proofs.Records.{drop-take, accepted-got, ten, used-part, first_is}

-- ---- any four bytes are a block's number
pub number_is : (b : List ℕ) → length b ≡ 512 → Bytes b → (r : Result ℕ Refusal) → told_number r ≡ read_item (number 4 0 4294967295) (drop 0 b)
    → result_unwrap_or r 0 ≡ block_number b
number_is b size o (Ok n) h = number-got 4 4294967295 b 0 o (omega arith) (omega arith) n (Ok n) refl h
number_is b size o (Err why) h = absurd (number-not 4 4294967295 b 0 o (omega arith) (omega arith) (Err why) why refl h)

-- ---- `record_at`
module _ (b : List ℕ) (at : ℕ) where
  pub at_size : (length b ≡ 512 → ⊥) → refused 10 0 ≡ record_at b at
  unfolding record_at
  at_size h = rw (ne_eqb (length b) 512 h)

  module _ (size : length b ≡ 512) where
    pub at-used : 505 < used_count b → refused 10 0 ≡ record_at b at
    unfolding record_at
    at-used h = rw (eq-eqb (length b) 512 size, lt-leb (used_count b) 505 h)

    module _ (end : ℕ) (used : Used b end) where
      pub at_head : at < 6 → refused 10 0 ≡ record_at b at
      unfolding record_at
      at_head h = rw (eq-eqb (length b) 512 size, le-leb (used_count b) 505 used.0, lt-ltb at 6 h)

      module _ (first : 6 ≤ at) where
        pub at-behind : end ≤ at → refused 10 0 ≡ record_at b at
        unfolding record_at
        at-behind h = rw (eq-eqb (length b) 512 size, le-leb (used_count b) 505 used.0, le-ltb at 6 first, ← used.1, le-leb end at h)

        module _ (last : at < end) where
          pub at_none : record_end b end at ≡ refused 10 0 → refused 10 0 ≡ record_at b at
          unfolding record_at
          at_none h =
              rw (
                eq-eqb (length b) 512 size,
                le-leb (used_count b) 505 used.0,
                le-ltb at 6 first,
                ← used.1,
                lt-leb end at last,
                h,
              )

          pub at_there : (n e x : ℕ) → n ≡ block_number b → record_end b end at ≡ got e → x ≡ place_before end e
              → got (standing n e x) ≡ record_at b at
          unfolding record_at
          at_there n e x i j k =
              rw (eq-eqb (length b) 512 size, le-leb (used_count b) 505 used.0, le-ltb at 6 first, ← used.1, lt-leb end at last, j, i, k)

-- ---- `judge`
-- an end that a `?` lets through, and none
pub used_ok : {D : Type 0} (b : List ℕ) (o : Option ℕ) (d : D) (end : ℕ) → UsedTo b o → Ok end ≡ ok_or o d → Used b end
used_ok b (Some e) d end u h = let same : e ≡ end = cc in (u.0, sym same ∙ u.1)
used_ok b None d end u h = let z : ◌≡◌ {A = ℕ} 0 1 = cc in absurd (omega arith)

pub used_err : {D : Type 0} (b : List ℕ) (o : Option ℕ) (d e : D) → UsedTo b o → Err e ≡ ok_or o d → (505 < used_count b) × (e ≡ d)
used_err b (Some n) d e u h = let z : ◌≡◌ {A = ℕ} 0 1 = cc in absurd (omega arith)
used_err b None d e u h = (u, cc)

abbrev opened : List ℕ → Answer (List Record) → Answer Opening
opened b a = and_then a (λ rs. got (opening (block_number b) (first_of rs)))

-- the layout of a block whose used bytes end there
abbrev laid_to : List ℕ → ℕ → Answer (List Record)
laid_to b end = and_then (records_to b end 6) (λ rs. pick (zeros (drop end (take 511 b))) (got rs) (refused 10 0))

module _ (b : List ℕ) where
  pub not_a_block : (length b ≡ 512 → ⊥) → refused 1 0 ≡ opening_of b
  unfolding records_of
  not_a_block h = rw (ne_eqb (length b) 512 h)

  module _ (size : length b ≡ 512) (k : ℕ) (worked : k ≡ check_from command_polynomial 0 (take 511 b)) where
    check_is : k ≡ block_check b
    check_is = worked ∙ from_zero command_polynomial (take 511 b)

    pub wrong_check : (check_byte b ≡ k → ⊥) → refused 9 0 ≡ opening_of b
    unfolding records_of
    wrong_check h = rw (eq-eqb (length b) 512 size, ne_eqb (check_byte b) (block_check b) (λ g. h (g ∙ sym check_is)))

    module _ (right : check_byte b ≡ k) where
      pub too_much_used : 505 < used_count b → refused 10 0 ≡ opening_of b
      unfolding records_of
      too_much_used h =
          rw (eq-eqb (length b) 512 size, eq-eqb (check_byte b) (block_check b) (right ∙ check_is), lt-leb (used_count b) 505 h)

      module _ (end : ℕ) (used : Used b end) where
        opens : opening_of b ≡ opened b (laid_to b end)
        unfolding records_of
        opens =
            rw (
              eq-eqb (length b) 512 size,
              eq-eqb (check_byte b) (block_check b) (right ∙ check_is),
              le-leb (used_count b) 505 used.0,
              ← (used-part b),
              ← used.1,
            )

        pub not-whole : false ≡ whole_records b end → refused 10 0 ≡ opening_of b
        not-whole h = sym (opens ∙ rw (ten (suc (end - 6)) 6 (take (end - 6) (drop 6 b)) h))

        module _ (whole : true ≡ whole_records b end) where
          pub not-filled : false ≡ zeros (take (511 - end) (drop end b)) → refused 10 0 ≡ opening_of b
          not-filled h = let r = accepted-got (records_to b end 6) whole in sym (opens ∙ rw (r.1, drop-take end 511 b, ← h))

          pub all_sound : true ≡ zeros (take (511 - end) (drop end b)) → (n x : ℕ) → n ≡ block_number b → x ≡ place_before end 6
              → got (opening n x) ≡ opening_of b
          all_sound h n x i j =
              let r = accepted-got (records_to b end 6) whole in
              let f = first_is b end 6 r.0 (omega (arith, used)) r.1 in
              sym (opens ∙ rw (r.1, drop-take end 511 b, ← h, f, i, j))

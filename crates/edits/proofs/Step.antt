-- THE step: the bytes that the writer makes of a command with one field changed are the command's bytes changed where that field stands,
-- and the check renewed. Assumes nothing.
use Prim.Native.Nat.{ℕ, zero, suc, ◌+◌, ◌*◌, ◌/◌, ◌%◌, ◌^◌, ◌<◌, ◌≤◌}
use mathlib.Core.Bool.{true, false}
use mathlib.Core.List.{List, [], ◌∷◌, ◌++◌}
use mathlib.Core.Path.{◌≡◌, refl, ap, ap₂, sym, subst, ◌∙◌}
use native.Mathlib.Omega.{arith}
use lib.ListN.{length, get_or}
use lib.Dec.{ltb, leb}
use borrow.Author.Tests.{ltb-true, ltb-false, leb-true}
use Rattle.crc.specs.Check.{Bytes}
use Rattle.codec.specs.Pick.{pick}
use Rattle.codec.specs.Digits.{sum}
use Rattle.codec.specs.Sheet.{Field, field, Item, packed, text, got, byte, widths}
use Rattle.codec.specs.Writing.{write_items, item_bytes}
use Rattle.codec.specs.Sound.{sound_item, sound_items, sound_fields}
use Rattle.codec.specs.Edit.{set_value, place_of, below, in_field}
use Rattle.codec.proofs.Back.{both, passed}
use Rattle.codec.proofs.Patch.{patch, ok_length, place-room}
use Rattle.codec.proofs.Narrow.{narrow}
use Rattle.codec.proofs.Packed.{byte-item}
use Rattle.families.specs.Body.{body_items, body_values}
use Rattle.families.specs.Payload.{family_id}
use Rattle.commands.specs.Command.{stored_in}
use Rattle.commands.specs.Writing.{payload_of}
use Rattle.commands.specs.declared.DirectCommands.{DirectCommands}
use Rattle.commands.proofs.Promised.{Sound, items_laid, id_byte, sound-laid, sound-bytes}
use Rattle.edits.specs.Fields.{spot}
use Rattle.edits.specs.Record.{items_in, values_in}
use Rattle.edits.specs.Edit.{field_at, with_field}
use Rattle.edits.specs.Table.{skipped, holding}
use Rattle.edits.specs.Change.{patched, changed}
use Rattle.edits.proofs.With.{FieldIn, Free, items_ok, items-sound, with_field_lem}
use Rattle.edits.proofs.Renewal.{closed, bytes_front, changed-closed}

-- ---- an item that holds numbers is there
pub packed-there : (is : List Item) (i w : ℕ) (fs : List Field) → get_or is i (text 0 0) ≡ packed w fs → i < length is
packed-there [] zero w fs e = let z : ◌≡◌ {A = ℕ} 0 1 = cc in absurd (omega arith)
packed-there [] (suc i) w fs e = let z : ◌≡◌ {A = ℕ} 0 1 = cc in absurd (omega arith)
packed-there (t ∷ is) zero w fs e = omega arith
packed-there (t ∷ is) (suc i) w fs e = let h = packed-there is i w fs e in omega arith

sound-at : (is : List Item) (i : ℕ) → sound_items is ≡ true → sound_item (get_or is i (text 0 0)) ≡ true
sound-at [] zero h = refl
sound-at [] (suc i) h = refl
sound-at (t ∷ is) zero h = (both (sound_item t) (sound_items is) h).0
sound-at (t ∷ is) (suc i) h = sound-at is i (both (sound_item t) (sound_items is) h).1

-- ---- a field among the fields of its item
pub widths-length : (fs : List Field) → length (widths fs) ≡ length fs
widths-length [] = refl
widths-length (field b lo hi ∷ fs) = ap suc (widths-length fs)

width-at : (fs : List Field) (j b lo hi : ℕ) → j < length fs → get_or fs j (field 0 0 0) ≡ field b lo hi → get_or (widths fs) j 0 ≡ b
width-at [] j b lo hi l e = absurd (omega arith)
width-at (field a x y ∷ fs) zero b lo hi l e = cc
width-at (field a x y ∷ fs) (suc j) b lo hi l e = width-at fs j b lo hi (omega arith) e

range_at : (fs : List Field) (j b lo hi : ℕ) → j < length fs → get_or fs j (field 0 0 0) ≡ field b lo hi → sound_fields fs ≡ true → hi < 2 ^ b
range_at [] j b lo hi l e s = absurd (omega arith)
range_at (field a x y ∷ fs) zero b lo hi l e s =
    let p : a ≡ b = cc in
    let q : y ≡ hi = cc in
    rw (← p, ← q) (ltb-true y (2 ^ a) (both (ltb y (2 ^ a)) (sound_fields fs) s).0)
range_at (field a x y ∷ fs) (suc j) b lo hi l e s = range_at fs j b lo hi (omega arith) e (both (ltb y (2 ^ a)) (sound_fields fs) s).1

below-room : (bs : List ℕ) (j : ℕ) → j < length bs → below bs j + get_or bs j 0 ≤ sum bs
below-room [] j l = absurd (omega arith)
below-room (b ∷ bs) zero l = omega arith
below-room (b ∷ bs) (suc j) l = let h = below-room bs j (omega arith) in omega arith

in_field_lem : (b lo hi n : ℕ) → in_field (field b lo hi) n ≡ true → (lo ≤ n) × (n ≤ hi)
in_field_lem b lo hi n h =
    let p = passed (ltb n lo) (pick (ltb hi n) false true) h in
    let q = passed (ltb hi n) true p.1 in
    (ltb-false n lo p.0, ltb-false hi n q.0)

-- ---- the payload by all its items
pub payload-closed : (c : DirectCommands) → Sound c → payload_of c ≡ closed (write_items (items_in c) (values_in c))
payload-closed c z =
    let s = write_items (body_items c.payload (stored_in c)) (body_values c.payload (stored_in c)) in
    let d = byte-item c.dst_addr z.destination in
    let r = byte-item c.src_addr z.source in
    let f = byte-item (family_id c.payload) (id_byte c.payload) in
    let o : write_items (items_in c) (values_in c) ≡ items_laid c =
    ap (λ (l : List ℕ). l ++ (item_bytes byte (c.src_addr ∷ []) ++ (item_bytes byte (family_id c.payload ∷ []) ++ s))) d
    ∙ ap (λ (l : List ℕ). c.dst_addr ∷ (l ++ (item_bytes byte (family_id c.payload ∷ []) ++ s))) r
    ∙ ap (λ (l : List ℕ). c.dst_addr ∷ c.src_addr ∷ (l ++ s)) f in
    sound-laid c z ∙ sym (ap closed o)

-- ---- THE step: a field that the command has
module _ {c : DirectCommands} {i j b lo hi : ℕ} (z : Sound c) (x : FieldIn (items_in c) i j (field b lo hi)) where
  -- the bits below it; where the bytes that hold it begin; how many they are
  abbrev pub low_bits : ℕ
  low_bits = below (widths x.all) j

  abbrev pub field_place : ℕ
  field_place = place_of (items_in c) (values_in c) i + skipped x.wide low_bits b

  abbrev pub field_width : ℕ
  field_width = holding low_bits b

  -- a payload with n put there, and its check renewed
  abbrev pub changed_there : List ℕ → ℕ → List ℕ
  changed_there p n = changed p field_place field_width (2 ^ (low_bits % 8)) (2 ^ b) n

  item-sound : sound_item (packed x.wide x.all) ≡ true
  item-sound = rw x.holds at (sound-at (items_in c) i (items-sound c))

  pub in_item : low_bits + b ≤ 8 * x.wide
  in_item =
      let fs = x.all in
      let s = both (leb (sum (widths fs)) (8 * x.wide)) (sound_fields fs) item-sound in
      let k = leb-true (sum (widths fs)) (8 * x.wide) s.0 in
      let m : j < length (widths fs) = rw (widths-length fs) x.within in
      let h = rw (width-at fs j b lo hi x.within x.this) at (below-room (widths fs) j m) in
      omega arith

  pub top : hi < 2 ^ b
  top = range_at x.all j b lo hi x.within x.this
      (both (leb (sum (widths x.all)) (8 * x.wide)) (sound_fields x.all) item-sound).1

  opening-room : place_of (items_in c) (values_in c) i + x.wide ≤ length (write_items (items_in c) (values_in c))
  opening-room = rw x.holds at (place-room (items_in c) (values_in c) i (ok_length (items_in c) (values_in c) (items_ok c z)) x.inside)

  opening-bytes : Bytes (write_items (items_in c) (values_in c))
  opening-bytes = bytes_front (write_items (items_in c) (values_in c)) _ (subst Bytes (payload-closed c z) (sound-bytes c z))

  -- the bytes before the field's, its own and those behind are the item's
  pub parts : (skipped x.wide low_bits b + (field_width + low_bits / 8) ≡ x.wide)
      × ((8 * (low_bits / 8) + low_bits % 8 ≡ low_bits) × (low_bits % 8 + b ≤ 8 * field_width))
  parts = let h = in_item in (omega arith, (omega arith, omega arith))

  pub field_room : field_place + field_width ≤ length (write_items (items_in c) (values_in c))
  field_room = let r = opening-room in let p = parts.0 in omega arith

  module _ (n : ℕ) (r : in_field (field b lo hi) n ≡ true) where
    fits : n < 2 ^ b
    fits = let k = in_field_lem b lo hi n r in let t = top in omega arith

    patched_narrow : write_items (items_in c) (set_value (values_in c) i j n)
        ≡ patched (write_items (items_in c) (values_in c)) field_place field_width (2 ^ (low_bits % 8)) (2 ^ b) n
    patched_narrow =
        let o = write_items (items_in c) (values_in c) in
        let at = place_of (items_in c) (values_in c) i in
        let w = x.wide in
        let fs = x.all in
        let q = low_bits in
        let p = parts in
        let m : j < length (widths fs) = rw (widths-length fs) x.within in
        let a : at + (skipped w q b + (holding q b + q / 8)) ≤ length o = rw p.0 opening-room in
        let y = patch (items_in c) (values_in c) i j n w fs (items-sound c) (items_ok c z) x.inside x.holds m in
        let k = narrow o at (skipped w q b) (holding q b) (q / 8) (q % 8) b n opening-bytes a p.1.1 fits in
        y ∙ rw (width-at fs j b lo hi x.within x.this) (rw (p.0, p.1.0) at k)

    pub stepped : Free c i → field_at c (spot i j) ≡ got (field b lo hi)
        → payload_of (with_field c (spot i j) n) ≡ changed_there (payload_of c) n
    stepped g k =
        let c' = with_field c (spot i j) n in
        let v = with_field_lem c i j n (field b lo hi) z g k r in
        let o = write_items (items_in c) (values_in c) in
        payload-closed c' v.sound
        ∙ ap₂ (λ (is : List Item) (vs : List (List ℕ)). closed (write_items is vs)) v.items v.values
        ∙ ap closed patched_narrow
        ∙ sym (changed-closed o field_place field_width (2 ^ (low_bits % 8)) (2 ^ b) n opening-bytes field_room)
        ∙ sym (ap (λ (p : List ℕ). changed_there p n) (payload-closed c z))

-- An edit applied to an open payload: what it answers and leaves, and that the payload stays open. Assumes nothing.
use Prim.Native.Nat.{ℕ, zero, suc, ◌+◌, ◌*◌, ◌%◌, ◌^◌, ◌<◌, ◌≤◌}
use mathlib.Core.Bool.{Bool, true, false}
use mathlib.Core.List.{List, [], ◌∷◌}
use mathlib.Core.Path.{◌≡◌, refl, ap, sym, subst, ◌∙◌}
use native.Mathlib.Omega.{arith}
use lib.ListN.{length, drop, get_or, length-append, length-drop}
use lib.Seq.{length-take-le}
use borrow.Author.Tests.{lt-ltb, le-ltb}
use Rattle.std.specs.Prelude.{Some, None}
use Rattle.crc.specs.Check.{Bytes}
use Rattle.crc.proofs.Laws.{bytes_take}
use Rattle.codec.specs.Pick.{pick}
use Rattle.codec.specs.Same.{same}
use Rattle.codec.specs.Digits.{number_of}
use Rattle.codec.specs.Sheet.{Field, field, Item, packed, text, Answer, got, refused, and_then, size_of}
use Rattle.codec.specs.Writing.{write_items}
use Rattle.codec.specs.Edit.{set_value, place_of, replaced, in_field}
use Rattle.codec.specs.Refusals.{number_in}
use Rattle.codec.proofs.Same.{same_self}
use Rattle.codec.proofs.Forth.{bytes_drop, bytes-number}
use Rattle.codec.proofs.Narrow.{replaced-small}
use Rattle.codec.proofs.Back.{size_is}
use Rattle.families.specs.Payload.{family_id}
use Rattle.commands.specs.Writing.{payload_of}
use Rattle.commands.specs.declared.DirectCommands.{DirectCommands}
use Rattle.commands.proofs.Promised.{Sound, sound_back, sound-bytes}
use Rattle.edits.specs.Fields.{spot}
use Rattle.edits.specs.Record.{sub_of, items_in, values_in}
use Rattle.edits.specs.Edit.{with_field, set_field, edit_command, bytes_left, EditIs}
use Rattle.edits.specs.Table.{Entry, near_item, far_item, origin_at, located, row_for, InPayload}
use Rattle.edits.specs.Change.{held, FieldTakes, changed}
use Rattle.edits.specs.Opened.{ServesAs, Serves, Opened, Applies}
use Rattle.edits.specs.declared.table.FieldRow.{FieldRow}
use Rattle.edits.specs.declared.layout.Layout.{Layout}
use Rattle.edits.proofs.With.{Free, Changed, spot_free, with_field_lem}
use Rattle.edits.proofs.Step.{payload-closed, low_bits, field_place, field_width, top, field_room, parts, stepped}
use Rattle.edits.proofs.Served.{Found, found, set_found, set_none, field_found}
use Rattle.edits.proofs.Search.{Fine, row-some, row-none}

-- ---- on an open payload an edit is the command's
pub edit-opened : (p : List ℕ) (c : DirectCommands) (f n : ℕ) → Sound c → p ≡ payload_of c → edit_command p f n ≡ set_field c f n
edit-opened p c f n z e =
    rw e (ap (λ (a : Answer DirectCommands). and_then
    (and_then a (λ d. pick (same (payload_of d) (payload_of c)) (got d) (refused 6 0))) (λ d. set_field d f n))
    (sound_back c z)
    ∙ ap (λ (t : Bool). and_then (pick t (got c) (refused 6 0)) (λ d. set_field d f n)) (same_self (payload_of c)))

-- ---- places stay where they are
size-set : (is : List Item) (vs : List (List ℕ)) (i j n : ℕ) (w : ℕ) (fs : List Field) → get_or is i (text 0 0) ≡ packed w fs → (k : ℕ)
    → place_of is (set_value vs i j n) k ≡ place_of is vs k
size-set [] vs i j n w fs e k = refl
size-set (t ∷ is) [] i j n w fs e k = refl
size-set (t ∷ is) (v ∷ vs) zero j n w fs e zero = refl
size-set (t ∷ is) (v ∷ vs) zero j n w fs e (suc k) = rw e
size-set (t ∷ is) (v ∷ vs) (suc i) j n w fs e zero = refl
size-set (t ∷ is) (v ∷ vs) (suc i) j n w fs e (suc k) = ap (λ (x : ℕ). size_of t v + x) (size-set is vs i j n w fs e k)

serves_still : (c c' : DirectCommands) (vs : List (List ℕ)) (s : Layout) → Changed c vs c'
    → ((k : ℕ) → place_of (items_in c) vs k ≡ place_of (items_in c) (values_in c) k) → Serves c s → Serves c' s
serves_still c c' vs s g k v =
    let id = family_id c.payload in
    let sub = sub_of c.payload in
    let a : ServesAs id sub (items_in c) vs s =
    record {
      rows = v.rows;
      direct = v.direct;
      within = v.within;
      near = v.near ∙ sym (k (near_item id sub));
      far = v.far ∙ sym (k (far_item (items_in c)));
    } in
    let b = subst (λ (us : List (List ℕ)). ServesAs id sub (items_in c) us s) (sym g.values) a in
    let d = subst (λ (is : List Item). ServesAs id sub is (values_in c') s) (sym g.items) b in
    let e = subst (λ (x : ℕ). ServesAs x sub (items_in c') (values_in c') s) (sym g.family) d in
    subst (λ (x : ℕ). ServesAs (family_id c'.payload) x (items_in c') (values_in c') s) (sym g.sub) e

-- a place is one of the bytes, or the end
place-small : (is : List Item) (vs : List (List ℕ)) (k : ℕ) → place_of is vs k ≤ length (write_items is vs)
place-small [] vs k = omega arith
place-small (t ∷ is) [] k = omega arith
place-small (t ∷ is) (v ∷ vs) zero = omega arith
place-small (t ∷ is) (v ∷ vs) (suc k) = rw (length-append, size_is) (omega (arith, place-small is vs k))

powers : (v : ℕ) → v ≤ 4 → 2 ^ (8 * v) ≤ 2 ^ 32
powers zero h = omega arith
powers (suc zero) h = omega arith
powers (suc (suc zero)) h = omega arith
powers (suc (suc (suc zero))) h = omega arith
powers (suc (suc (suc (suc zero)))) h = omega arith
powers (suc (suc (suc (suc (suc v))))) h = absurd (omega arith)

-- equals put for equals
replaced-same : {u u' m m' : ℕ} (x n : ℕ) → u ≡ u' → m ≡ m' → replaced u m x n ≡ replaced u' m' x n
replaced-same x n e g = rw (e, g)

changed-same : {p p' : List ℕ} {at at' w w' u u' m m' : ℕ} (n : ℕ) → p ≡ p' → at ≡ at' → w ≡ w' → u ≡ u' → m ≡ m'
    → changed p at w u m n ≡ changed p' at' w' u' m' n
changed-same n e f g h i = rw (e, f, g, h, i)

module _ {p : List ℕ} {s : Layout} (f n : ℕ) (o : Opened p s) where
  abbrev c : DirectCommands
  c = o.command

  -- the payload is its items and the check
  long_is : length p ≡ length (write_items (items_in c) (values_in c)) + 1
  long_is = ap length (o.written ∙ payload-closed c o.sound) ∙ length-append (write_items (items_in c) (values_in c)) _

  short : length p ≤ 60
  short = rw o.written o.sound.short

  pub places-small : InPayload s.near × InPayload s.far
  places-small =
      let l = long_is in
      let k = short in
      let a = place-small (items_in c) (values_in c) (near_item (family_id c.payload) (sub_of c.payload)) in
      let b = place-small (items_in c) (values_in c) (far_item (items_in c)) in
      (omega (arith, l, k, a, o.served.near), omega (arith, l, k, b, o.served.far))

  -- none
  pub answers_none : None ≡ row_for f s → EditIs f n 7 p p
  answers_none h =
      let e = edit-opened p c f n o.sound o.written ∙ set_none f o.sound o.served n (row-none f s h) in
      (sym (ap number_in e), sym (ap (bytes_left p) e))

  -- a row of the command: the entry behind it
  pub record Row (r : FieldRow) : Type 0 where
    pub entry : Entry
    pub told : r ≡ located entry s.near s.far
    pub fine : Fine entry
    pub found : Found c s f entry

  pub row_of_lem : (r : FieldRow) → Some r ≡ row_for f s → Row r
  row_of_lem r h =
      let g = row-some f s r h in
      record { entry = g.0; told = g.1.1.0; fine = g.1.1.1; found = found f o.sound o.served g.0 g.1.0 }

  module _ {r : FieldRow} (w : Row r) where
    -- the field, its range, and the command with it set
    abbrev x : Found c s f w.entry
    x = w.found

    abbrev d : Field
    d = field x.bits x.low x.high

    abbrev set : DirectCommands
    set = with_field c (spot x.item x.index) n

    answer : edit_command p f n ≡ pick (in_field d n) (got set) (refused 8 0)
    answer = edit-opened p c f n o.sound o.written ∙ set_found f o.sound o.served x n

    low_is : r.low ≡ x.low
    low_is = ap (λ (y : FieldRow). y.low) w.told ∙ ap (λ (y : Entry). y.low) x.told

    high_is : r.high ≡ x.high
    high_is = ap (λ (y : FieldRow). y.high) w.told ∙ ap (λ (y : Entry). y.high) x.told

    outside : in_field d n ≡ false → EditIs f n 8 p p
    outside h = let a = answer ∙ ap (λ (t : Bool). pick t (got set) (refused 8 0)) h in (sym (ap number_in a), sym (ap (bytes_left p) a))

    pub answers-low : n < r.low → EditIs f n 8 p p
    answers-low h = outside (rw (lt-ltb n x.low (rw low_is at h)))

    pub answers-high : r.low ≤ n → r.high < n → EditIs f n 8 p p
    answers-high l h = outside (rw (le-ltb n x.low (rw low_is at l), lt-ltb x.high n (rw high_is at h)))

    -- ---- accepted: where the field stands
    abbrev low : ℕ
    low = low_bits o.sound x.at

    width_is : r.width ≡ field_width o.sound x.at
    width_is = ap (λ (y : FieldRow). y.width) w.told ∙ ap (λ (y : Entry). y.width) x.told

    unit_is : r.unit ≡ 2 ^ (low % 8)
    unit_is = ap (λ (y : FieldRow). y.unit) w.told ∙ ap (λ (y : Entry). y.unit) x.told

    many_is : r.many ≡ 2 ^ x.bits
    many_is = ap (λ (y : FieldRow). y.many) w.told ∙ ap (λ (y : Entry). y.many) x.told

    place_is : r.place ≡ field_place o.sound x.at
    place_is =
        let g = ap (λ (y : FieldRow). y.place) w.told
        ∙ ap (λ (y : Entry). origin_at y.origin s.near s.far + y.place) x.told in
        let h = x.placed in
        g ∙ omega (arith, h)

    room : r.place + r.width < length p
    room =
        let h = field_room o.sound x.at in
        let l = long_is in
        omega (arith, h, l, place_is, width_is)

    module _ (above : r.low ≤ n) (under : n ≤ r.high) where
      -- what changing its bytes asks for
      pub fits : FieldTakes p r.place r.width r.unit r.many n
      fits =
          let at = r.place in
          let k = room in
          let y : Bytes p = subst Bytes (sym o.written) (sound-bytes c o.sound) in
          let m : r.width ≤ length (drop at p) = rw (length-drop at p) (omega (arith, k)) in
          let v = held p at r.width in
          let u = (bytes-number v r.width (length-take-le r.width (drop at p) m)
          (bytes_take r.width (drop at p) (bytes_drop at p y))).1 in
          let q = (parts o.sound x.at).1.1 in
          let t = top o.sound x.at in
          let g : n < 2 ^ x.bits = omega (arith, t, under, high_is) in
          let b = replaced-small r.width (low % 8) x.bits (number_of v) n u (omega (arith, q, width_is)) g in
          let own : (v : ℕ) (h : v ≡ w.entry.width) → v ≤ 4 = λ v h. omega (arith, h, w.fine.few) in
          let wide = ap (λ (y : FieldRow). y.width) w.told in
          let a = powers r.width (own r.width wide) in
          let one = ap (λ (y : FieldRow). y.unit) w.told in
          let values = ap (λ (y : FieldRow). y.many) w.told in
          record {
            some = omega (arith, wide, w.fine.some);
            few = own r.width wide;
            there = k;
            counts = omega (arith, one, w.fine.counts);
            values = omega (arith, values, w.fine.values);
            fits = omega (arith, b, a, replaced-same (number_of v) n unit_is many_is);
          }

      in_range_lem : in_field d n ≡ true
      in_range_lem = rw (le-ltb n x.low (rw low_is at above), le-ltb x.high n (rw high_is at under))

      free : Free c x.item
      free = spot_free c f x.item x.index x.stands

      after : Changed c (set_value (values_in c) x.item x.index n) set
      after = with_field_lem c x.item x.index n d o.sound free (field_found f o.sound o.served x) in_range_lem

      bytes_are : changed p r.place r.width r.unit r.many n ≡ payload_of set
      bytes_are =
          changed-same n o.written place_is width_is unit_is many_is
          ∙ sym (stepped o.sound x.at n in_range_lem free (field_found f o.sound o.served x))

      pub accepts : (p' : List ℕ) → p' ≡ changed p r.place r.width r.unit r.many n → Applies s f n 0 p p'
      accepts p' h =
          let a = answer ∙ ap (λ (t : Bool). pick t (got set) (refused 8 0)) in_range_lem in
          let q : p' ≡ payload_of set = h ∙ bytes_are in
          let places = size-set (items_in c) (values_in c) x.item x.index n x.at.wide x.at.all x.at.holds in (
            (sym (ap number_in a), q ∙ sym (ap (bytes_left p) a)),
            record { command = set; sound = after.sound; written = q; served = serves_still c set _ s after places o.served },
          )

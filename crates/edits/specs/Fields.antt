-- Document 01, "Field numbers for edits": each number, and the item that it names. Ranges are those of the sheets' items. Assumes
-- nothing.
use Rattle.std.specs.Prelude.{ℕ, List, [], ◌∷◌, eqb}
use Rattle.codec.specs.Pick.{pick}
use Rattle.codec.specs.Sheet.{Answer, got, refused, and_then}

-- an item of a command's payload, counted from the destination: 0 destination, 1 source, 2 command id, 3 sub-command, 4 and on those of
-- its sheet (of an ACK, 3 and on); and which field of that item
pub data Spot : Type 0 where
  spot : ℕ → ℕ → Spot

-- in the command of a sub-command, an item
pub data Standing : Type 0 where
  of : ℕ → ℕ → Standing

-- a field's number and its item, in every command; or its number, its family, its item in each command that has it, and which field of
-- that item
pub data Listed : Type 0 where
  everywhere : ℕ → ℕ → Listed
  listed : ℕ → ℕ → List Standing → ℕ → Listed

-- THE list. "The payload's own command id and the sub-command are no fields."
abbrev pub fields : List Listed
fields =
    -- "1 destination, 2 source"
    everywhere 1 0
    ∷ everywhere 2 1
    -- "10 buttons"
    ∷ listed 10 0x05 (of 0x01 4 ∷ []) 0
    -- "20 frequency 5000-6000, 21 pit mode 0-1, 22 control 0-3, 23 switch 0-15, 24 power (both commands)"
    ∷ listed 20 0x08 (of 0x02 4 ∷ []) 0
    ∷ listed 21 0x08 (of 0x04 4 ∷ []) 2
    ∷ listed 22 0x08 (of 0x04 4 ∷ []) 1
    ∷ listed 23 0x08 (of 0x04 4 ∷ []) 0
    ∷ listed 24 0x08 (of 0x06 4 ∷ of 0x08 4 ∷ []) 0
    -- "30 time 0-65535, 31 hue 0-359, 32 saturation 0-100, 33 value 0-100 (only or start colour), 34, 35, 36 the same of the stop colour"
    ∷ listed 30 0x09 (of 0x03 4 ∷ of 0x04 4 ∷ of 0x05 4 ∷ []) 0
    ∷ listed 31 0x09 (of 0x02 4 ∷ of 0x03 5 ∷ of 0x04 5 ∷ of 0x05 5 ∷ []) 0
    ∷ listed 32 0x09 (of 0x02 4 ∷ of 0x03 5 ∷ of 0x04 5 ∷ of 0x05 5 ∷ []) 1
    ∷ listed 33 0x09 (of 0x02 4 ∷ of 0x03 5 ∷ of 0x04 5 ∷ of 0x05 5 ∷ []) 2
    ∷ listed 34 0x09 (of 0x03 6 ∷ of 0x04 6 ∷ []) 0
    ∷ listed 35 0x09 (of 0x03 6 ∷ of 0x04 6 ∷ []) 1
    ∷ listed 36 0x09 (of 0x03 6 ∷ of 0x04 6 ∷ []) 2
    -- "40 port, 41 baud (any), 42 accepted 0-1"
    ∷ listed 40 0x0A (of 0x70 4 ∷ of 0x71 4 ∷ []) 0
    ∷ listed 41 0x0A (of 0x70 5 ∷ []) 0
    ∷ listed 42 0x0A (of 0x71 5 ∷ []) 0
    -- "50 model (05 and 07)"
    ∷ listed 50 0x10 (of 0x05 4 ∷ of 0x07 4 ∷ []) 0
    -- "60 frame type, 61 interval 0-65535"
    ∷ listed 60 0x20 (of 0x01 4 ∷ of 0x02 4 ∷ []) 0
    ∷ listed 61 0x20 (of 0x01 5 ∷ []) 0
    -- "70 timeout, 71 close 0-1, 72 to 75 value, min, max, default of a selection"; other popups have no numbers there
    ∷ listed 70 0x22 (of 0x01 6 ∷ []) 0
    ∷ listed 71 0x22 (of 0x01 7 ∷ []) 0
    ∷ listed 72 0x22 (of 0x01 9 ∷ []) 0
    ∷ listed 73 0x22 (of 0x01 10 ∷ []) 0
    ∷ listed 74 0x22 (of 0x01 11 ∷ []) 0
    ∷ listed 75 0x22 (of 0x01 12 ∷ []) 0
    -- "76 returned value, 77 response 0-1"
    ∷ listed 76 0x22 (of 0x02 4 ∷ []) 0
    ∷ listed 77 0x22 (of 0x02 5 ∷ []) 0
    -- "of an ACK's body only, 80 command id, 81 sub id, 82 action 0-1"; an ACK's sub-command counts as 0
    ∷ listed 80 0xFF (of 0 3 ∷ []) 0
    ∷ listed 81 0xFF (of 0 4 ∷ []) 0
    ∷ listed 82 0xFF (of 0 5 ∷ []) 0
    ∷ []

-- where a field of this number stands in a command of this family and sub-command; 7: nowhere
abbrev pub item_in : List Standing → ℕ → Answer ℕ
item_in [] sub = refused 7 0
item_in (of k i ∷ l) sub = pick (eqb sub k) (got i) (item_in l sub)

abbrev pub spot_in : List Listed → ℕ → ℕ → ℕ → Answer Spot
spot_in [] id sub f = refused 7 0
spot_in (everywhere k i ∷ l) id sub f = pick (eqb f k) (got (spot i 0)) (spot_in l id sub f)
spot_in (listed k family at j ∷ l) id sub f =
    pick (eqb f k) (pick (eqb id family) (and_then (item_in at sub) (λ i. got (spot i j))) (refused 7 0)) (spot_in l id sub f)

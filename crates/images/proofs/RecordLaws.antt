-- A record and its image are each other's. Assumes nothing.
use Rattle.std.specs.Prelude.{Ok, Err}
use Prim.Native.Nat.{ℕ, ◌+◌, ◌-◌, ◌%◌, ◌<◌, ◌≤◌}
use mathlib.Core.Bool.{Bool, true, false, ◌&&◌}
use mathlib.Core.List.{List, [], ◌∷◌, ◌++◌, append_assoc}
use mathlib.Core.Path.{◌≡◌, refl, ap, sym, ◌∙◌}
use native.Mathlib.Omega.{arith}
use lib.ListN.{length, take, drop, get_or, set, length-set, length-append, length-drop, take-append-drop}
use lib.Seq.{sets, sets-eq, drop-cons, drop-drop, length-take-le, take_all, get_or_at, drop-append-add}
use lib.Dec.{eqb}
use borrow.Rule.Slice.PartMut.{put_mid}
use lib.Pointwise.{pointwise}
use borrow.Author.Tests.{eq-eqb}
use Rattle.codec.specs.Pick.{pick}
use Rattle.codec.specs.Sheet.{Answer, got, refused}
use Rattle.codec.specs.Writing.{put_at}
use Rattle.codec.proofs.Digits.{number-bytes}
use Rattle.codec.specs.Same.{same}
use Rattle.codec.proofs.Same.{same_self, same_true, same_seam}
use Rattle.codec.specs.declared.refusal.Refusal.TheVariants.{RecordNotMade}
use Rattle.families.specs.Payload.{family_id}
use Rattle.families.specs.declared.fc.FcCommand.TheVariants.{ForceDisarm, ScaleChannel}
use Rattle.families.specs.declared.vtx.VtxCommand.{VtxCommand}
use Rattle.families.specs.declared.vtx.VtxCommand.TheVariants.{SetFrequency, EnablePitModeOnPowerUp, PowerUpFromPitMode, SetDynamicPower, SetPower}
use Rattle.families.specs.declared.led.LedColor.{LedColor}
use Rattle.families.specs.declared.led.LedCommand.{LedCommand}
use Rattle.families.specs.declared.led.LedCommand.TheVariants.{SetDefault, OverrideColor, OverridePulse, OverrideBlink, OverrideShift}
use Rattle.families.specs.declared.general.GeneralCommand.{GeneralCommand}
use Rattle.families.specs.declared.general.GeneralCommand.TheVariants.{SpeedProposal, SpeedProposalResponse}
use Rattle.families.specs.declared.crossfire.CrossfireCommand.TheVariants.{SetReceiverInBindMode, CancelBindMode, SetBindId, ModelSelection, CurrentModelSelection, ReplyCurrentModelSelection, EnableRxTelemetry, DisableRxTelemetry, FactoryReset, ResetToFactoryFirmware}
use Rattle.families.specs.declared.flow_control.FlowControlCommand.{FlowControlCommand}
use Rattle.families.specs.declared.flow_control.FlowControlCommand.TheVariants.{Subscribe, Unsubscribe}
use Rattle.families.specs.declared.screen.ScreenCommand.TheVariants.{PopupMessageStart, SelectionReturnValue}
use Rattle.families.specs.declared.payload.CommandPayload.{CommandPayload}
use Rattle.families.specs.declared.payload.CommandPayload.TheVariants.{Fc, Osd, Vtx, Led, General, Crossfire, FlowControl, Screen, Ack}
use Rattle.families.proofs.PutFields.{behind}
use Rattle.commands.specs.Reading.{CommandIs}
use Rattle.commands.specs.declared.DirectCommands.{DirectCommands}
use Rattle.images.specs.Text.{stored}
use Rattle.images.specs.Values.{payload_laid, payload_at}
use Rattle.images.specs.Record.{record_image, record_at, record_from}
use Rattle.images.proofs.TextLaws.{chunk-put, byte_mod}
use Rattle.families.proofs.ScreenLaws.{bit_is}

-- ---- sizes
pub laid-size : (p : CommandPayload) → length (payload_laid p) ≡ 11
unfolding payload_laid
laid-size (Fc ForceDisarm) = refl
laid-size (Fc ScaleChannel) = refl
laid-size (Osd c) = refl
laid-size (Vtx (SetFrequency f)) = refl
laid-size (Vtx (EnablePitModeOnPowerUp mode control switch)) = refl
laid-size (Vtx PowerUpFromPitMode) = refl
laid-size (Vtx (SetDynamicPower p)) = refl
laid-size (Vtx (SetPower p)) = refl
laid-size (Led SetDefault) = refl
laid-size (Led (OverrideColor c)) = refl
laid-size (Led (OverridePulse t a b)) = refl
laid-size (Led (OverrideBlink t a b)) = refl
laid-size (Led (OverrideShift t c)) = refl
laid-size (General (SpeedProposal port baud)) = refl
laid-size (General (SpeedProposalResponse port accepted)) = refl
laid-size (Crossfire SetReceiverInBindMode) = refl
laid-size (Crossfire CancelBindMode) = refl
laid-size (Crossfire SetBindId) = refl
laid-size (Crossfire (ModelSelection model)) = refl
laid-size (Crossfire CurrentModelSelection) = refl
laid-size (Crossfire (ReplyCurrentModelSelection model)) = refl
laid-size (Crossfire EnableRxTelemetry) = refl
laid-size (Crossfire DisableRxTelemetry) = refl
laid-size (Crossfire FactoryReset) = refl
laid-size (Crossfire ResetToFactoryFirmware) = refl
laid-size (FlowControl (Subscribe frame interval)) = refl
laid-size (FlowControl (Unsubscribe frame)) = refl
laid-size (Screen PopupMessageStart) = refl
laid-size (Screen (SelectionReturnValue value response)) = refl
laid-size (Ack a) = refl

pub record_size_lem : (c : DirectCommands) → length c.bytes ≡ 55 → length (record_image c) ≡ 70
record_size_lem c l =
    let a = length-append (payload_laid c.payload) (stored c.len c.bytes) in
    let b = laid-size c.payload in
    omega arith

-- ---- the image put into the first 70 bytes, which are y: three bytes, the 11 of the payload, what is stored
mid-put : (s v : List ℕ) (at n : ℕ) → at + n ≤ length s → length v ≡ n → put_mid at n s v ≡ sets s at v
mid-put s v at n h l =
    let k : at + n ≡ at + length v = omega arith in
    let e : sets s at v ≡ take at s ++ (v ++ drop (at + length v) s) = simp append_assoc at (sets-eq v s at (omega arith)) in
    ap (λ (r : List ℕ). take at s ++ (v ++ r)) (drop-drop n at s ∙ ap (λ (i : ℕ). drop i s) k) ∙ sym e

pub record_put : (s y s2 v : List ℕ) (c : DirectCommands) (id : ℕ) → length c.bytes ≡ 55 → 70 ≤ length s → y ≡ take 70 s
    → v ≡ payload_laid c.payload → id ≡ family_id c.payload
    → s2 ≡ sets (put_mid 3 11 (set (set (set y 0 c.dst_addr) 1 c.src_addr) 2 id) v) 14 (stored c.len c.bytes)
    → s2 ++ drop 70 s ≡ put_at s 0 (record_image c)
record_put s y s2 v c id l h e g i f =
    let t = set (set (set y 0 c.dst_addr) 1 c.src_addr) 2 id in
    let m : length v ≡ 11 = ap length g ∙ laid-size c.payload in
    let y-long : length y ≡ 70 = ap length e ∙ length-take-le 70 s h in
    let t-long : length t ≡ length y = simp length-set in
    let put : s2 ≡ sets y 0 (c.dst_addr ∷ c.src_addr ∷ id ∷ (v ++ stored c.len c.bytes)) =
    behind t (put_mid 3 11 t v) s2 v (stored c.len c.bytes) 3 14 (mid-put t v 3 11 (omega arith) m) (omega arith) f in
    chunk-put s y s2 (record_image c) 70 (record_size_lem c l) h e (rw (g, i) at put)

-- ---- the part of an image that a payload decides
abbrev pub id_and_laid : CommandPayload → List ℕ
id_and_laid p = family_id p ∷ payload_laid p

part : (s : List ℕ) → length s ≡ 70 → take 12 (drop 2 s) ≡ get_or s 2 0 ∷ take 11 (drop 3 s)
part s l = ap (λ (r : List ℕ). take 12 r) (drop-cons s 2 0 (omega arith))

-- what `==` of slices answers
same_is : (r s : List ℕ) → pointwise eqb r s ≡ same r s
same_is [] [] = refl
same_is [] (b ∷ s) = refl
same_is (a ∷ r) [] = refl
same_is (a ∷ r) (b ∷ s) = by (eqb a b) (same_is r s)
  where
    by : (t : Bool) → pointwise eqb r s ≡ same r s → (t && pointwise eqb r s) ≡ pick t (same r s) false
    by true e = e
    by false e = refl

pub values_decide : (s v : List ℕ) (p : CommandPayload) (id : ℕ) (r : Bool) → length s ≡ 70 → id ≡ family_id p → get_or s 2 0 ≡ id → v ≡ payload_laid p
    → r ≡ pointwise eqb v (take (length v) (take 67 (drop 3 s))) → r ≡ same (id_and_laid p) (take 12 (drop 2 s))
values_decide s v p id r l e n g h =
    let d : eqb (family_id p) (get_or s 2 0) ≡ true = eq-eqb (family_id p) (get_or s 2 0) (sym e ∙ sym n) in
    let m : length v ≡ 11 = ap length g ∙ laid-size p in
    let b = length-drop 3 s in
    let t : take 67 (drop 3 s) ≡ drop 3 s = take_all 67 (drop 3 s) (omega arith) in
    h
    ∙ rw (m, t) (same_is v (take 11 (drop 3 s)))
    ∙ ap (λ (w : List ℕ). same w (take 11 (drop 3 s))) g
    ∙ sym (ap (λ (w : List ℕ). same (id_and_laid p) w) (part s l) ∙ ap (λ (t : Bool). pick t (same (payload_laid p) (take 11 (drop 3 s))) false) d)

both_true : (b : Bool) → pick b true false ≡ b
both_true true = refl
both_true false = refl

-- an image in its parts
whole : (s : List ℕ) → length s ≡ 70 → s ≡ get_or s 0 0 ∷ get_or s 1 0 ∷ (take 12 (drop 2 s) ++ get_or s 14 0 ∷ drop 15 s)
whole s l =
    let a : drop 2 s ≡ take 12 (drop 2 s) ++ get_or s 14 0 ∷ drop 15 s =
    sym (take-append-drop 12 (drop 2 s)) ∙ ap (λ (r : List ℕ). take 12 (drop 2 s) ++ r) (drop-drop 12 2 s ∙ drop-cons s 14 0 (omega arith)) in
    drop-cons s 0 0 (omega arith)
    ∙ ap (λ (r : List ℕ). get_or s 0 0 ∷ r) (drop-cons s 1 0 (omega arith) ∙ ap (λ (r : List ℕ). get_or s 1 0 ∷ r) a)

pub image_same : (s : List ℕ) → length s ≡ 70 → get_or s 14 0 < 256
    → same (record_image (record_at s)) s ≡ same (id_and_laid (payload_at s)) (take 12 (drop 2 s))
image_same s l b =
    let w = id_and_laid (payload_at s) in
    let m = take 12 (drop 2 s) in
    let t = get_or s 14 0 ∷ drop 15 s in
    let d : length (drop 2 s) ≡ 68 = length-drop 2 s ∙ (let q : length s - 2 ≡ 68 = omega arith in q) in
    let k : length w ≡ length m = omega (arith, laid-size (payload_at s), length-take-le 12 (drop 2 s) (omega arith)) in
    ap (λ (n : ℕ). same (get_or s 0 0 ∷ get_or s 1 0 ∷ (w ++ n ∷ drop 15 s)) s) (byte_mod (get_or s 14 0) b)
    ∙ ap (λ (r : List ℕ). same (get_or s 0 0 ∷ get_or s 1 0 ∷ (w ++ t)) r) (whole s l)
    ∙ ap (λ (x : Bool). pick x (pick (eqb (get_or s 1 0) (get_or s 1 0)) (same (w ++ t) (m ++ t)) false) false) (eq-eqb (get_or s 0 0) (get_or s 0 0) refl)
    ∙ ap (λ (x : Bool). pick x (same (w ++ t) (m ++ t)) false) (eq-eqb (get_or s 1 0) (get_or s 1 0) refl)
    ∙ same_seam w m t t k
    ∙ ap (λ (x : Bool). pick (same w m) x false) (same_self t)
    ∙ both_true (same w m)

-- ---- the ways through reading
from_is : (s : List ℕ) (b : Bool) → length s ≡ 70 → same (record_image (record_at s)) s ≡ b → record_from s ≡ pick b (got (record_at s)) (refused 5 0)
from_is s b l e =
    ap (λ (t : Bool). pick t (pick (same (record_image (record_at s)) s) (got (record_at s)) (refused 5 0)) (refused 5 0)) (eq-eqb (length s) 70 l)
    ∙ ap (λ (t : Bool). pick t (got (record_at s)) (refused 5 0)) e

pub from-laid : (s : List ℕ) (p : CommandPayload) (b r : Bool) → length s ≡ 70 → get_or s 14 0 < 256 → p ≡ payload_at s
    → r ≡ same (id_and_laid p) (take 12 (drop 2 s)) → r ≡ b → record_from s ≡ pick b (got (record_at s)) (refused 5 0)
from-laid s p b r l h e f g =
    from_is s b l (image_same s l h ∙ ap (λ (q : CommandPayload). same (id_and_laid q) (take 12 (drop 2 s))) (sym e) ∙ sym f ∙ g)

pub not_told : (a : Answer DirectCommands) → a ≡ refused 5 0 → CommandIs a (Err RecordNotMade)
not_told a e = rw e

-- y are the bytes of s as an array
pub record_got : (s y x : List ℕ) (p : CommandPayload) → y ≡ s → length y ≡ 70 → p ≡ payload_at y → record_from y ≡ got (record_at y)
    → x ≡ take 55 (drop 15 y)
    → CommandIs (record_from s)
    (Ok (record { dst_addr = get_or y 0 0; src_addr = get_or y 1 0; payload = p; len = get_or y 14 0; bytes = x }))
record_got s y x p w l e h f =
    let d = length-drop 15 y in
    let k : x ≡ drop 15 y = f ∙ take_all 55 (drop 15 y) (omega arith) in
    rw (ap record_from (sym w) ∙ h) (rw (e, k))

-- ---- a record whose numbers fit their types
abbrev pub FitsVtx : VtxCommand → Type 0
FitsVtx (SetFrequency f) = f < 65536
FitsVtx (EnablePitModeOnPowerUp mode control switch) = Unit {0}
FitsVtx PowerUpFromPitMode = Unit {0}
FitsVtx (SetDynamicPower p) = Unit {0}
FitsVtx (SetPower p) = Unit {0}

abbrev pub FitsLed : LedCommand → Type 0
FitsLed SetDefault = Unit {0}
FitsLed (OverrideColor c) = c.hue < 65536
FitsLed (OverridePulse t a b) = (t < 65536) × ((a.hue < 65536) × (b.hue < 65536))
FitsLed (OverrideBlink t a b) = (t < 65536) × ((a.hue < 65536) × (b.hue < 65536))
FitsLed (OverrideShift t c) = (t < 65536) × (c.hue < 65536)

abbrev pub FitsGeneral : GeneralCommand → Type 0
FitsGeneral (SpeedProposal port baud) = baud < 4294967296
FitsGeneral (SpeedProposalResponse port accepted) = Unit {0}

abbrev pub FitsFlow : FlowControlCommand → Type 0
FitsFlow (Subscribe frame interval) = interval < 65536
FitsFlow (Unsubscribe frame) = Unit {0}

-- a number of one byte stands as it is
abbrev pub FitsPayload : CommandPayload → Type 0
FitsPayload (Fc c) = Unit {0}
FitsPayload (Osd c) = Unit {0}
FitsPayload (Vtx c) = FitsVtx c
FitsPayload (Led c) = FitsLed c
FitsPayload (General c) = FitsGeneral c
FitsPayload (Crossfire c) = Unit {0}
FitsPayload (FlowControl c) = FitsFlow c
FitsPayload (Screen c) = Unit {0}
FitsPayload (Ack a) = Unit {0}

abbrev pub Fits : DirectCommands → Type 0
Fits c = (length c.bytes ≡ 55) × ((c.len < 256) × FitsPayload c.payload)

-- ---- record → image → record
colour_back : (c : LedColor) (n : ℕ) → n ≡ c.hue → ◌≡◌ {A = LedColor} (record { hue = n; saturation = c.saturation; value = c.value }) c
colour_back c n e = rw e

fade_back : (f : ℕ → LedColor → LedColor → LedCommand) (n x y z : ℕ) (a b : LedColor) → x ≡ n → y ≡ a.hue → z ≡ b.hue
    → f x (record { hue = y; saturation = a.saturation; value = a.value }) (record { hue = z; saturation = b.saturation; value = b.value }) ≡ f n a b
fade_back f n x y z a b d e g = rw (d, e, g)

payload_back : (p : CommandPayload) (dst src : ℕ) (t : List ℕ) → FitsPayload p → payload_at (dst ∷ src ∷ family_id p ∷ (payload_laid p ++ t)) ≡ p
unfolding payload_at payload_laid
payload_back (Fc ForceDisarm) dst src t h = refl
payload_back (Fc ScaleChannel) dst src t h = refl
payload_back (Osd c) dst src t h = refl
payload_back (Vtx (SetFrequency f)) dst src t h = ap (λ (n : ℕ). Vtx (SetFrequency n)) (number-bytes 2 f h)
payload_back (Vtx (EnablePitModeOnPowerUp mode control switch)) dst src t h = ap (λ (b : Bool). Vtx (EnablePitModeOnPowerUp b control switch)) (bit_is mode)
payload_back (Vtx PowerUpFromPitMode) dst src t h = refl
payload_back (Vtx (SetDynamicPower p)) dst src t h = refl
payload_back (Vtx (SetPower p)) dst src t h = refl
payload_back (Led SetDefault) dst src t h = refl
payload_back (Led (OverrideColor c)) dst src t h = ap (λ (x : LedColor). Led (OverrideColor x)) (colour_back c _ (number-bytes 2 c.hue h))
payload_back (Led (OverridePulse n a b)) dst src t h =
    ap (λ (c : LedCommand). Led c)
    (fade_back (λ x y z. OverridePulse x y z) n _ _ _ a b (number-bytes 2 n h.0) (number-bytes 2 a.hue h.1.0) (number-bytes 2 b.hue h.1.1))
payload_back (Led (OverrideBlink n a b)) dst src t h =
    ap (λ (c : LedCommand). Led c)
    (fade_back (λ x y z. OverrideBlink x y z) n _ _ _ a b (number-bytes 2 n h.0) (number-bytes 2 a.hue h.1.0) (number-bytes 2 b.hue h.1.1))
payload_back (Led (OverrideShift n c)) dst src t h =
    ap (λ (c : LedCommand). Led c) (fade_back (λ x y z. OverrideShift x y) n _ _ _ c c (number-bytes 2 n h.0) (number-bytes 2 c.hue h.1) refl)
payload_back (General (SpeedProposal port baud)) dst src t h = ap (λ (n : ℕ). General (SpeedProposal port n)) (number-bytes 4 baud h)
payload_back (General (SpeedProposalResponse port accepted)) dst src t h = ap (λ (b : Bool). General (SpeedProposalResponse port b)) (bit_is accepted)
payload_back (Crossfire SetReceiverInBindMode) dst src t h = refl
payload_back (Crossfire CancelBindMode) dst src t h = refl
payload_back (Crossfire SetBindId) dst src t h = refl
payload_back (Crossfire (ModelSelection model)) dst src t h = refl
payload_back (Crossfire CurrentModelSelection) dst src t h = refl
payload_back (Crossfire (ReplyCurrentModelSelection model)) dst src t h = refl
payload_back (Crossfire EnableRxTelemetry) dst src t h = refl
payload_back (Crossfire DisableRxTelemetry) dst src t h = refl
payload_back (Crossfire FactoryReset) dst src t h = refl
payload_back (Crossfire ResetToFactoryFirmware) dst src t h = refl
payload_back (FlowControl (Subscribe frame interval)) dst src t h = ap (λ (n : ℕ). FlowControl (Subscribe frame n)) (number-bytes 2 interval h)
payload_back (FlowControl (Unsubscribe frame)) dst src t h = refl
payload_back (Screen PopupMessageStart) dst src t h = refl
payload_back (Screen (SelectionReturnValue value response)) dst src t h = ap (λ (b : Bool). Screen (SelectionReturnValue value b)) (bit_is response)
payload_back (Ack a) dst src t h = refl

record_same : (c : DirectCommands) (p : CommandPayload) (n : ℕ) (b : List ℕ) → p ≡ c.payload → n ≡ c.len → b ≡ c.bytes
    → ◌≡◌ {A = DirectCommands} (record { dst_addr = c.dst_addr; src_addr = c.src_addr; payload = p; len = n; bytes = b }) c
record_same c p n b e f g = rw (e, f, g)

at_back : (c : DirectCommands) → Fits c → record_at (record_image c) ≡ c
at_back c h =
    let v = payload_laid c.payload in
    let l = laid-size c.payload in
    let st = stored c.len c.bytes in
    let e : 12 ≡ length v + 1 = omega arith in
    record_same c _ _ _
    (payload_back c.payload c.dst_addr c.src_addr st h.1.1)
    (get_or_at v (c.len % 256) c.bytes 0 11 l ∙ byte_mod c.len h.1.0)
    (ap (λ (n : ℕ). drop n (v ++ st)) e ∙ drop-append-add v st 1)

pub record_back : (c : DirectCommands) → Fits c → record_from (record_image c) ≡ got c
record_back c h =
    let s = record_image c in
    let e = at_back c h in
    from_is s true (record_size_lem c h.0) (ap (λ (x : DirectCommands). same (record_image x) s) e ∙ same_self s)
    ∙ ap (λ (x : DirectCommands). got x) e

-- ---- image → record → image
pub record_forth : (s : List ℕ) (c : DirectCommands) → record_from s ≡ got c → record_image c ≡ s
record_forth s c = by (eqb (length s) 70) (same (record_image (record_at s)) s) refl
  where
    by : (t u : Bool) → same (record_image (record_at s)) s ≡ u → pick t (pick u (got (record_at s)) (refused 5 0)) (refused 5 0) ≡ got c → record_image c ≡ s
    by true true e h = let g : c ≡ record_at s = cc in ap (λ (x : DirectCommands). record_image x) g ∙ same_true (record_image (record_at s)) s e
    by true false e h = let z : ◌≡◌ {A = ℕ} 0 1 = cc in absurd (omega arith)
    by false u e h = let z : ◌≡◌ {A = ℕ} 0 1 = cc in absurd (omega arith)

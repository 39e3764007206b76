-- Images put part by part at the front of a slice. Assumes nothing.
use Prim.Native.Nat.{ℕ, ◌+◌, ◌*◌, ◌/◌, ◌%◌, ◌≤◌}
use mathlib.Core.Bool.{Bool}
use mathlib.Core.List.{List, [], ◌∷◌, ◌++◌}
use mathlib.Core.Path.{◌≡◌, refl, ap, sym, ◌∙◌}
use native.Mathlib.Omega.{arith}
use lib.ListN.{length, length-append}
use lib.Seq.{sets}
use Rattle.codec.specs.Digits.{bytes_of}
use Rattle.codec.specs.Writing.{put_at}
use Rattle.codec.specs.Told.{bit}
use Rattle.codec.proofs.Digits.{split-high}
use Rattle.codec.proofs.Writes.{put_first, put-start, put_on}
use Rattle.images.specs.Record.{record_image}
use Rattle.images.proofs.RecordLaws.{record_size_lem}
use denote.Enum.Declared.{tag_of}
use Rattle.replay.specs.contracts.Kind.{the_type}
use Rattle.replay.specs.declared.Kind.{Kind}
use Rattle.replay.specs.declared.Kind.TheVariants.{Nothing, Command, Refused, Damaged, Gap, Back}
use Rattle.replay.specs.declared.Event.{Event}
use Rattle.replay.specs.declared.Replay.{Replay}
use Rattle.replay_images.specs.State.{state_image}
use Rattle.replay_images.specs.Event.{kind_number, head_image, event_image}

-- two bytes hold the last 16 bits
word_of : (n : ℕ) → bytes_of 2 (n % 65536) ≡ bytes_of 2 n
word_of n =
    let e : n ≡ n / 65536 * 65536 + n % 65536 = omega arith in
    sym (ap (λ (k : ℕ). bytes_of 2 k) e ∙ split-high (8 ∷ 8 ∷ []) (n / 65536) (n % 65536))

pub state-put : (t : Replay) (s s1 s2 s3 : List ℕ) (a : ℕ) → 7 ≤ length s → a ≡ bit t.started
    → s1 ≡ put_at s 0 (a ∷ []) → s2 ≡ put_at s1 1 (bytes_of 4 t.number) → s3 ≡ put_at s2 5 (bytes_of 2 (t.place % 65536))
    → s3 ≡ put_at s 0 (state_image t)
state-put t s s1 s2 s3 a l e f g h =
    let n = bytes_of 4 t.number in
    let p : s3 ≡ put_at s2 5 (bytes_of 2 t.place) = h ∙ ap (put_at s2 5) (word_of t.place) in
    let one = put-start s s1 (bit t.started ∷ []) (omega arith) (f ∙ ap (λ (x : ℕ). put_at s 0 (x ∷ [])) e) in
    let two = put_on s s1 s2 (bit t.started ∷ []) n 1 one g refl (omega arith) in
    let three = put_on s s2 s3 (bit t.started ∷ n) (bytes_of 2 t.place) 5 two p refl (omega arith) in
    three ∙ sym (put_first s (state_image t) (omega arith))

-- the byte of a kind is its number
pub kind-number : (k : Kind) → tag_of the_type k ≡ kind_number k
kind-number Nothing = refl
kind-number Command = refl
kind-number Refused = refl
kind-number Damaged = refl
kind-number Gap = refl
kind-number Back = refl

pub head-put : (more : Bool) (e : Event) (s s1 s2 s3 s4 s5 s6 : List ℕ) (a b : ℕ) → 80 ≤ length s
    → a ≡ kind_number e.kind → b ≡ bit more
    → s1 ≡ put_at s 0 (a ∷ []) → s2 ≡ put_at s1 1 (b ∷ []) → s3 ≡ put_at s2 2 (bytes_of 4 e.block) → s4 ≡ put_at s3 6 (bytes_of 2 (e.place % 65536))
    → s5 ≡ put_at s4 8 (e.number ∷ []) → s6 ≡ put_at s5 9 (e.payload_place ∷ []) → s6 ≡ sets s 0 (head_image more e)
head-put more event s s1 s2 s3 s4 s5 s6 a b l d e f1 f2 f3 f4 f5 f6 =
    let k = event.kind in
    let block = event.block in
    let place = event.place in
    let number = event.number in
    let at = event.payload_place in
    let p : s4 ≡ put_at s3 6 (bytes_of 2 place) = f4 ∙ ap (put_at s3 6) (word_of place) in
    let h1 = kind_number k ∷ [] in
    let h2 = kind_number k ∷ bit more ∷ [] in
    let h3 = kind_number k ∷ bit more ∷ bytes_of 4 block in
    let h4 = kind_number k ∷ bit more ∷ (bytes_of 4 block ++ bytes_of 2 place) in
    let h5 = kind_number k ∷ bit more ∷ (bytes_of 4 block ++ (bytes_of 2 place ++ (number ∷ []))) in
    let g1 = put-start s s1 h1 (omega arith) (f1 ∙ ap (λ (x : ℕ). put_at s 0 (x ∷ [])) d) in
    let g2 = put_on s s1 s2 h1 (bit more ∷ []) 1 g1 (f2 ∙ ap (λ (x : ℕ). put_at s1 1 (x ∷ [])) e) refl (omega arith) in
    let g3 = put_on s s2 s3 h2 (bytes_of 4 block) 2 g2 f3 refl (omega arith) in
    let g4 = put_on s s3 s4 h3 (bytes_of 2 place) 6 g3 p refl (omega arith) in
    let g5 = put_on s s4 s5 h4 (number ∷ []) 8 g4 f5 refl (omega arith) in
    put_on s s5 s6 h5 (at ∷ []) 9 g5 f6 refl (omega arith)

pub event-size : (more : Bool) (e : Event) → length e.command.bytes ≡ 55 → length (event_image more e) ≡ 80
event-size more e l =
    length-append (head_image more e) (record_image e.command)
    ∙ ap (λ (n : ℕ). 10 + n) (record_size_lem e.command l)

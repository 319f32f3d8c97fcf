-- Laws of the page and of the texts: what is written one text after the other is written as one text, a text that fits
-- stands in the slice whole, and how long a text can be.
-- Assumes nothing.
use Prim.Native.Nat.{ℕ, zero, suc, ◌+◌, ◌*◌, ◌/◌, ◌<◌, ◌≤◌}
use mathlib.Core.Path.{◌≡◌, refl, sym, ap, ◌∙◌}
use mathlib.Core.Bool.{Bool, true, false, false≢true}
use mathlib.Core.List.{List, [], ◌∷◌, ◌++◌, append-nil}
use native.Mathlib.Omega.{arith}
use native.Mathlib.Nat.{add-zero}
use native.Mathlib.Numerals.{add-one}
use borrow.Author.Tests.{lt-ltb, le-ltb}
use lib.Dec.{ltb}
use lib.ListN.{length, take, drop, set, length-set, length-append, take-append-drop}
use lib.Seq.{append_snoc, drop-set-lt, take-suc-set}
use Rattle.frame.proofs.Choice.{pick_true, pick_false, pick_elim}
use Rattle.frame.specs.declared.Frame.{Frame}
use Rattle.receiver.specs.Told as receiver_told
use Rattle.sender.specs.Told as sender_told
use Rattle.text.specs.Page.{Page, page, byte_at, put}
use Rattle.text.specs.Text.{digits_in, decimal, spaced, hexes, letter_s, letter_r, head_of, frame_line, emitted_text, sent_line, failed_line, delivered_line, closed_line, short_line, sender_report, receiver_report, refused_text, has_sender_report, has_receiver_report}

-- ---- the page

-- two texts, one after the other
pub put_append : (p : Page) (a b : List ℕ) → put (put p a) b ≡ put p (a ++ b)
unfolding put
put_append p [] b = refl
put_append p (x ∷ a) b = put_append (byte_at p x) a b

-- the slice keeps its length
pub length_byte : (p : Page) (b : ℕ) → length (byte_at p b).bytes ≡ length p.bytes
unfolding byte_at
length_byte p b =
    pick_elim (λ (q : Page). length q.bytes ≡ length p.bytes) (ltb p.place (length p.bytes))
    (λ room. length-set p.bytes p.place b) (λ full. refl)

pub length_put : (p : Page) (text : List ℕ) → length (put p text).bytes ≡ length p.bytes
unfolding put
length_put p [] = refl
length_put p (b ∷ text) = length_put (byte_at p b) text ∙ length_byte p b

-- a byte that has room stands at the place
pub byte_fits : (p : Page) (b : ℕ) → p.place < length p.bytes → byte_at p b ≡ page (set p.bytes p.place b) (p.place + 1)
unfolding byte_at
byte_fits p b room = sym (pick_true p (lt-ltb p.place (length p.bytes) room) refl)

pub byte_full : (p : Page) (b : ℕ) → length p.bytes ≤ p.place → byte_at p b ≡ p
unfolding byte_at
byte_full p b full = sym (pick_false _ (le-ltb p.place (length p.bytes) full) refl)

-- a text that has room stands there whole, from the place on, and the place moves behind it
pub put_fits : (p : Page) (text : List ℕ) → p.place + length text ≤ length p.bytes
    → put p text
    ≡ page (take p.place p.bytes ++ text ++ drop (p.place + length text) p.bytes) (p.place + length text)
unfolding put
put_fits p [] fits =
    rw (add-zero, append-nil) (ap (λ (s : List ℕ). page s p.place) (sym (take-append-drop p.place p.bytes)))
put_fits p (b ∷ text) fits =
    let s : List ℕ = p.bytes in
    let at : ℕ = p.place in
    let room : at < length s = omega arith in
    let same : at + 1 + length text ≡ at + length (b ∷ text) = omega arith in
    rw (byte_fits p b room)
    (put_fits (page (set s at b) (at + 1)) text (rw length-set (omega arith))
    ∙ rw (same, drop-set-lt (at + length (b ∷ text)) s at b (omega arith), add-one, take-suc-set s at b room, append_snoc))

-- ---- lengths

digits_length : (places n : ℕ) → length (digits_in places n) ≤ places
unfolding digits_in
digits_length zero n = omega arith
digits_length (suc places) n =
    pick_elim (λ (l : List ℕ). length l ≤ suc places) (ltb n 10) (λ small. omega arith)
    (λ large. rw length-append (omega (arith, digits_length places (n / 10))))

spaced_length : (n : ℕ) → length (spaced n) ≤ 6
unfolding spaced decimal
spaced_length n = omega (arith, digits_length 5 n)

hexes_length : (bytes : List ℕ) → length (hexes bytes) ≡ 3 * length bytes
unfolding hexes
hexes_length [] = refl
hexes_length (b ∷ bytes) = omega (arith, hexes_length bytes)

module _ (number : ℕ) where
  head_length : (letter : ℕ) → length (head_of number letter) ≤ 7
  unfolding head_of decimal
  head_length letter = rw length-append (omega (arith, digits_length 5 number))

  pub emitted_length : (letter : ℕ) (emits : Bool) (f : Frame) → length f.bytes ≡ 8
      → length (emitted_text number letter emits f) ≤ 38
  unfolding emitted_text frame_line
  emitted_length letter true f eight =
      simp length-append (omega (arith, head_length letter, spaced_length f.kind, hexes_length f.bytes))
  emitted_length letter false f eight = omega arith

  pub sender_report_length : (o : sender_told.Outcome) → length (sender_report number o) ≤ 33
  unfolding sender_report sent_line failed_line
  sender_report_length sender_told.quiet = omega arith
  sender_report_length (sender_told.refused n) = omega arith
  sender_report_length (sender_told.sent ticks frames) =
      simp length-append (omega (arith, head_length letter_s, spaced_length ticks, spaced_length frames))
  sender_report_length (sender_told.failed cause ticks frames) =
      simp length-append
      (omega (arith, head_length letter_s, spaced_length cause, spaced_length ticks, spaced_length frames))

  pub receiver_report_length : (o : receiver_told.Outcome) (bytes : List ℕ) → length bytes ≡ 8
      → length (receiver_report number o bytes) ≤ 38
  unfolding receiver_report delivered_line closed_line short_line
  receiver_report_length receiver_told.quiet bytes eight = omega arith
  receiver_report_length (receiver_told.refused n) bytes eight = omega arith
  receiver_report_length (receiver_told.delivered size) bytes eight =
      simp length-append (omega (arith, head_length letter_r, spaced_length size))
  receiver_report_length (receiver_told.failed cause) bytes eight =
      simp length-append (omega (arith, head_length letter_r, spaced_length cause))
  receiver_report_length receiver_told.short bytes eight =
      simp length-append (omega (arith, head_length letter_r, hexes_length bytes))

  pub refused_text_length : length (refused_text number) ≤ 14
  unfolding refused_text
  refused_text_length = simp length-append (omega (arith, spaced_length number))

-- ---- what is not there is not printed

pub no_frame : (number letter : ℕ) (emits : Bool) (f : Frame) → emits ≡ false → emitted_text number letter emits f ≡ []
unfolding emitted_text
no_frame number letter emits f e = rw e refl

pub no_sender_report : (number : ℕ) (o : sender_told.Outcome) → has_sender_report o ≡ false → sender_report number o ≡ []
unfolding sender_report
no_sender_report number sender_told.quiet q = refl
no_sender_report number (sender_told.refused n) q = refl
no_sender_report number (sender_told.sent ticks frames) q = absurd (false≢true (sym q))
no_sender_report number (sender_told.failed cause ticks frames) q = absurd (false≢true (sym q))

pub no_receiver_report : (number : ℕ) (o : receiver_told.Outcome) (bytes : List ℕ) → has_receiver_report o ≡ false
    → receiver_report number o bytes ≡ []
unfolding receiver_report
no_receiver_report number receiver_told.quiet bytes q = refl
no_receiver_report number (receiver_told.refused n) bytes q = refl
no_receiver_report number (receiver_told.delivered l) bytes q = absurd (false≢true (sym q))
no_receiver_report number (receiver_told.failed cause) bytes q = absurd (false≢true (sym q))
no_receiver_report number receiver_told.short bytes q = absurd (false≢true (sym q))

-- What one call prints, and what is left after it. A list of events is played part by part; each part's text fits the page,
-- so the page holds it whole.
-- Assumes nothing.
use Prim.Native.Nat.{ℕ, zero, suc, ◌+◌, ◌-◌, ◌≤◌, min}
use mathlib.Core.Path.{◌≡◌, refl, sym, ap, subst, ◌∙◌}
use mathlib.Core.Bool.{true, ◌&&◌}
use mathlib.Core.List.{List, [], ◌∷◌, ◌++◌, append_assoc}
use native.Mathlib.Nat.{add-zero}
use native.Mathlib.Omega.{arith}
use lib.Dec.{eqb}
use lib.ListN.{length, take, drop, replicate, length-take, length-drop, drop_of_length-le, take-append-drop}
use lib.Seq.{take_at, drop-drop}
use Rattle.frame.proofs.Choice.{pick_true}
use Rattle.frame.specs.Result.{accepted}
use Rattle.pack.proofs.Laws.{length_events, read_most, read_whole}
use Rattle.pack.specs.Pack.{bodies_of, message_of, events_of}
use Rattle.pack.specs.declared.Bodies.{Bodies}
use Rattle.player.proofs.Bounds.{event_short, text_fits}
use Rattle.player.proofs.Opened.{opened}
use Rattle.player.specs.Calls.{Progressed, progressed, begin_of, playing, next_events, play_of}
use Rattle.player.specs.Events.{turn_for, events_from, world_after, run_from}
use Rattle.player.specs.Played.{start, player_for, open_of, run_of, played_opened, played}
use Rattle.player.specs.State.{Turned, printed}
use Rattle.transport.specs.Capped.{capped_step}
use Rattle.player.specs.Text.{event_text, text_of}
use Rattle.player.specs.declared.Player.{Player}
use Rattle.text.proofs.Laws.{put_fits}
use Rattle.text.specs.Page.{page, put}
use Rattle.transport.proofs.Events.{whole_world}
use Rattle.transport.proofs.Making.{make_answers}
use Rattle.transport.specs.Answer.{world_of}
use Rattle.transport.specs.World.{World, Event, begin}
use Rattle.transport.specs.declared.Ends.{Ends}

-- what a call prints: the written part of its page
abbrev pub shown : Progressed → List ℕ
shown g = take g.page.place g.page.bytes

-- what is still to be printed of a pack, from a world in which so many events have been played
unfoldable pub left_of : List ℕ → World → Bodies → ℕ → List ℕ
left_of bytes w b count = text_of (suc count) (events_from w (message_of bytes b) (drop count (events_of bytes b)))

abbrev pub left_after : List ℕ → Progressed → List ℕ
left_after bytes g = left_of bytes g.world g.bodies g.played

-- ---- part by part

events_parts : (w : World) (m xs ys : List ℕ)
    → events_from w m (xs ++ ys) ≡ events_from w m xs ++ events_from (world_after w m xs) m ys
unfolding events_from world_after
events_parts w m [] ys = refl
events_parts w m (x ∷ xs) ys =
    ap (λ (l : List Event). (turn_for w m x).event ∷ l) (events_parts (turn_for w m x).world m xs ys)

length_events_from : (w : World) (m xs : List ℕ) → length (events_from w m xs) ≡ length xs
unfolding events_from
length_events_from w m [] = refl
length_events_from w m (x ∷ xs) = ap suc (length_events_from (turn_for w m x).world m xs)

pub text_parts : (number : ℕ) (es fs : List Event)
    → text_of number (es ++ fs) ≡ text_of number es ++ text_of (number + length es) fs
unfolding text_of
text_parts number [] fs = ap (λ (k : ℕ). text_of k fs) (sym (add-zero number))
text_parts number (e ∷ es) fs =
    let same : suc number + length es ≡ number + suc (length es) = omega arith in
    ap (λ (l : List ℕ). event_text number e ++ l) (text_parts (suc number) es fs)
    ∙ sym (append_assoc (event_text number e) (text_of (suc number) es) (text_of (suc number + length es) fs))
    ∙ ap (λ (k : ℕ). (event_text number e ++ text_of (suc number) es) ++ text_of k fs) same

played_parts : (w : World) (m xs ys : List ℕ) (number : ℕ)
    → text_of number (events_from w m (xs ++ ys))
    ≡ text_of number (events_from w m xs) ++ text_of (number + length xs) (events_from (world_after w m xs) m ys)
played_parts w m xs ys number =
    ap (text_of number) (events_parts w m xs ys)
    ∙ text_parts number (events_from w m xs) (events_from (world_after w m xs) m ys)
    ∙ ap (λ (k : ℕ). text_of number (events_from w m xs) ++ text_of (number + k) (events_from (world_after w m xs) m ys))
    (length_events_from w m xs)

-- what is behind the first n
behind : (n : ℕ) (xs : List ℕ) → drop (length (take n xs)) xs ≡ drop n xs
behind zero xs = refl
behind (suc n) [] = refl
behind (suc n) (x ∷ xs) = behind n xs

-- ---- a page that has room

-- from its first place on, a text that fits is what is shown
pub page_shows : (out text : List ℕ)
    → length text ≤ length out
    → take (put (page out 0) text).place (put (page out 0) text).bytes ≡ text
page_shows out text fits =
    let room : 0 + length text ≤ length out = omega arith in
    let same : 0 + length text ≡ length text = omega arith in
    rw (put_fits (page out 0) text room) (take_at text (drop (0 + length text) out) (0 + length text) (sym same))

-- ---- the calls

-- the lent lengths pass the test
pub lent_begin : (f o : ℕ) → f ≡ 576 → o ≡ 16384 → (eqb f 576 && eqb o 16384) ≡ true
lent_begin f o e c = rw (e, c) refl

lent : (f b o : ℕ) → f ≡ 576 → b ≡ 576 → o ≡ 16384 → (eqb f 576 && eqb b 576 && eqb o 16384) ≡ true
lent f b o e d c = rw (e, d, c) refl

-- so that play plays the next events
play_on : (bytes : List ℕ) (q : Player) (forward back buffer out : List ℕ)
    → length forward ≡ 576
    → length back ≡ 576
    → length out ≡ 16384
    → (let w = world_of q.ends forward back buffer in
    let events = next_events bytes q in
    play_of bytes q forward back buffer out
    ≡ progressed (playing w (message_of bytes q.bodies) events (suc q.played) (page out 0))
    q.bodies (q.played + length events))
unfolding play_of
play_on bytes q forward back buffer out lf lb lo =
    sym (pick_true _ (lent (length forward) (length back) (length out) lf lb lo) refl)

pub play_prints : (bytes : List ℕ) (q : Player) (forward back buffer out : List ℕ)
    → length forward ≡ 576
    → length back ≡ 576
    → length out ≡ 16384
    → (let w = world_of q.ends forward back buffer in
    let on = play_of bytes q forward back buffer out in
    left_of bytes w q.bodies q.played ≡ shown on ++ left_after bytes on)
unfolding play_of playing left_of next_events
play_prints bytes q forward back buffer out lf lb lo =
    let w = world_of q.ends forward back buffer in
    let m = message_of bytes q.bodies in
    let rest = drop q.played (events_of bytes q.bodies) in
    let n = min 128 (65535 - q.played) in
    let part = take n rest in
    let after = world_after w m part in
    let number = suc q.played in
    let print = shown (progressed (playing w m part number (page out 0)) q.bodies q.played) in
    let few : length part ≤ 128 = rw length-take (omega arith) in
    let short = text_fits w m part number (whole_world q.ends forward back buffer) in
    let fits : length (text_of number (events_from w m part)) ≤ length out = omega (arith, short, few) in
    rw (play_on bytes q forward back buffer out lf lb lo)
    (ap (λ (l : List ℕ). text_of number (events_from w m l)) (sym (take-append-drop n rest))
    ∙ played_parts w m part (drop n rest) number
    ∙ ap (λ (l : List ℕ). l ++ text_of (number + length part) (events_from after m (drop n rest)))
    (sym (page_shows out (text_of number (events_from w m part)) fits))
    ∙ ap (λ (l : List ℕ). print ++ text_of (number + length part) (events_from after m l))
    (sym (behind n rest) ∙ drop-drop (length part) q.played (events_of bytes q.bodies))
    ∙ ap (λ (k : ℕ). print ++ text_of k (events_from after m (drop (q.played + length part) (events_of bytes q.bodies))))
    (suc_first q.played (length part)))
  where
    suc_first : (a k : ℕ) → suc a + k ≡ suc (a + k)
    suc_first a k = omega arith

-- the begin, of a player that was just opened
begin_from : (bytes : List ℕ) (ends : Ends) (b : Bodies) (forward back out : List ℕ)
    → world_of ends forward back (replicate 1785 0) ≡ start ends
    → length forward ≡ 576
    → length out ≡ 16384
    → (let q = player_for ends b in
    let begun = begin_of bytes q forward back (replicate 1785 0) out in
    text_of 0 (run_of bytes q) ≡ shown begun ++ left_after bytes begun)
unfolding begin_of left_of run_of run_from text_of
begin_from bytes ends b forward back out same lf lo =
    let m = message_of bytes b in
    let step = capped_step (start ends) (begin m) in
    let short = event_short (start ends) (begin m) 0 (record { forward = tt; back = tt }) in
    let fits : length (event_text 0 step.event) ≤ length out = omega (arith, short) in
    ap (λ (l : List ℕ). l ++ text_of 1 (events_from step.world m (events_of bytes b)))
    (sym (page_shows out (event_text 0 step.event) fits))
    ∙ ap (λ (t : Turned). take t.page.place t.page.bytes ++ text_of 1 (events_from t.world m (events_of bytes b)))
    (pick_true _ (lent_begin (length forward) (length out) lf lo)
    (ap (λ (v : World). printed (capped_step v (begin m)) 0 (page out 0)) (sym same)))

pub begin_prints : (bytes : List ℕ) (q : Player)
    → open_of bytes ≡ accepted q
    → (forward back out : List ℕ)
    → length forward ≡ 576
    → length out ≡ 16384
    → (let begun = begin_of bytes q forward back (replicate 1785 0) out in
    played bytes ≡ shown begun ++ left_after bytes begun)
unfolding played played_opened
begin_prints bytes q opens forward back out lf lo =
    let o = opened bytes q opens in
    let k = q.bodies.settings in
    let made = make_answers k.gap k.timeout k.limit k.patience k.window k.capacity q.ends o.made in
    rw opens
    (subst
    (λ (p : Player). let begun = begin_of bytes p forward back (replicate 1785 0) out in
    text_of 0 (run_of bytes p) ≡ shown begun ++ left_after bytes begun)
    o.just
    (begin_from bytes q.ends q.bodies forward back out (made.empty forward back (replicate 1785 0)) lf lo))

-- ---- how far a call comes

-- a begin plays no event
pub begin_count : (bytes : List ℕ) (q : Player) (forward back buffer out : List ℕ)
    → (let begun = begin_of bytes q forward back buffer out in (begun.bodies ≡ q.bodies) × (begun.played ≡ q.played))
unfolding begin_of
begin_count bytes q forward back buffer out = (refl, refl)

-- a call of play plays 128 events, or those that are left
pub play_count : (bytes : List ℕ) (q : Player) (forward back buffer out : List ℕ)
    → length forward ≡ 576
    → length back ≡ 576
    → length out ≡ 16384
    → bodies_of bytes ≡ accepted q.bodies
    → (let on = play_of bytes q forward back buffer out in
    (on.bodies ≡ q.bodies) × (on.played ≡ q.played + min 128 (q.bodies.events - q.played)))
unfolding play_of next_events
play_count bytes q forward back buffer out lf lb lo read =
    let n = length_events bytes q.bodies read in
    let most = read_most bytes q.bodies read in
    let whole = read_whole bytes q.bodies read in
    let on = play_on bytes q forward back buffer out lf lb lo in
    let same = ap (λ (g : Progressed). g.bodies) on in
    (same, ap (λ (g : Progressed). g.played) on ∙ rw (length-take, length-drop) (omega (arith, n, most, whole)))

-- where every event has been played nothing is left
pub left_none : (bytes : List ℕ) (w : World) (b : Bodies) (count : ℕ)
    → bodies_of bytes ≡ accepted b
    → b.events ≤ count
    → left_of bytes w b count ≡ []
unfolding left_of events_from text_of
left_none bytes w b count read done =
    let n = length_events bytes b read in
    let past : length (events_of bytes b) ≤ count = omega (arith, n) in
    rw (drop_of_length-le (events_of bytes b) past) refl

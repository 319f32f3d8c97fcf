-- Runs of which an edited claim is false, one for each edit of `Prints` and of the calls that it speaks of (claim_*.edit), and
-- for each edit of what a clean pack prints (clean_*.edit).
-- Assumes nothing.
use Prim.Native.Nat.{ℕ, suc, ◌+◌, ◌*◌, ◌≤◌, ◌<◌}
use mathlib.Core.Path.{◌≡◌, refl, sym, ap, ◌∙◌}
use mathlib.Core.Bool.{true, false, ◌&&◌, and-false}
use mathlib.Core.List.{List, [], ◌∷◌, ◌++◌, append-nil, append_assoc, append_cancel_left, append_cancel_right}
use mathlib.Core.Logic.{◌⊎◌, ⊎_elim}
use native.Mathlib.Omega.{arith}
use borrow.Author.Tests.{lt-ltb}
use lib.Dec.{eqb, leb}
use lib.ListN.{length, take, replicate, length-append, length-replicate}
use Rattle.clean.specs.Figures.{figures_for}
use Rattle.clean.specs.declared.Figures.{Figures}
use Rattle.delivery.specs.Clean.{Empty, Fits, sent_with, reports_of, reports_in, ticks_since}
use Rattle.delivery.specs.Seen.{begun_in}
use Rattle.frame.proofs.Choice.{pick_true, pick_false}
use Rattle.frame.specs.Choice.{pick}
use Rattle.frame.specs.Count.{frame_count_of}
use Rattle.line.specs.Ring.{frames_from, frames_in}
use Rattle.std.specs.Prelude.{Ok}
use Rattle.pack.proofs.Examples as pack
use Rattle.pack.specs.Pack.{message_of}
use Rattle.player.proofs.Clean.{prints_report}
use Rattle.player.proofs.Examples.{silent, clean, halfway, unheard, hasty, hasty_player, player_of, first_line, begun_player, zeros, announced, swapped, computed, fits_above_2}
use Rattle.player.proofs.Runs.{runs_exist}
use Rattle.player.proofs.Steps.{shown, page_shows, lent_begin}
use Rattle.player.proofs.Whole.{prints_played}
use Rattle.player.specs.Calls.{progressed, told_progress, begin_of, play_of, is_finished}
use Rattle.player.specs.Clean.{CleanEvents, CleanPack, clean_figures, past_of, ReportedOnce, PrintsOnce}
use Rattle.player.specs.Played.{start, run_of, played}
use Rattle.player.specs.State.{Turned, turned}
use Rattle.player.specs.Text.{event_text, text_of}
use Rattle.player.specs.Whole.{Held, held, Begins, begins, Plays, none, plays, Run}
use Rattle.player.specs.declared.Player.{Player}
use Rattle.player.specs.declared.Progress.{Progress}
use Rattle.sender.specs.Told as sender
use Rattle.text.specs.Page.{Page, page, byte_at, put}
use Rattle.text.specs.Text.{digits_in, decimal, head_of, spaced, sent_line, refused_text}
use Rattle.transport.specs.Answer.{world_of}
use Rattle.transport.specs.Capped.{capped_step}
use Rattle.transport.specs.Step.{step_of}
use Rattle.transport.specs.World.{World, Event, begin}

never : true ≡ false → ⊥
never e = let z : ◌≡◌ {A = ℕ} 0 1 = cc in omega arith

-- ---- the example's pack, begun and not yet played

abbrev begun : Run pack.example (player_of 7) 0
begun = runs_exist pack.example (player_of 7) 0

going : {text : List ℕ} {k : Held} → Plays pack.example 0 begun.first text k → is_finished k.player ≡ false
going {text} {k} none_yet =
    (prints_played pack.example (Ok (player_of 7)) (sym computed.opens)
    0 begun.begun text begun.first k begun.begin none_yet).0

-- claim_finished_a_call_early: it would be finished
pub finished_a_call_early : is_finished begun.last.player ≡ leb 7 (128 * 1) → ⊥
finished_a_call_early e = never (sym e ∙ going begun.play)

no_plays : {bytes text : List ℕ} {n : ℕ} {h k : Held} → n ≡ 0 → Plays bytes n h text k → text ≡ []
no_plays e none = refl
no_plays e (plays r forward back buffer out out' lf lb lo promise rest) = absurd (omega arith)

-- a begin prints one line of it
begun_line : {printed : List ℕ} {h : Held} → Begins pack.example (player_of 7) printed h → printed ≡ first_line
unfolding begin_of world_of frames_in frames_from message_of
begun_line (begins r forward forward' back out out' lf lf' lb lo promise) =
    let line = event_text 0 (capped_step (start (player_of 7).ends) (begin pack.message)).event in
    let thirty : length line ≡ 30 = ap length computed.begins in
    ap shown (promise back (replicate 1785 0))
    ∙ ap (λ (t : Turned). take t.page.place t.page.bytes)
    (sym (pick_true _ (lent_begin (length forward) (length out) lf lo) refl))
    ∙ page_shows out line (omega arith)
    ∙ computed.begins

-- claim_printed_before_the_end: one line would be all seven
pub printed_before_the_end : begun.begun ++ begun.text ≡ played pack.example → ⊥
printed_before_the_end e =
    let line : begun.begun ++ begun.text ≡ first_line =
    ap (λ (l : List ℕ). begun.begun ++ l) (no_plays refl begun.play)
    ∙ append-nil begun.begun
    ∙ begun_line begun.begin in
    let one : length (begun.begun ++ begun.text) ≡ 30 = ap length line in
    let all : length (played pack.example) ≡ 179 = ap length computed.prints in
    let same : length (begun.begun ++ begun.text) ≡ length (played pack.example) = ap length e in
    omega arith

-- claim_page_of_16383: lent such a page a call leaves all as it is; so after a begin and one such call the example's pack
-- is as little finished as before, where the edited claim has its seven events played
unplayed : (q : Player) (forward back buffer out : List ℕ) → length out ≡ 16383
    → told_progress (record { player = q; written = 0 }) forward back buffer out
    ≡ play_of pack.example q forward back buffer out
unfolding play_of
unplayed q forward back buffer out size =
    pick_false _ (other (length forward) (length back) (length out) size) refl
  where
    other : (f b o : ℕ) → o ≡ 16383 → (eqb f 576 && eqb b 576 && eqb o 16384) ≡ false
    other f b o e = rw e (and-false (eqb f 576 && eqb b 576))

pub page_of_16383 :
    ((printed : List ℕ) (h : Held) (r : Progress) (forward back buffer out out' : List ℕ)
    → Begins pack.example (player_of 7) printed h
    → length forward ≡ length h.forward
    → length back ≡ length h.back
    → length out ≡ 16383
    → told_progress r forward back buffer out'
    ≡ play_of pack.example h.player h.forward h.back h.buffer out
    → is_finished r.player ≡ leb 7 (128 * 1))
    → ⊥
page_of_16383 claim =
    let h = begun.first in
    let r : Progress = record { player = h.player; written = 0 } in
    let size : length (zeros 16383) ≡ 16383 = length-replicate {A = ℕ} 16383 0 in
    let over : is_finished h.player ≡ true =
    claim begun.begun h r h.forward h.back h.buffer (zeros 16383) (zeros 16383) begun.begin refl refl size
    (unplayed h.player h.forward h.back h.buffer (zeros 16383) size) in
    never (sym over ∙ going none)

-- claim_lines_swapped: the example, begun on lines of zeros, and played with its lines the wrong way round; its seven events
-- are then played, nothing is printed of them, and the begin's line would be all seven
abbrev pub first_page : Page
first_page = put (page (zeros 16384) 0) (event_text 0 (capped_step (start (player_of 7).ends) (begin pack.message)).event)

pub begun_on_zeros :
    Begins pack.example (player_of 7) (take first_page.place first_page.bytes)
    (held begun_player announced (zeros 576) (zeros 1785))
unfolding begin_of message_of capped_step step_of world_of
begun_on_zeros =
    begins (record { player = begun_player; written = first_page.place })
    (zeros 576) announced (zeros 576) (zeros 16384) first_page.bytes refl refl refl (length-replicate {A = ℕ} 16384 0)
    (λ other buffer. ap (λ (t : Turned). progressed t (player_of 7).bodies 0)
    (pick_true _ (lent_begin 576 (length (zeros 16384)) refl (length-replicate {A = ℕ} 16384 0))
    (ap (λ (w : World). turned w first_page) (computed.begun other buffer))))

pub lines_swapped : (swapped.played ≡ 7) × (first_line ++ shown swapped ≡ played pack.example → ⊥)
lines_swapped = (
  computed.plays_swapped,
  λ e. let one : length (first_line ++ shown swapped) ≡ 30 =
      ap (λ (l : List ℕ). length (first_line ++ l)) computed.shows_swapped in
      let all : length (played pack.example) ≡ 179 = ap length computed.prints in
      let same : length (first_line ++ shown swapped) ≡ length (played pack.example) = ap length e in
      omega arith,
)

-- ---- the pack without events

abbrev ended : Run silent (player_of 0) 0
ended = runs_exist silent (player_of 0) 0

-- claim_begins_page_left_out: nothing would be all that is printed
pub begins_page_left_out : (is_finished ended.last.player ≡ true → ended.text ≡ played silent) → ⊥
begins_page_left_out claim =
    let done : is_finished ended.last.player ≡ true =
    (prints_played silent (Ok (player_of 0)) (sym computed.opens_silent)
    0 ended.begun ended.text ended.first ended.last ended.begin ended.play).0 in
    let none : ◌≡◌ {A = ℕ} 0 30 = ap length (sym (no_plays refl ended.play) ∙ claim done ∙ computed.prints_silent) in
    omega arith

-- ---- no pack

-- claim_refusal_on_a_page_of_10: the refusal's line would have ten bytes
pub refusal_on_a_page_of_10 :
    (let p = put (page (replicate 10 0) 0) (refused_text 12) in take p.place p.bytes ≡ played []) → ⊥
unfolding put byte_at pick digits_in decimal spaced refused_text
refusal_on_a_page_of_10 e = let ten : ◌≡◌ {A = ℕ} 10 11 = ap length (e ∙ computed.prints_refused) in omega arith

-- ---- clean packs

-- where a report is printed once, it is all that the sender reports
reports_parts : (es fs : List Event) → reports_in (es ++ fs) ≡ reports_in es ++ reports_in fs
unfolding reports_in
reports_parts [] fs = refl
reports_parts (e ∷ es) fs =
    ap (λ (l : List sender.Outcome). reports_of e.sender ++ l) (reports_parts es fs)
    ∙ sym (append_assoc (reports_of e.sender) (reports_in es) (reports_in fs))

its_reports : {bytes : List ℕ} {q : Player} (f : Figures) → PrintsOnce f bytes q → reports_in (run_of bytes q) ≡ sent_with f ∷ []
unfolding reports_in
its_reports f p =
    let r = p.report in
    ap reports_in r.parts
    ∙ reports_parts r.earlier (r.event ∷ r.later)
    ∙ rw (r.none_earlier, r.reported, r.none_later) refl

-- so a pack whose sender reports nothing prints none
not_printed : {bytes : List ℕ} {q : Player} (f : Figures) → reports_in (run_of bytes q) ≡ [] → PrintsOnce f bytes q → ⊥
not_printed f nothing p = let its = its_reports f p in let z : ◌≡◌ {A = ℕ} 0 1 = cc in omega arith

-- clean_figures_of_the_window: the clean pack would report sent 4 3, or nothing
pub figures_of_the_window :
    ((reports_in (run_of clean (player_of 8)) ≡ []) ⊎ PrintsOnce (figures_for 9 2) clean (player_of 8)) → ⊥
unfolding figures_for frame_count_of
figures_of_the_window =
    let real = computed.cleanly.reports in
    ⊎_elim (λ nothing. let z : ◌≡◌ {A = ℕ} 0 1 = cc in omega arith)
    (λ p. let its = its_reports (figures_for 9 2) p in let z : ◌≡◌ {A = ℕ} 2 4 = cc in omega arith)

-- clean_number_of_the_next_event: its number is at most 8, a single digit, and the digit would be another
digit : (n : ℕ) → n < 10 → decimal n ≡ (48 + n) ∷ []
unfolding decimal digits_in
digit n small = sym (pick_true _ (lt-ltb n 10 small) refl)

pub number_of_the_next_event : (r : ReportedOnce (sent_with (figures_for 9 1)) (run_of clean (player_of 8)))
    → (let number = length r.earlier in
    played clean ≡ text_of 0 r.earlier ++ (sent_line (suc number) 2 3 ++ text_of (suc number) r.later))
    → ⊥
unfolding figures_for frame_count_of sent_line head_of
number_of_the_next_event r e =
    let n = length r.earlier in
    let size : length (r.earlier ++ (r.event ∷ r.later)) ≡ 9 = ap length (sym r.parts) ∙ computed.nine_events in
    let small : n < 9 = omega (arith, simp length-append at size) in
    let same = append_cancel_left (text_of 0 r.earlier) _ _
    (sym (prints_report (figures_for 9 1) clean (player_of 8) computed.cleanly.opens r) ∙ e) in
    let lines = append_cancel_right (sent_line n 2 3) (sent_line (suc n) 2 3) (text_of (suc n) r.later) same in
    let digits = rw (digit n (omega arith), digit (suc n) (omega arith)) at lines in
    let z : 48 + n ≡ 48 + suc n = cc in
    omega arith

-- clean_sending_time_of_the_capacity: with M 1 the sender fails at its first tick
pub sending_time_of_the_capacity :
    Fits 1 10 1785 10 1785 pack.message
    × CleanEvents hasty hasty_player
    × (((reports_in (run_of hasty hasty_player) ≡ []) ⊎ PrintsOnce (figures_for 9 1) hasty hasty_player) → ⊥)
sending_time_of_the_capacity =
    let real = computed.in_haste.reports in (
      fits_above_2 1785 (omega arith),
      computed.in_haste.events,
      ⊎_elim (λ nothing. let z : ◌≡◌ {A = ℕ} 0 1 = cc in omega arith)
          (λ p. let its = its_reports (figures_for 9 1) p in let z : ◌≡◌ {A = ℕ} 0 1 = cc in omega arith),
    )

-- clean_complete_a_tick_early: one tick is over, all is heard, and nothing is reported
pub complete_a_tick_early :
    CleanPack halfway (player_of 4)
    × ((clean_figures halfway (player_of 4)).ticks ≤ suc (ticks_since (begun_in (past_of halfway (player_of 4)).events)))
    × Empty (past_of halfway (player_of 4)).world
    × (PrintsOnce (figures_for 9 1) halfway (player_of 4) → ⊥)
unfolding figures_for frame_count_of message_of
complete_a_tick_early =
    let k = computed.at_halfway in (
      record { fits = fits_above_2 100 (omega arith); events = k.events },
      omega (arith, k.ticks),
      computed.heard_halfway,
      not_printed (figures_for 9 1) k.reports,
    )

-- clean_complete_with_a_frame_unheard: both ticks are over, and the last frame is on forward
pub complete_with_a_frame_unheard :
    CleanPack unheard (player_of 6)
    × ((clean_figures unheard (player_of 6)).ticks ≤ ticks_since (begun_in (past_of unheard (player_of 6)).events))
    × ((past_of unheard (player_of 6)).world.back ≡ [])
    × (PrintsOnce (figures_for 9 1) unheard (player_of 6) → ⊥)
unfolding figures_for frame_count_of message_of
complete_with_a_frame_unheard =
    let k = computed.while_unheard in (
      record { fits = fits_above_2 100 (omega arith); events = k.events },
      omega (arith, k.ticks),
      computed.none_back,
      not_printed (figures_for 9 1) k.reports,
    )

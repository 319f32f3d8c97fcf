-- Document 01, The player: its example computed whole, from the pack's bytes to the seven lines; and the same pack without
-- its events, and no pack at all. Document 02, E1: a clean pack and its last line, and packs that tell E1 from false claims.
-- Assumes nothing.
use Prim.Native.Nat.{ℕ, ◌<◌}
use mathlib.Core.Path.{◌≡◌, refl}
use mathlib.Core.List.{List, [], ◌∷◌, ◌++◌}
use native.Mathlib.Omega.{arith}
use lib.ListN.{length, take, drop, replicate}
use Rattle.clean.specs.Figures.{figures_for}
use Rattle.delivery.specs.Clean.{Empty, Fits, turn_in, reports_in, ticks_since}
use Rattle.delivery.specs.Seen.{begun_in, begun_after}
use Rattle.frame.specs.Choice.{pick}
use Rattle.frame.specs.Count.{frame_count_of, increment_of}
use Rattle.frame.specs.Frames.{fill_to, blank_of, announcement_of, information_of, lm_ack_of, lm_nack_of, end_of_ack_of}
use Rattle.frame.specs.Reading.{named_of, all_filler, clean_for, read_of}
use Rattle.frame.specs.Result.{accepted, refused}
use Rattle.line.specs.Ring.{frame_at, frames_from, frames_in, empty_of}
use Rattle.pack.proofs.Examples as pack
use Rattle.pack.specs.Pack.{laid_out, settings_of, bodies_in, message_of, events_of, all_events, bodies_of}
use Rattle.pack.specs.declared.Settings.{Settings}
use Rattle.player.proofs.Clean.{prints_clean}
use Rattle.player.specs.Calls.{Progressed, next_events, playing, play_of}
use Rattle.player.specs.Claim.{newest_first}
use Rattle.player.specs.Clean.{CleanEvents, CleanPack, past_of, PrintsOnce, Complete}
use Rattle.player.specs.Events.{call_for, turn_for, events_from, world_after, run_from, calls_for}
use Rattle.player.specs.Played.{start, opened_with, opened_bodies, open_of, run_of, played_opened, played}
use Rattle.player.specs.Text.{frames_text, event_text, text_of}
use Rattle.player.specs.declared.Player.{Player}
use Rattle.receiver.specs.Hear as receiver-hear
use Rattle.receiver.specs.Make as receiver-make
use Rattle.receiver.specs.Tick as receiver-tick
use Rattle.receiver.specs.Window as receiver-window
use Rattle.receiver.specs.declared.Phase.TheVariants as receiver-at
use Rattle.sender.specs.Begin as sender-begin
use Rattle.sender.specs.Hear as sender-hear
use Rattle.sender.specs.Make as sender-make
use Rattle.sender.specs.Tick as sender-tick
use Rattle.sender.specs.Told as sender
use Rattle.sender.specs.declared.Phase.TheVariants.{Idle}
use Rattle.text.proofs.Examples as text
use Rattle.text.specs.Text.{digits_in, decimal, hex_glyph, spaced, hexes, head_of, frame_line, sent_line, delivered_line, sender_report, receiver_report, refused_text}
use Rattle.text.specs.Page.{put}
use Rattle.transport.specs.Answer.{world_of}
use Rattle.transport.specs.Capped.{capped, capped_step}
use Rattle.transport.specs.Make.{joined, make_of}
use Rattle.transport.specs.Step.{given_forward, given_back, step_of}
use Rattle.transport.specs.World.{begin}

-- the example's pack with these settings and events
abbrev pub pack_with : List ℕ → List ℕ → List ℕ
pack_with settings events =
    3 ∷ 13 ∷ 0 ∷ 10 ∷ 0 ∷ 23 ∷ 0 ∷ 9 ∷ 0 ∷ 32 ∷ 0 ∷ length events ∷ 0 ∷ (settings ++ (pack.message ++ events))

abbrev pub silent : List ℕ
silent = pack_with pack.settings []

-- a player of these settings and so many events, as opening such a pack answers it
abbrev pub player_with : Settings → ℕ → Player
player_with k events =
    record {
      ends =
          record {
            sender = record { settings = record { gap = k.gap; timeout = k.timeout; limit = k.limit }; phase = Idle };
            receiver =
                record {
                  settings = record { timeout = k.patience; window = k.window; capacity = k.capacity };
                  phase = receiver-at.Idle;
                };
            forward = empty_of;
            back = empty_of;
          };
      bodies = record { settings = k; message = 9; events = events };
      played = 0;
    }

abbrev pub player_of : ℕ → Player
player_of events = player_with (pack.bodies).settings events

-- the begin's line
abbrev pub first_line : List ℕ
first_line = take 30 text.example

-- the example once it is begun: the announcement on forward, in a line of zeros
abbrev pub begun_player : Player
begun_player =
    record {
      ends =
          record {
            sender = (capped_step (start (player_of 7).ends) (begin pack.message)).world.sender;
            receiver = (player_of 7).ends.receiver;
            forward = record { first = 0; count = 1 };
            back = empty_of;
          };
      bodies = (player_of 7).bodies;
      played = 0;
    }

abbrev pub zeros : ℕ → List ℕ
zeros n = replicate n 0

abbrev pub announced : List ℕ
announced = 1 ∷ 0 ∷ 2 ∷ 9 ∷ 0 ∷ 255 ∷ 255 ∷ 255 ∷ 255 ∷ zeros 567

-- a call of play that is lent the lines the wrong way round
abbrev pub swapped : Progressed
swapped = play_of pack.example begun_player (zeros 576) announced (zeros 1785) (zeros 16384)

-- ---- clean events: all is heard at once, and the receiver ticks between the sender's ticks

-- the sample clean-9-gap-1
abbrev pub clean : List ℕ
clean = pack_with pack.settings (3 ∷ 6 ∷ 1 ∷ 3 ∷ 2 ∷ 1 ∷ 3 ∷ 6 ∷ [])

-- the same up to the hearing of frame 1, and up to the sender's second tick
abbrev pub halfway : List ℕ
halfway = pack_with pack.settings (3 ∷ 6 ∷ 1 ∷ 3 ∷ [])

abbrev pub unheard : List ℕ
unheard = pack_with pack.settings (3 ∷ 6 ∷ 1 ∷ 3 ∷ 2 ∷ 1 ∷ [])

-- up to the first, with M 1, which is below N × G
abbrev pub hasty : List ℕ
hasty = pack_with (1 ∷ 10 ∷ 0 ∷ 1 ∷ 0 ∷ 10 ∷ 0 ∷ 2 ∷ 249 ∷ 6 ∷ []) (3 ∷ 6 ∷ 1 ∷ [])

abbrev pub hasty_player : Player
hasty_player = player_with (record { gap = 1; timeout = 10; limit = 1; patience = 10; window = 2; capacity = 1785 }) 3

-- a pack is opened and its events are clean; so often the sender ticks, and this it reports
pub record CleanRun (bytes : List ℕ) (q : Player) (ticked : ℕ) (reported : List sender.Outcome) : Type 0 where
  pub opens : open_of bytes ≡ accepted q
  pub events : CleanEvents bytes q
  pub ticks : ticks_since (begun_in (past_of bytes q).events) ≡ ticked
  pub reports : reports_in (run_of bytes q) ≡ reported

-- 8 S sent 2 3
abbrev pub last_line : List ℕ
last_line = 56 ∷ 32 ∷ 83 ∷ 32 ∷ 115 ∷ 101 ∷ 110 ∷ 116 ∷ 32 ∷ 50 ∷ 32 ∷ 51 ∷ 10 ∷ []

pub record Computed : Type 0 where
  pub opens : open_of pack.example ≡ accepted (player_of 7)
  pub prints : played pack.example ≡ text.example
  pub opens_silent : open_of silent ≡ accepted (player_of 0)
  pub prints_silent : played silent ≡ first_line
  pub begins : event_text 0 (capped_step (start (player_of 7).ends) (begin pack.message)).event ≡ first_line
  pub begun : (back buffer : List ℕ)
      → world_of begun_player.ends announced back buffer
      ≡ (capped_step (world_of (player_of 7).ends (zeros 576) back buffer) (begin pack.message)).world
  pub shows_swapped : take swapped.page.place swapped.page.bytes ≡ []
  pub plays_swapped : swapped.played ≡ 7
  pub refuses : open_of [] ≡ refused 12
  pub prints_refused : played [] ≡ refused_text 12
  pub cleanly : CleanRun clean (player_of 8) 2 (sender.sent 2 3 ∷ [])
  pub heard : Empty (past_of clean (player_of 8)).world
  pub nine_events : length (run_of clean (player_of 8)) ≡ 9
  pub prints_clean : drop 166 (played clean) ≡ last_line
  pub at_halfway : CleanRun halfway (player_of 4) 1 []
  pub heard_halfway : Empty (past_of halfway (player_of 4)).world
  pub while_unheard : CleanRun unheard (player_of 6) 2 []
  pub none_back : (past_of unheard (player_of 6)).world.back ≡ []
  pub in_haste : CleanRun hasty hasty_player 1 (sender.failed 3 1 2 ∷ [])

pub computed : Computed
unfolding
    pick laid_out settings_of bodies_in message_of events_of all_events bodies_of
    world_of frames_in frames_from frame_at next_events playing play_of put world_after
    opened_with opened_bodies open_of run_of played_opened played
    newest_first reports_in turn_in begun_in begun_after figures_for
    call_for turn_for events_from run_from calls_for frames_text event_text text_of
    capped capped_step joined make_of given_forward given_back step_of
    frame_count_of increment_of fill_to blank_of announcement_of information_of lm_ack_of lm_nack_of end_of_ack_of named_of all_filler clean_for read_of
    sender-make.make_of receiver-make.make_of
    sender-begin.begin_of sender-begin.begin_phase sender-begin.begin_idle sender-begin.begin_long
    sender-tick.tick_of sender-tick.lent_to sender-tick.tick_phase sender-tick.tick_opening
    sender-tick.unless_third sender-tick.tick_sending sender-tick.unless_over sender-tick.at_limit sender-tick.after_frame
    sender-hear.hear_of sender-hear.hear_read sender-hear.hear_kind sender-hear.hear_ack
    sender-hear.ack_opening sender-hear.taking sender-hear.hear_end sender-hear.if_whole
    receiver-hear.hear_of receiver-hear.hear_read receiver-hear.hear_kind
    receiver-hear.hear_unless_held receiver-hear.hear_numbered receiver-hear.hear_announcement receiver-hear.announce_idle
    receiver-hear.hear_information receiver-hear.information_expected receiver-hear.information_open receiver-hear.stored receiver-hear.storing
    receiver-tick.tick_of receiver-tick.tick_phase receiver-tick.tick_open receiver-window.window_of
    digits_in decimal hex_glyph spaced hexes head_of frame_line sent_line delivered_line sender_report receiver_report refused_text
computed =
    record {
      opens = refl;
      prints = refl;
      opens_silent = refl;
      prints_silent = refl;
      begins = refl;
      begun = λ back buffer. refl;
      shows_swapped = refl;
      plays_swapped = refl;
      refuses = refl;
      prints_refused = refl;
      cleanly =
          record {
            opens = refl;
            events = (
              λ _. refl,
              refl,
              (
                tt,
                tt,
                (
                  λ _. λ _. refl,
                  λ _. ((refl, refl), tt),
                  (
                    λ _. refl,
                    refl,
                    (
                      tt,
                      ((refl, refl), tt),
                      (λ _. λ _. refl, λ _. ((refl, refl), tt), (λ _. refl, refl, (tt, tt, tt))),
                    ),
                  ),
                ),
              ),
            );
            ticks = refl;
            reports = refl;
          };
      heard = (refl, refl);
      nine_events = refl;
      prints_clean = refl;
      at_halfway = record { opens = refl; events = search depth 30; ticks = refl; reports = refl };
      heard_halfway = (refl, refl);
      while_unheard =
          record {
            opens = refl;
            events = (
              λ _. refl,
              refl,
              (
                tt,
                tt,
                (
                  λ _. λ _. refl,
                  λ _. ((refl, refl), tt),
                  (λ _. refl, refl, (tt, ((refl, refl), tt), (λ _. λ _. refl, λ _. ((refl, refl), tt), tt))),
                ),
              ),
            );
            ticks = refl;
            reports = refl;
          };
      none_back = refl;
      in_haste = record { opens = refl; events = search depth 30; ticks = refl; reports = refl };
    }

-- nine bytes fit with every M above 2
pub fits_above_2 : (limit : ℕ) → 2 < limit → Fits 1 10 limit 10 1785 pack.message
unfolding figures_for frame_count_of
fits_above_2 limit enough =
    record {
      senders_timeout = omega arith;
      receivers_timeout = omega arith;
      sending_time = enough;
      space = omega arith;
      long = omega arith;
    }

-- so the theorem speaks of the clean pack, and of its line 8 S sent 2 3
pub clean_pack : CleanPack clean (player_of 8)
unfolding message_of
clean_pack = record { fits = fits_above_2 100 (omega arith); events = computed.cleanly.events }

pub clean_complete : Complete clean (player_of 8)
unfolding figures_for frame_count_of message_of
clean_complete = record { ticks = omega (arith, computed.cleanly.ticks); heard = computed.heard }

pub clean_printed : PrintsOnce (figures_for 9 1) clean (player_of 8)
unfolding message_of
clean_printed = (prints_clean clean (player_of 8) computed.cleanly.opens clean_pack).1 clean_complete

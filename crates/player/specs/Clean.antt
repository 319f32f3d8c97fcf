-- Document 02, E1, of what the player prints, which is `played` (`PrintsPlayed` says that its calls print just that). Of a pack
-- whose events are clean calls it prints `S sent` with the clean figures, once, and no other report of the sender.
--   PackClean    what E1 promises holds of the pack's run
--   PrintsClean  the sender has reported nothing yet, or that line is printed, once; the line is there once the sender's
--                N × G ticks are over and every frame has been heard
use Rattle.std.specs.Prelude.{ℕ, suc, ◌≤◌, List, [], ◌∷◌, ◌++◌, ◌⊎◌, ◌≡◌, length, replicate}
use Rattle.clean.specs.Figures.{figures_for}
use Rattle.clean.specs.declared.Figures.{Figures}
use Rattle.delivery.specs.Clean.{Empty, CleanCalls, Fits, sent_with, reports_in, ticks_since, CleanPromise}
use Rattle.delivery.specs.Run.{Past, fresh, next}
use Rattle.delivery.specs.Seen.{begun_in}
use Rattle.frame.specs.Result.{accepted}
use Rattle.pack.specs.Pack.{message_of, events_of}
use Rattle.player.specs.Claim.{newest_first}
use Rattle.player.specs.Events.{world_after, calls_for}
use Rattle.player.specs.Played.{open_of, run_of, played}
use Rattle.player.specs.Text.{text_of}
use Rattle.player.specs.declared.Player.{Player}
use Rattle.sender.specs.Told as sender
use Rattle.text.specs.Text.{sent_line}
use Rattle.transport.specs.Capped.{capped_step}
use Rattle.transport.specs.World.{Event, begin}

-- ---- a clean pack

-- the pack's ends just made, and its begin
abbrev pub begun_of : List ℕ → Player → Past
begun_of bytes q =
    next capped_step (fresh q.ends.sender q.ends.receiver (replicate 1785 0))
    (begin (message_of bytes q.bodies))

-- E1's conditions of the calls: those that the events make after the begin are clean. (What demand 3 asks of a call, which is
-- among it, holds of all that the player makes: `PlayerMeets`.)
abbrev pub CleanEvents : List ℕ → Player → Type 0
CleanEvents bytes q =
    let p = begun_of bytes q in
    CleanCalls capped_step p (calls_for p.world (message_of bytes q.bodies) (events_of bytes q.bodies))

-- and beside them those of the settings and the message
pub record CleanPack (bytes : List ℕ) (q : Player) : Type 0 where
  pub fits :
      (let k = q.bodies.settings in
      Fits k.gap k.timeout k.limit k.patience k.capacity (message_of bytes q.bodies))
  pub events : CleanEvents bytes q

-- its clean figures: N × G ticks and N + 1 frames
abbrev pub clean_figures : List ℕ → Player → Figures
clean_figures bytes q = figures_for (length (message_of bytes q.bodies)) q.bodies.settings.gap

-- ---- its run

-- where the run of a pack leads, and the events that are printed of it
abbrev pub past_of : List ℕ → Player → Past
past_of bytes q =
    record {
      world = world_after (begun_of bytes q).world (message_of bytes q.bodies) (events_of bytes q.bodies);
      events = newest_first [] (run_of bytes q);
    }

abbrev pub PackClean : Type 0
PackClean =
    (bytes : List ℕ) (q : Player)
    → open_of bytes ≡ accepted q
    → CleanPack bytes q
    → CleanPromise (clean_figures bytes q) (message_of bytes q.bodies) (past_of bytes q)

-- ---- what is printed of it

-- one event of a run has this report of the sender, and no other event has any
pub record ReportedOnce (report : sender.Outcome) (run : List Event) : Type 0 where
  pub earlier : List Event
  pub event : Event
  pub later : List Event
  pub parts : run ≡ earlier ++ (event ∷ later)
  pub reported : event.sender ≡ report
  pub none_earlier : reports_in earlier ≡ []
  pub none_later : reports_in later ≡ []

-- what is printed of such a run: of that event its line `number S sent ticks frames` and nothing else. As many events stand
-- before it as its number says, since the begin is number 0
abbrev pub text_around : (f : Figures) {run : List Event} → ReportedOnce (sent_with f) run → List ℕ
text_around f r =
    let number = length r.earlier in
    text_of 0 r.earlier ++ (sent_line number f.ticks f.frames ++ text_of (suc number) r.later)

pub record PrintsOnce (f : Figures) (bytes : List ℕ) (q : Player) : Type 0 where
  pub report : ReportedOnce (sent_with f) (run_of bytes q)
  pub printed : played bytes ≡ text_around f report

-- the sender's N × G ticks are over, and no frame is on its way
pub record Complete (bytes : List ℕ) (q : Player) : Type 0 where
  pub ticks : (clean_figures bytes q).ticks ≤ ticks_since (begun_in (past_of bytes q).events)
  pub heard : Empty (past_of bytes q).world

abbrev pub PrintsClean : Type 0
PrintsClean =
    (bytes : List ℕ) (q : Player)
    → open_of bytes ≡ accepted q
    → CleanPack bytes q
    → (let f = clean_figures bytes q in
    ((reports_in (run_of bytes q) ≡ []) ⊎ PrintsOnce f bytes q) × (Complete bytes q → PrintsOnce f bytes q))

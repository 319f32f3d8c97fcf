-- A law for each path through the code of the player's calls.
-- Assumes nothing.
use Prim.Native.Nat.{ℕ, suc, ◌+◌, ◌-◌, ◌<◌, ◌≤◌, min}
use mathlib.Core.Path.{◌≡◌, refl, sym, ap, subst, ◌∙◌}
use mathlib.Core.Bool.{Bool, true, false}
use mathlib.Core.List.{List, []}
use mathlib.Core.Logic.{inl, inr}
use native.Mathlib.Numerals.{add-one}
use native.Mathlib.Omega.{arith}
use borrow.Author.Tests.{ne_eqb}
use lib.ListN.{length, get_or, take, drop, drop_of_length-le}
use lib.Seq.{drop-cons, drop-drop}
use Rattle.std.specs.Array.{IsWholeChunk}
use Rattle.frame.proofs.Choice.{pick_elim, pick_true, pick_false}
use Rattle.frame.specs.Result.{Result, accepted, refused, number_of}
use Rattle.frame.specs.declared.refusal.Refusal.{Refusal}
use Rattle.pack.specs.Pack.{message_of, events_of, bodies_of}
use Rattle.pack.specs.declared.Bodies.{Bodies}
use Rattle.player.specs.Calls as calls
use Rattle.player.specs.Calls.{progressed, playing, next_events, play_of}
use Rattle.player.specs.Events.{turn_for, events_from, world_after}
use Rattle.player.specs.Played.{made_for, start, player_for, unless_refused, OfBegin, opened_with, opened_bodies, open_of}
use Rattle.player.specs.State.{Turned, turned, printed, turn_of}
use Rattle.transport.specs.Capped.{capped_step}
use Rattle.player.specs.Text.{event_text, text_of}
use Rattle.player.specs.declared.Player.{Player}
use Rattle.player.specs.declared.Progress.{Progress}
use Rattle.text.proofs.Laws.{put_append}
use Rattle.text.specs.Page.{Page, page, put}
use Rattle.sender.specs.Begin.{begin_of, begin_phase, begin_idle, begin_short, begin_long}
use Rattle.sender.specs.Told as sender
use Rattle.sender.specs.declared.Outcome.{Outcome}
use Rattle.sender.specs.declared.Outcome.TheVariants.{Quiet, Refused, Sent, Failed}
use Rattle.sender.specs.declared.Phase.{Phase}
use Rattle.sender.specs.declared.Phase.TheVariants.{Idle, Opening, Sending, Waiting, Short}
use Rattle.sender.specs.declared.Sender.{Sender}
use Rattle.transport.proofs.Events.{begin_reports, lent_answer}
use Rattle.transport.specs.Answer.{world_of, Told, told, answer_of, lent_of}
use Rattle.transport.specs.Step.{step_of}
use Rattle.transport.specs.World.{World, begin}
use Rattle.transport.specs.declared.Answer.{Answer}
use Rattle.transport.specs.declared.Ends.{Ends}

-- ---- one event after the other

-- the next event, and those behind it
plays_next : (w : World) (m events : List ℕ) (i number : ℕ) (p : Page) (x : Turned)
    → i < length events
    → x ≡ turn_of w m (get_or events i 0) number p
    → playing x.world m (drop (suc i) events) (suc number) x.page ≡ playing w m (drop i events) number p
unfolding playing world_after events_from text_of turn_of
plays_next w m events i number p x h e =
    let t = turn_for w m (get_or events i 0) in
    let rest = events_from t.world m (drop (suc i) events) in
    rw (e, drop-cons events i 0 h)
    (ap (turned (world_after t.world m (drop (suc i) events))) (put_append p (event_text number t.event) (text_of (suc number) rest)))

-- with so many played before the first event, and so many behind it
pub plays_one : (w v : World) (m events : List ℕ) (i played number : ℕ) (p q : Page) (y : Turned)
    → i < length events
    → turned v q ≡ turn_of w m (get_or events i 0) number p
    → playing w m (drop i events) (suc (played + i)) p ≡ y
    → number ≡ suc (played + i)
    → playing v m (drop (i + 1) events) (suc (played + (i + 1))) q ≡ y
plays_one w v m events i played number p q y h e before this =
    let next : suc (played + (i + 1)) ≡ suc (suc (played + i)) = omega arith in
    rw (next, add-one i) (plays_next w m events i (suc (played + i)) p (turned v q) h (rw this at e)) ∙ before

-- none are left
pub plays_none : (w : World) (m events : List ℕ) (i number : ℕ) (p : Page) {y : Turned} → length events ≤ i
    → playing w m (drop i events) number p ≡ y
    → turned w p ≡ y
unfolding playing world_after events_from text_of put
plays_none w m events i number p {y} all e = subst (λ (rest : List ℕ). playing w m rest number p ≡ y) (drop_of_length-le events all) e

-- ---- opening a pack

-- by what the begin reported
pub unless_refused_lem : (o : Outcome) (q : Player) (refusal : Refusal) {number : ℕ} → number_of refusal ≡ number → o ≡ Refused number
    → refused (number_of refusal) ≡ unless_refused (sender.told_outcome o) q
unless_refused_lem o q refusal n e = rw (e, n) refl

pub unless_other : (o : Outcome) (q : Player) → ((number : ℕ) → o ≡ Refused number → ⊥)
    → accepted q ≡ unless_refused (sender.told_outcome o) q
unless_other Quiet q other = refl
unless_other (Refused number) q other = absurd (other number refl)
unless_other (Sent ticks frames) q other = refl
unless_other (Failed cause ticks frames) q other = refl

-- the begin reports what it would report of the run
reported : (a : Answer) (ends : Ends) (m line line' : List ℕ) (fits : Bool)
    → ((back buffer : List ℕ) → told a line' back buffer ≡ lent_of fits (world_of ends line back buffer) (begin m))
    → fits ≡ true
    → sender.told_outcome a.said.sender ≡ (capped_step (start ends) (begin m)).event.sender
unfolding answer_of told capped_step world_of
reported a ends m line line' fits e there =
    let w = world_of ends line [] [] in
    ap (λ (t : Told). t.sender) (lent_answer w (begin m) there (e [] [])) ∙ begin_reports w (start ends) m refl

pub tried : (a : Answer) (ends : Ends) (b : Bodies) (m line line' : List ℕ) (fits : Bool) (x : Result Player)
    → ((back buffer : List ℕ) → told a line' back buffer ≡ lent_of fits (world_of ends line back buffer) (begin m))
    → fits ≡ true
    → x ≡ unless_refused (sender.told_outcome a.said.sender) (player_for ends b)
    → x ≡ opened_with m b (accepted ends)
unfolding opened_with
tried a ends b m line line' fits x e there h =
    h ∙ ap (λ (o : sender.Outcome). unless_refused o (player_for ends b)) (reported a ends m line line' fits e there)

-- a begin is refused by its two numbers alone: 3 in each phase but Idle, and there 2
abbrev OfAnswer : sender.Told → Type 0
OfAnswer t = OfBegin t.outcome

begin_is : (s : Sender) (m : List ℕ) → OfAnswer (begin_of s m)
unfolding begin_of begin_phase begin_idle begin_short begin_long
begin_is s m = go s.phase
  where
    go : (p : Phase) → OfAnswer (begin_phase s p m)
    go Idle =
        pick_elim OfAnswer _ (λ fits. pick_elim OfAnswer _ (λ few. tt) (λ many. tt)) (λ other. inl refl)
    go (Opening x) = inr refl
    go (Sending x) = inr refl
    go (Waiting x) = inr refl
    go (Short x) = inr refl

pub tried_begin : (a : Answer) (ends : Ends) (m line line' : List ℕ) (fits : Bool)
    → ((back buffer : List ℕ) → told a line' back buffer ≡ lent_of fits (world_of ends line back buffer) (begin m))
    → fits ≡ true
    → OfBegin (sender.told_outcome a.said.sender)
unfolding capped_step step_of
tried_begin a ends m line line' fits e there = subst OfBegin (sym (reported a ends m line line' fits e there)) (begin_is ends.sender m)

-- what making the ends starts
module _ (bytes : List ℕ) (b : Bodies) where
  pub no_ends : (number : ℕ) → refused number ≡ made_for b → refused number ≡ opened_bodies bytes (accepted b)
  unfolding opened_bodies opened_with
  no_ends number e = ap (opened_with (message_of bytes b) b) e

  pub with_ends : (ends : Ends) (m : List ℕ) (x : Result Player) → accepted ends ≡ made_for b
      → m ≡ message_of bytes b
      → x ≡ opened_with m b (accepted ends)
      → x ≡ opened_bodies bytes (accepted b)
  unfolding opened_bodies
  with_ends ends m x e part h =
      h
      ∙ ap (λ (l : List ℕ). opened_with l b (accepted ends)) part
      ∙ ap (opened_with (message_of bytes b) b) e

-- what reading the pack starts
module _ (bytes : List ℕ) where
  pub with_bodies : (b : Bodies) (x : Result Player) → accepted b ≡ bodies_of bytes → x ≡ opened_bodies bytes (accepted b) → x ≡ open_of bytes
  unfolding open_of
  with_bodies b x e h = h ∙ ap (opened_bodies bytes) e

  pub no_bodies : (number : ℕ) → refused number ≡ bodies_of bytes → refused number ≡ open_of bytes
  unfolding open_of opened_bodies
  no_bodies number e = ap (opened_bodies bytes) e

-- ---- beginning and playing

-- what a call answers, of its step
abbrev After : Progress → Ends → ℕ → Bodies → ℕ → Type 0
After x ends at b played = (x.player.ends ≡ ends) × (x.player.bodies ≡ b) × (x.player.played ≡ played) × (x.written ≡ at)

after_step : (x : Progress) (ends : Ends) (at played : ℕ) (b : Bodies) (forward back buffer out : List ℕ) → After x ends at b played
    → progressed (turned (world_of x.player.ends forward back buffer) (page out x.written)) x.player.bodies x.player.played
    ≡ progressed (turned (world_of ends forward back buffer) (page out at)) b played
after_step x ends at played b forward back buffer out a = rw (a.0, a.1, a.2, a.3) refl

pub begin_there : (bytes m forward line line' out out' : List ℕ) (q : Player) (x : Progress) (ends : Ends) (at : ℕ)
    → IsWholeChunk forward line 576
    → length out ≡ 16384
    → m ≡ message_of bytes q.bodies
    → ((back buffer : List ℕ)
    → turned (world_of ends line' back buffer) (page out' at)
    ≡ printed (capped_step (world_of q.ends line back buffer) (begin m)) 0 (page out 0))
    → After x ends at q.bodies q.played
    → (back buffer : List ℕ)
    → progressed (turned (world_of x.player.ends line' back buffer) (page out' x.written)) x.player.bodies x.player.played
    ≡ calls.begin_of bytes q forward back buffer out
unfolding calls.begin_of
begin_there bytes m forward line line' out out' q x ends at whole full part step a back buffer =
    after_step x ends at q.played q.bodies line' back buffer out' a
    ∙ ap (λ (y : Turned). progressed y q.bodies q.played)
    (pick_true _ (rw (whole.long, full) refl)
    (step back buffer ∙ rw whole.same (ap (λ (l : List ℕ). printed (capped_step (world_of q.ends forward back buffer) (begin l)) 0 (page out 0)) part)))

abbrev Unchanged : Progress → Player → Type 0
Unchanged x q = (x.player ≡ q) × (x.written ≡ 0)

-- lent a line or a page of another length
module _ (bytes forward out : List ℕ) (q : Player) (x : Progress) (a : Unchanged x q) where
  abbrev NotBegun : Type 0
  NotBegun =
      (back buffer : List ℕ)
      → progressed (turned (world_of x.player.ends forward back buffer) (page out x.written)) x.player.bodies x.player.played
      ≡ calls.begin_of bytes q forward back buffer out

  begin_not : calls.begins_on forward out ≡ false → NotBegun
  unfolding calls.begin_of
  begin_not t back buffer = rw (a.0, a.1) (ap (λ (y : Turned). progressed y q.bodies q.played) (pick_false _ t refl))

  pub begin_no_line : (length forward ≡ 576 → ⊥) → NotBegun
  begin_no_line other = begin_not (rw (ne_eqb _ 576 other) refl)

  pub begin_no_page : length forward ≡ 576 → (length out ≡ 16384 → ⊥) → NotBegun
  begin_no_page size other = begin_not (rw (size, ne_eqb _ 16384 other) refl)

-- the events that are lent are the pack's next
next_are : (bytes events : List ℕ) (q : Player) (from most : ℕ)
    → from ≡ 23 + q.bodies.message + q.played
    → most ≡ min 128 (65535 - q.played)
    → events ≡ take most (drop from bytes)
    → events ≡ next_events bytes q
unfolding next_events events_of
next_are bytes events q from most f n e = e ∙ rw (f, n) (ap (take (min 128 (65535 - q.played))) (sym (drop-drop q.played (23 + q.bodies.message) bytes)))

pub play_there : (bytes m events forward line line' back far far' buffer buffer' out out' : List ℕ) (q : Player) (x : Progress) (ends : Ends) (at from most : ℕ)
    → IsWholeChunk forward line 576
    → IsWholeChunk back far 576
    → length out ≡ 16384
    → m ≡ message_of bytes q.bodies
    → from ≡ 23 + q.bodies.message + q.played
    → most ≡ min 128 (65535 - q.played)
    → events ≡ take most (drop from bytes)
    → turned (world_of ends line' far' buffer') (page out' at)
    ≡ playing (world_of q.ends line far buffer) m events (suc q.played) (page out 0)
    → After x ends at q.bodies (q.played + length events)
    → progressed (turned (world_of x.player.ends line' far' buffer') (page out' x.written)) x.player.bodies x.player.played
    ≡ play_of bytes q forward back buffer out
unfolding play_of
play_there bytes m events forward line line' back far far' buffer buffer' out out' q x ends at from most whole whole' full part f n es step a =
    let w = world_of q.ends forward back buffer in
    after_step x ends at (q.played + length events) q.bodies line' far' buffer' out' a
    ∙ pick_true _ (rw (whole.long, whole'.long, full) refl)
    (ap (λ (y : Turned). progressed y q.bodies (q.played + length events)) (rw (whole.same, whole'.same) at step)
    ∙ ap (λ (l : List ℕ). progressed (playing w l events (suc q.played) (page out 0)) q.bodies (q.played + length events)) part
    ∙ ap (λ (l : List ℕ). progressed (playing w (message_of bytes q.bodies) l (suc q.played) (page out 0)) q.bodies (q.played + length l)) (next_are bytes events q from most f n es))

-- lent a line or a page of another length
module _ (bytes forward back buffer out : List ℕ) (q : Player) (x : Progress) (a : Unchanged x q) where
  abbrev NotPlayed : Type 0
  NotPlayed =
      progressed (turned (world_of x.player.ends forward back buffer) (page out x.written)) x.player.bodies x.player.played
      ≡ play_of bytes q forward back buffer out

  play_not : calls.plays_on forward back out ≡ false → NotPlayed
  unfolding play_of
  play_not t = rw (a.0, a.1) (pick_false _ t refl)

  pub play_no_forward : (length forward ≡ 576 → ⊥) → NotPlayed
  play_no_forward other = play_not (rw (ne_eqb _ 576 other) refl)

  pub play_no_back : length forward ≡ 576 → (length back ≡ 576 → ⊥) → NotPlayed
  play_no_back size other = play_not (rw (size, ne_eqb _ 576 other) refl)

  pub play_no_page : length forward ≡ 576 → length back ≡ 576 → (length out ≡ 16384 → ⊥) → NotPlayed
  play_no_page size size' other = play_not (rw (size, size', ne_eqb _ 16384 other) refl)

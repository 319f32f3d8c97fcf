-- Demand 3 of what the player prints: its events are calls at a line of 64 that meet the conditions, so the promise holds of
-- the events that it prints. And none of them is a hold: what document 02's E2 adds is never met, and each connection has its
-- report within the bound of one that was never held. Nor is any frame refused by E3's 14.
use Rattle.std.specs.Prelude.{ℕ, List, [], ◌∷◌, ◌≡◌, length}
use Rattle.delivery.specs.Demand3.{Conditions, Promise, NeverHeld}
use Rattle.delivery.specs.Filler.{AllFilled}
use Rattle.delivery.specs.Run.{Past, fresh, run_of}
use Rattle.delivery.specs.Seen.{opened_in}
use Rattle.delivery.specs.Unmet.{AllUnmet}
use Rattle.frame.specs.Result.{accepted}
use Rattle.player.specs.Events.{run_from, calls_from}
use Rattle.player.specs.Played as played
use Rattle.player.specs.declared.Player.{Player}
use Rattle.transport.specs.Capped.{capped_step}
use Rattle.transport.specs.Make.{make_of}
use Rattle.transport.specs.World.{Call, Event, start_of}
use Rattle.transport.specs.declared.Ends.{Ends}

-- whatever the ends, the buffer, the message and the events
abbrev pub PlayerMeets : Type 0
PlayerMeets =
    (ends : Ends) (buffer message events : List ℕ)
    → (let s = ends.sender in
    let r = ends.receiver in
    Conditions capped_step (fresh s r buffer) (calls_from (start_of s r buffer) message events))

-- demand 3 reads events with the newest first
unfoldable pub newest_first : List Event → List Event → List Event
newest_first past [] = past
newest_first past (e ∷ events) = newest_first (e ∷ past) events

-- for the ends that making answers, every buffer, message and list of events; limit is M, patience the receiver's T
abbrev pub PlayerKeeps : Type 0
PlayerKeeps =
    (gap timeout limit patience window capacity : ℕ) (ends : Ends)
    → make_of gap timeout limit patience window capacity ≡ accepted ends
    → (buffer message events : List ℕ)
    → length buffer ≡ 1785
    → (let w = start_of ends.sender ends.receiver buffer in
    Promise limit patience (newest_first [] (run_from w message events)))

-- so of every pack that is opened
abbrev pub PackKeeps : Type 0
PackKeeps =
    (bytes : List ℕ) (q : Player)
    → played.open_of bytes ≡ accepted q
    → Promise q.bodies.settings.limit q.bodies.settings.patience (newest_first [] (played.run_of bytes q))

-- what is said of the calls that a pack's events make, by the ends that making answers, whatever the buffer, the message and
-- the events
abbrev pub OfPlayer : (Past → List Call → Type 0) → Type 0
OfPlayer Says =
    (gap timeout limit patience window capacity : ℕ) (ends : Ends)
    → make_of gap timeout limit patience window capacity ≡ accepted ends
    → (buffer message events : List ℕ)
    → (let s = ends.sender in
    let r = ends.receiver in
    Says (fresh s r buffer) (calls_from (start_of s r buffer) message events))

-- Document 02, E2: the sender hears no LM_ACK that the rule for holds takes, the receiver is never held, and no connection
-- has had a hold
abbrev pub PlayerUnmet : Type 0
PlayerUnmet =
    OfPlayer
    (λ p calls. AllUnmet capped_step p calls × NeverHeld (opened_in (run_of capped_step p calls).events))

-- Document 02, E3: no frame that the receiver hears is refused 14, so that no pack can show it and what is printed stays
abbrev pub PlayerFilled : Type 0
PlayerFilled = OfPlayer (λ p calls. AllFilled (run_of capped_step p calls).events)

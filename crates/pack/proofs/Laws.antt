-- What is known of a pack that is not refused: its bodies fill it, and every event is 1 to 8.
-- Assumes nothing.
use Prim.Native.Nat.{ℕ, zero, suc, ◌+◌, ◌<◌, ◌≤◌}
use mathlib.Core.Path.{◌≡◌, refl, ap, ◌∙◌}
use mathlib.Core.Bool.{Bool, true, false, and-eq-true_iff}
use mathlib.Core.List.{List, [], ◌∷◌}
use native.Mathlib.Omega.{arith}
use borrow.Author.Tests.{leb-true, eqb-true}
use lib.Dec.{leb}
use lib.ListN.{length, get_or, drop, length-drop}
use lib.Seq.{length-take-le}
use Rattle.frame.specs.Choice.{pick}
use Rattle.frame.specs.Result.{accepted, refused}
use Rattle.pack.specs.Pack.{byte_at, offset_of, length_of, laid_out, bodies_in, message_of, events_of, is_event, all_events, bodies_of}
use Rattle.pack.specs.declared.Bodies.{Bodies}

-- ---- events

pub event_range : (event : ℕ) → is_event event ≡ true → (1 ≤ event) × (event ≤ 8)
event_range event h =
    let both = (and-eq-true_iff (leb 1 event) (leb event 8)).0 h in (leb-true 1 event both.0, leb-true event 8 both.1)

-- the first event of a list, and those after it
pub events_first : (event : ℕ) (events : List ℕ) → all_events (event ∷ events) ≡ true
    → (1 ≤ event) × (event ≤ 8) × (all_events events ≡ true)
unfolding all_events
events_first event events h =
    let both = (and-eq-true_iff (is_event event) (all_events events)).0 h in
    let range = event_range event both.0 in
    (range.0, range.1, both.1)

-- the event at each place
pub events_at : (events : List ℕ) (i : ℕ) → all_events events ≡ true → i < length events
    → (1 ≤ get_or events i 0) × (get_or events i 0 ≤ 8)
events_at [] i h inside = absurd (omega arith)
events_at (event ∷ events) zero h inside = let first = events_first event events h in (first.0, first.1)
events_at (event ∷ events) (suc i) h inside = events_at events i (events_first event events h).2 (omega arith)

-- ---- a pack that is not refused

-- the tests of the layout, as facts
pub record Layout (pack : List ℕ) : Type 0 where
  pub least : 13 ≤ length pack
  pub most : length pack ≤ 65535
  pub count : byte_at pack 0 ≡ 3
  pub settings : offset_of pack 0 ≡ 13
  pub ten : length_of pack 0 ≡ 10
  pub message : offset_of pack 1 ≡ offset_of pack 0 + length_of pack 0
  pub events : offset_of pack 2 ≡ offset_of pack 1 + length_of pack 1
  pub whole : length pack ≡ offset_of pack 2 + length_of pack 2

pub laid_out_lem : (pack : List ℕ) → laid_out pack ≡ true → Layout pack
unfolding laid_out
laid_out_lem pack h =
    let g = (and-eq-true_iff _ _).0 h in
    let f = (and-eq-true_iff _ _).0 g.0 in
    let e = (and-eq-true_iff _ _).0 f.0 in
    let d = (and-eq-true_iff _ _).0 e.0 in
    let c = (and-eq-true_iff _ _).0 d.0 in
    let b = (and-eq-true_iff _ _).0 c.0 in
    let a = (and-eq-true_iff _ _).0 b.0 in
    record {
      least = leb-true _ _ a.0;
      most = leb-true _ _ a.1;
      count = eqb-true _ _ b.1;
      settings = eqb-true _ _ c.1;
      ten = eqb-true _ _ d.1;
      message = eqb-true _ _ e.1;
      events = eqb-true _ _ f.1;
      whole = eqb-true _ _ g.1;
    }

passed : (laid events : Bool) (x b : Bodies) → pick laid (pick events (accepted x) (refused 12)) (refused 12) ≡ accepted b
    → (laid ≡ true) × (events ≡ true) × (b ≡ x)
unfolding pick
passed true true x b h = (refl, refl, cc)
passed true false x b h = (refl, cc, cc)
passed false events x b h = (cc, cc, cc)

module _ (pack : List ℕ) (b : Bodies) (read : bodies_of pack ≡ accepted b) where
  -- the bodies are those that the layout names
  pub read_bodies : b ≡ bodies_in pack
  unfolding bodies_of
  read_bodies = (passed (laid_out pack) (all_events (events_of pack (bodies_in pack))) (bodies_in pack) b read).2

  pub read_layout : Layout pack
  unfolding bodies_of
  read_layout =
      laid_out_lem pack (passed (laid_out pack) (all_events (events_of pack (bodies_in pack))) (bodies_in pack) b read).0

  -- every event is 1 to 8
  pub read_events : all_events (events_of pack b) ≡ true
  unfolding bodies_of
  read_events =
      ap (λ (x : Bodies). all_events (events_of pack x)) read_bodies
      ∙ (passed (laid_out pack) (all_events (events_of pack (bodies_in pack))) (bodies_in pack) b read).1

  -- count, table, settings, message and events are the whole pack
  pub read_whole : 23 + b.message + b.events ≡ length pack
  unfolding bodies_in
  read_whole =
      let m : b.message ≡ length_of pack 1 = ap (λ (x : Bodies). x.message) read_bodies in
      let e : b.events ≡ length_of pack 2 = ap (λ (x : Bodies). x.events) read_bodies in
      let l = read_layout in
      omega (arith, l.settings, l.ten, l.message, l.events, l.whole)

  pub read_most : length pack ≤ 65535
  read_most = read_layout.most

  pub length_events : length (events_of pack b) ≡ b.events
  unfolding events_of
  length_events = rw length-drop (omega (arith, read_whole))

  pub length_message : length (message_of pack b) ≡ b.message
  unfolding message_of
  length_message = length-take-le b.message (drop 23 pack) (rw length-drop (omega (arith, read_whole)))

  pub read_event : (i : ℕ) → i < b.events → (1 ≤ get_or (events_of pack b) i 0) × (get_or (events_of pack b) i 0 ≤ 8)
  read_event i inside = events_at (events_of pack b) i read_events (omega (arith, length_events))

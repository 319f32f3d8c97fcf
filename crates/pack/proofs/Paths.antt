-- A law for each path through the code: what its tests found gives the answer that the definition has.
-- Assumes nothing.
use Prim.Native.Nat.{ℕ, ◌+◌}
use mathlib.Core.Path.{◌≡◌, refl, sym, ap, ◌∙◌}
use mathlib.Core.Bool.{Bool, true, false, ◌&&◌}
use mathlib.Core.List.{List, [], ◌∷◌}
use lib.ListN.{drop}
use Rattle.std.specs.List.{list_all}
use Rattle.frame.proofs.Choice.{pick_true, pick_false}
use Rattle.frame.specs.Result.{accepted, refused}
use Rattle.pack.specs.Pack.{laid_out, bodies_in, events_of, is_event, all_events, bodies_of}
use Rattle.pack.specs.declared.Bodies.{Bodies}

-- The test of every event, as the code makes it.
pub events_listed : (events : List ℕ) → list_all is_event events ≡ all_events events
unfolding all_events
events_listed [] = refl
events_listed (event ∷ events) = ap (λ (t : Bool). is_event event && t) (events_listed events)

-- Reading goes by the layout, then by the events.
module _ (pack : List ℕ) where
  module _ {laid events : Bool} {b : Bodies} {message : ℕ} (e : events ≡ all_events (drop (23 + message) pack))
      (m : message ≡ b.message) (same : b ≡ bodies_in pack) (l : laid ≡ laid_out pack) (t : laid ≡ true) where
    judged : events ≡ all_events (events_of pack (bodies_in pack))
    unfolding events_of
    judged = rw (e, m, same)

    pub read_accepted : events ≡ true → accepted b ≡ bodies_of pack
    unfolding bodies_of
    read_accepted h = pick_true _ (sym l ∙ t) (pick_true _ (sym judged ∙ h) (ap accepted same))

    pub read_no_event : events ≡ false → refused 12 ≡ bodies_of pack
    unfolding bodies_of
    read_no_event h = pick_true _ (sym l ∙ t) (pick_false _ (sym judged ∙ h) refl)

  pub read_no_layout : {laid : Bool} → laid ≡ laid_out pack → laid ≡ false → refused 12 ≡ bodies_of pack
  unfolding bodies_of
  read_no_layout l laid = pick_false _ (sym l ∙ laid) refl

pub ruleset reads = (read_accepted, read_no_event, read_no_layout)

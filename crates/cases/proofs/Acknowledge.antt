-- What a sender shows at an LM_ACK in a long transfer depends on N, the start and the count alone.
-- Assumes nothing.
use mathlib.Core.Path.{◌≡◌, refl}
use mathlib.Core.Bool.{Bool, true, false}
use mathlib.Core.List.{List, []}
use Prim.Native.Nat.{ℕ}
use lib.Dec.{eqb, ltb}
use Rattle.frame.specs.Choice.{pick}
use Rattle.frame.specs.Frames.{lm_ack_of, lm_nack_of}
use Rattle.frame.specs.Reading.{named_of, all_filler, read_of}
use Rattle.sender.specs.Hear.{hear_of, hear_read, hear_kind, hear_ack, is_void, ack_opening, asks_to_hold, taking_hold, ack_below, ack_window, taking}
use Rattle.sender.specs.Told.{Told, silently, failing_with}
use Rattle.sender.specs.declared.Phase.{Phase}
use Rattle.sender.specs.declared.Sender.{Sender}
use Rattle.sender.specs.declared.Transfer.{Transfer}
use Rattle.cases.specs.Answer.{shown_hearing, unless_refused}
use Rattle.cases.specs.Claim.{Long, opening, sending, waiting}
use Rattle.cases.specs.Row.{nack}

-- the numbers that it shows
pub ack_numbers : ℕ → ℕ → ℕ → List ℕ
ack_numbers frames start count = pick (is_void start count) [] (pick (ltb frames start) (nack 4) [])

-- an LM_ACK that is ignored, or one that is taken, shows nothing; so only the tests for a bad one are seen
by_tests : (s : Sender) (t : Transfer) (taken ignored : Told) (zero above which : Bool)
    → shown_hearing taken ≡ []
    → shown_hearing ignored ≡ []
    → shown_hearing (pick zero (silently s) (pick above (failing_with s t 4) (pick which taken ignored)))
    ≡ pick zero [] (pick above (nack 4) [])
unfolding pick unless_refused lm_nack_of
by_tests s t taken ignored true above which ht hi = refl
by_tests s t taken ignored false true which ht hi = refl
by_tests s t taken ignored false false true ht hi = ht
by_tests s t taken ignored false false false ht hi = hi

-- an LM_ACK below the last start shows nothing, a hold's or not
below : (s : Sender) (t : Transfer) (last start count : ℕ) → shown_hearing (ack_below s t last start count) ≡ []
unfolding ack_below taking_hold unless_refused pick
below s t last start count = go (asks_to_hold last start count)
  where
    go : (held : Bool) → shown_hearing (pick held (taking_hold s t last start) (silently s)) ≡ []
    go true = refl
    go false = refl

in_window : (s : Sender) (t : Transfer) (last misses start count : ℕ)
    → shown_hearing (ack_window s t last misses start count) ≡ ack_numbers t.frames start count
unfolding ack_window taking ack_numbers unless_refused pick
in_window s t last misses start count =
    by_tests s t _ _ (is_void start count) (ltb t.frames start) (ltb start last) (below s t last start count) refl

by_phase : (s : Sender) {p : Phase} {t : Transfer}
    → Long p t
    → (start count : ℕ)
    → shown_hearing (hear_ack s p start count) ≡ ack_numbers t.frames start count
unfolding hear_ack ack_opening taking ack_numbers unless_refused pick
by_phase s (opening x) start count =
    by_tests s x.transfer _ _ (is_void start count) (ltb x.transfer.frames start) (eqb start 1) refl refl
by_phase s (sending x) start count = in_window s x.transfer x.start x.misses start count
by_phase s (waiting x) start count = in_window s x.transfer x.start x.misses start count

pub ack_shows : (s : Sender) (t : Transfer)
    → Long s.phase t
    → (start count : ℕ)
    → shown_hearing (hear_of s (lm_ack_of start count)) ≡ ack_numbers t.frames start count
unfolding hear_of hear_read hear_kind read_of named_of all_filler lm_ack_of pick
ack_shows s t long start count = by_phase s long start count

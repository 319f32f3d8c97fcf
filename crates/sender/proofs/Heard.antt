-- A frame that is ignored restarts no wait: a hearing leads to the sender as it was, to a window, or to the transfer's end.
-- Assumes nothing.
use mathlib.Core.Path.{refl}
use Rattle.sender.proofs.View.{Hears, ignores, above, takes, takes_hold, nacked, finished, finished_short, refuses, hear_does}
use Rattle.sender.specs.Hear.{taking, taking_hold}
use Rattle.sender.specs.Heard.{of_sent, of_failed, Heard, ignored, taken, over, HearingRestartsNoWait}
use Rattle.sender.specs.Told.{Told}
use Rattle.sender.specs.declared.Phase.{Phase}
use Rattle.sender.specs.declared.Sender.{Sender}

pub hearing_does : {s : Sender} {p : Phase} {t : Told} → Hears s p t → Heard s t
unfolding taking taking_hold
hearing_does (refuses number) = ignored refl refl refl
hearing_does ignores = ignored refl refl refl
hearing_does (above long) = over refl (of_failed _ _ _)
hearing_does (takes asked from some inside) = taken _ refl refl refl
hearing_does (takes_hold window from before) = taken _ refl refl refl
hearing_does (nacked long) = over refl (of_failed _ _ _)
hearing_does (finished window) = over refl (of_sent _ _)
hearing_does finished_short = over refl (of_sent _ _)

pub hearing_restarts_no_wait : HearingRestartsNoWait
hearing_restarts_no_wait s f = hearing_does (hear_does s f)

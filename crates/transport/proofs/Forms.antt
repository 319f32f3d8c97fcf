-- The forms of what the sender tells. A fact of each form is a fact of every answer, whatever the sender's state: each rule
-- ends in one of them.
-- Assumes nothing.
use Prim.Native.Nat.{ℕ, suc}
use mathlib.Core.List.{List}
use mathlib.Core.Path.{◌≡◌, refl, ap}
use lib.ListN.{length}
use Rattle.frame.proofs.Choice.{pick_elim}
use Rattle.frame.proofs.Laws.{length_fill}
use Rattle.frame.specs.Frames.{announcement_of, information_of, sm_rm_of}
use Rattle.frame.specs.declared.Frame.{Frame}
use Rattle.sender.proofs.Choices.{limit_elim, begin_elim, tick_elim, over_elim, timeout_elim, bad_elim, hear_elim}
use Rattle.sender.specs.Begin.{begin_long, begin_short, begin_of}
use Rattle.sender.specs.Hear.{taking_hold, ack_below, taking, ack_opening, ack_window, hear_ack, hear_nack, if_whole, hear_end, if_first, hear_short_ack, hear_of}
use Rattle.sender.specs.State.{aged}
use Rattle.sender.specs.Tick.{tick_opening, tick_sending, tick_waiting, tick_short, tick_phase, tick_of}
use Rattle.sender.specs.Told.{Told, refusing, silently, emitting, failing_with, failing, finishing}
use Rattle.sender.specs.declared.Phase.{Phase}
use Rattle.sender.specs.declared.Phase.TheVariants.{Idle, Opening, Sending, Waiting, Short}
use Rattle.sender.specs.declared.Sender.{Sender}
use Rattle.sender.specs.declared.Transfer.{Transfer}

pub record Forms (P : Told → Type 0) (s : Sender) : Type 0 where
  pub refuses : (number : ℕ) → P (refusing s number)
  pub rests : (next : Sender) → P (silently next)
  pub emits : (next : Sender) (f : Frame) → length f.bytes ≡ 8 → P (emitting next f)
  pub fails : (t : Transfer) (cause : ℕ) → P (failing_with s t cause)
  pub ends : (t : Transfer) (cause : ℕ) → P (failing s t cause)
  pub finishes : (t : Transfer) → P (finishing s t)

module _ (P : Told → Type 0) (s : Sender) (k : Forms P s) where
  pub begin_tells : (m : List ℕ) → P (begin_of s m)
  unfolding begin_long begin_short announcement_of sm_rm_of
  begin_tells m =
      begin_elim P s m k.refuses (λ _. λ _. k.emits _ _ (length_fill 8 m)) (λ _. λ _. k.emits _ _ refl)

  phase_tells : (q : Phase) (m : List ℕ) → P (tick_phase s q m)
  unfolding tick_phase tick_opening tick_sending tick_waiting tick_short announcement_of information_of sm_rm_of
  phase_tells Idle m = k.rests _
  phase_tells (Opening x) m =
      over_elim P s x.transfer _ (k.fails (aged x.transfer) 3)
      (λ _. timeout_elim P s x.transfer x.wait x.misses (k.fails (aged x.transfer) 2) (λ _. k.emits _ _ refl) (λ _. k.rests _))
  phase_tells (Sending x) m =
      over_elim P s x.transfer _ (k.fails (aged x.transfer) 3)
      (λ _. limit_elim P s.settings.gap x.gap (k.emits _ _ (ap suc (length_fill 7 _))) (λ _. k.rests _))
  phase_tells (Waiting x) m =
      over_elim P s x.transfer _ (k.fails (aged x.transfer) 3)
      (λ _. timeout_elim P s x.transfer x.wait x.misses (k.fails (aged x.transfer) 2) (λ _. k.emits _ _ (ap suc (length_fill 7 _))) (λ _. k.rests _))
  phase_tells (Short x) m =
      over_elim P s x.transfer _ (k.ends (aged x.transfer) 3)
      (λ _. limit_elim P s.settings.timeout x.wait (k.emits _ _ (length_fill 8 m)) (λ _. k.rests _))

  pub tick_tells : (m : List ℕ) → P (tick_of s m)
  tick_tells m = tick_elim P s m (k.refuses 4) (phase_tells s.phase m)

  window_tells : (t : Transfer) (taken misses start count : ℕ) → P (ack_window s t taken misses start count)
  unfolding ack_window ack_below taking_hold taking
  window_tells t taken misses start count =
      bad_elim P s t start count (k.rests _) (k.fails t 4)
      (λ _. λ _. λ _. pick_elim P _
      (λ _. pick_elim P _ (λ _. k.rests _) (λ _. k.rests _))
      (λ _. k.rests _))

  ack_tells : (q : Phase) (start count : ℕ) → P (hear_ack s q start count)
  unfolding hear_ack ack_opening taking
  ack_tells Idle start count = k.rests _
  ack_tells (Opening x) start count =
      bad_elim P s x.transfer start count (k.rests _) (k.fails x.transfer 4)
      (λ _. λ _. λ _. pick_elim P _ (λ _. k.rests _) (λ _. k.rests _))
  ack_tells (Sending x) start count = window_tells x.transfer x.start x.misses start count
  ack_tells (Waiting x) start count = window_tells x.transfer x.start x.misses start count
  ack_tells (Short x) start count = k.rests _

  nack_tells : (q : Phase) → P (hear_nack s q)
  unfolding hear_nack
  nack_tells Idle = k.rests _
  nack_tells (Opening x) = k.ends x.transfer 1
  nack_tells (Sending x) = k.ends x.transfer 1
  nack_tells (Waiting x) = k.ends x.transfer 1
  nack_tells (Short x) = k.rests _

  end_tells : (q : Phase) (frames l : ℕ) → P (hear_end s q frames l)
  unfolding hear_end if_whole
  end_tells Idle frames l = k.rests _
  end_tells (Opening x) frames l = k.rests _
  end_tells (Sending x) frames l = pick_elim P _ (λ _. k.finishes x.transfer) (λ _. k.rests _)
  end_tells (Waiting x) frames l = pick_elim P _ (λ _. k.finishes x.transfer) (λ _. k.rests _)
  end_tells (Short x) frames l = k.rests _

  short_tells : (q : Phase) (first : ℕ) → P (hear_short_ack s q first)
  unfolding hear_short_ack if_first
  short_tells Idle first = k.rests _
  short_tells (Opening x) first = k.rests _
  short_tells (Sending x) first = k.rests _
  short_tells (Waiting x) first = k.rests _
  short_tells (Short x) first = pick_elim P _ (λ _. k.finishes x.transfer) (λ _. k.rests _)

  pub hear_tells : (f : Frame) → P (hear_of s f)
  hear_tells f =
      let q = s.phase in
      hear_elim P s f k.refuses (λ _. ack_tells q _ _) (nack_tells q) (end_tells q _ _) (short_tells q _)

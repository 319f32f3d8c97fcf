-- Document 01, Frames: every frame that an end answers with has eight data bytes, and so has every short delivery of a
-- frame of eight, whatever the end's state.
-- Assumes nothing.
use Prim.Native.Nat.{ℕ}
use mathlib.Core.List.{List}
use mathlib.Core.Path.{◌≡◌, refl}
use lib.ListN.{length}
use Rattle.frame.specs.Frames.{blank_of, lm_ack_of, lm_nack_of, end_of_ack_of, sm_ack_of}
use Rattle.frame.specs.declared.Frame.{Frame}
use Rattle.receiver.proofs.View.{Ticks, rests, waits, retries, repeats, expires, tick_does, Pause, pause_of, Pauses, denied, holds, resumes, pause_does, nacks, opens, again, ended, above, delivers, asks, goes_on, Hears, refuses, ignores, announced, informed, closes, short, short_only_lem, hear_does}
use Rattle.receiver.specs.Hear as hearing
use Rattle.receiver.specs.Tick as ticking
use Rattle.receiver.specs.Told as receiver
use Rattle.receiver.specs.declared.Phase as receiver-phase
use Rattle.receiver.specs.declared.Receiver.{Receiver}
use Rattle.receiver.specs.declared.Settings.{Settings}
use Rattle.sender.specs.Begin.{begin_of}
use Rattle.sender.specs.Hear.{hear_of}
use Rattle.sender.specs.Tick.{tick_of}
use Rattle.sender.specs.Told as sender
use Rattle.sender.specs.declared.Sender.{Sender}
use Rattle.transport.proofs.Forms.{Forms, begin_tells, tick_tells, hear_tells}

-- ---- the sender

abbrev pub Eight : sender.Told → Type 0
Eight t = length t.frame.bytes ≡ 8

eight_forms : (s : Sender) → Forms Eight s
unfolding lm_nack_of blank_of
eight_forms s =
    record {
      refuses = λ _. refl;
      rests = λ _. refl;
      emits = λ _ _ e. e;
      fails = λ _ _. refl;
      ends = λ _ _. refl;
      finishes = λ _. refl;
    }

pub begin_eight : (s : Sender) (m : List ℕ) → Eight (begin_of s m)
begin_eight s = begin_tells Eight s (eight_forms s)

pub tick_eight : (s : Sender) (m : List ℕ) → Eight (tick_of s m)
tick_eight s = tick_tells Eight s (eight_forms s)

pub hear_eight : (s : Sender) (f : Frame) → Eight (hear_of s f)
hear_eight s = hear_tells Eight s (eight_forms s)

-- ---- the receiver: its frame, and the bytes of a short delivery

pub record Eights (t : receiver.Told) : Type 0 where
  pub frame : length t.frame.bytes ≡ 8
  pub bytes : length t.bytes ≡ 8

abbrev blank : {t : receiver.Told} → length t.frame.bytes ≡ 8 → length t.bytes ≡ 8 → Eights t
blank f b = record { frame = f; bytes = b }

tick_told : {s : Settings} {p : receiver-phase.Phase} {t : receiver.Told} → Ticks s p t → Eights t
unfolding lm_nack_of lm_ack_of blank_of
tick_told (rests _) = blank refl refl
tick_told (waits _) = blank refl refl
tick_told (retries _ _ _) = blank refl refl
tick_told (repeats _ _ _) = blank refl refl
tick_told expires = blank refl refl

pause_told : {s : Settings} {k : Pause} {p : receiver-phase.Phase} {t : receiver.Told} → Pauses s k p t → Eights t
unfolding lm_ack_of blank_of
pause_told denied = blank refl refl
pause_told (holds _ _) = blank refl refl
pause_told (resumes _) = blank refl refl

pub receiver_pause_eight : (k : Pause) (r : Receiver) → Eights (pause_of k r)
receiver_pause_eight k r = pause_told (pause_does k r)

pub receiver_tick_eight : (r : Receiver) → Eights (ticking.tick_of r)
receiver_tick_eight r = tick_told (tick_does r)

abbrev HeardEights : receiver.Heard → Type 0
HeardEights h = Eights h.told

hear_told : {s : Settings} {f : Frame} {buffer : List ℕ} {p : receiver-phase.Phase} {h : receiver.Heard} → length f.bytes ≡ 8
    → Hears s f buffer p h → HeardEights h
unfolding lm_nack_of lm_ack_of end_of_ack_of sm_ack_of blank_of
hear_told e (refuses _ _) = blank refl refl
hear_told e ignores = blank refl refl
hear_told e (announced _ _ (nacks _ _)) = blank refl refl
hear_told e (announced _ _ (opens _ _ _ _ _)) = blank refl refl
hear_told e (announced _ _ again) = blank refl refl
hear_told e (informed _ _ _ (ended _)) = blank refl refl
hear_told e (informed _ _ _ (above _)) = blank refl refl
hear_told e (informed _ _ _ (delivers _ _)) = blank refl refl
hear_told e (informed _ _ _ (asks _ _ _)) = blank refl refl
hear_told e (informed _ _ _ (goes_on _ _ _ _)) = blank refl refl
hear_told e (closes _) = blank refl refl
hear_told e (short _) = blank refl e
hear_told e (short_only_lem _) = blank refl e

pub receiver_hear_eight : (r : Receiver) (f : Frame) (buffer : List ℕ) → length f.bytes ≡ 8 → HeardEights (hearing.hear_of r f buffer)
receiver_hear_eight r f buffer e = hear_told e (hear_does r f buffer)

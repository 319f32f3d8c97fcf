-- The calls can be made: whatever world the definition of a call names, there are ends and lent bytes that make it. A
-- line keeps at most 64 frames of eight bytes, and a ring holds every such list: it is filled by joining one frame after
-- the other.
-- Assumes nothing.
use Prim.Native.Nat.{ℕ, zero, suc, ◌+◌, ◌≤◌}
use mathlib.Core.Path.{◌≡◌, refl, sym, ap, subst, ◌∙◌}
use mathlib.Core.List.{List, [], ◌∷◌, ◌++◌, append_assoc, append-nil}
use native.Mathlib.Omega.{arith}
use lib.ListN.{length, take, replicate, length-take, length-append, length-replicate}
use lib.Seq.{take_all, length-sets}
use Rattle.frame.proofs.Choice.{pick_true, pick_elim}
use Rattle.frame.specs.declared.Frame.{Frame}
use Rattle.line.proofs.Frames.{frames_joined, frames_limit}
use Rattle.line.specs.Ring.{stored, frames_in, frames_from, empty_of, Kept, join_of}
use Rattle.line.specs.declared.Ring.{Ring}
use Rattle.pack.specs.Pack.{message_of}
use Rattle.player.proofs.Steps.{lent_begin}
use Rattle.player.specs.Calls.{Progressed, progressed, plays_on, begin_of, playing, next_events, play_of}
use Rattle.player.specs.Events.{turn_for, call_for, world_after}
use Rattle.player.specs.State.{Turned, turned}
use Rattle.player.specs.Text.{event_text}
use Rattle.player.specs.Whole.{Held, held, begins, Plays, none, plays, RunsExist}
use Rattle.player.specs.declared.Player.{Player}
use Rattle.player.specs.declared.Progress.{Progress}
use Rattle.text.specs.Page.{Page, page, put}
use Rattle.transport.proofs.Events.{AllEight, Whole, whole_world, call_whole}
use Rattle.transport.specs.Answer.{world_of}
use Rattle.transport.specs.Capped.{capped, capped_step}
use Rattle.transport.specs.Step.{step_of}
use Rattle.transport.specs.World.{World, Call, begin}
use Rattle.transport.specs.declared.Ends.{Ends}

-- so many zeros; `length-replicate` itself has to be given its type at each numeral below
length_zeros : (n : ℕ) → length (replicate {A = ℕ} n 0) ≡ n
length_zeros n = length-replicate {A = ℕ} n 0

-- ---- a ring for every list

record Ringed (fs : List Frame) : Type 0 where
  ring : Ring
  bytes : List ℕ
  size : length bytes ≡ 576
  holds : frames_in ring bytes ≡ fs

length_joined : (r : Ring) (f : Frame) (bytes : List ℕ) → length (join_of r f bytes).bytes ≡ length bytes
unfolding join_of stored
length_joined r f bytes =
    let P : Kept → Type 0 = λ k. length k.bytes ≡ length bytes in
    pick_elim P _ (λ _. pick_elim P _ (λ _. refl) (λ _. simp length-sets)) (λ _. refl)

joining : (r : Ring) (bytes : List ℕ) (fs : List Frame)
    → length bytes ≡ 576
    → length (frames_in r bytes) + length fs ≤ 64
    → AllEight fs
    → Ringed (frames_in r bytes ++ fs)
joining r bytes [] size few a = record { ring = r; bytes = bytes; size = size; holds = sym (append-nil (frames_in r bytes)) }
joining r bytes (f ∷ fs) size few a =
    let k = join_of r f bytes in
    let room : length (frames_in r bytes ++ f ∷ []) ≤ 64 = rw length-append (omega arith) in
    let e : frames_in k.ring k.bytes ≡ frames_in r bytes ++ f ∷ [] =
    frames_joined r f bytes size a.0 ∙ take_all 64 (frames_in r bytes ++ f ∷ []) room in
    let l : length (frames_in k.ring k.bytes) ≡ length (frames_in r bytes) + 1 = ap length e ∙ rw length-append refl in
    subst Ringed (ap (λ (l : List Frame). l ++ fs) e ∙ append_assoc (frames_in r bytes) (f ∷ []) fs)
    (joining k.ring k.bytes fs (length_joined r f bytes ∙ size) (omega arith) a.1)

ringed : (fs : List Frame) → length fs ≤ 64 → AllEight fs → Ringed fs
unfolding frames_in frames_from
ringed fs few a = joining empty_of (replicate 576 0) fs (length_zeros 576) (omega arith) a

-- ---- a world for every step

record Small (w : World) : Type 0 where
  whole : Whole w
  forward : length w.forward ≤ 64
  back : length w.back ≤ 64

small_world : (ends : Ends) (forward back buffer : List ℕ) → Small (world_of ends forward back buffer)
unfolding world_of
small_world ends forward back buffer =
    record {
      whole = whole_world ends forward back buffer;
      forward = frames_limit ends.forward forward;
      back = frames_limit ends.back back;
    }

small_step : (w : World) (c : Call) → Whole w → Small (capped_step w c).world
unfolding capped_step capped
small_step w c a =
    record { whole = call_whole w c a; forward = rw length-take (omega arith); back = rw length-take (omega arith) }

small_after : (w : World) (m events : List ℕ) → Small w → Small (world_after w m events)
unfolding world_after turn_for
small_after w m [] a = a
small_after w m (event ∷ events) a =
    small_after (capped_step w (call_for w m event)).world m events (small_step w (call_for w m event) a.whole)

-- what makes a world: the ends, and the bytes of both lines
record Makes (w : World) : Type 0 where
  ends : Ends
  forward : List ℕ
  back : List ℕ
  size_forward : length forward ≡ 576
  size_back : length back ≡ 576
  makes : world_of ends forward back w.buffer ≡ w

made : (w : World) → Small w → Makes w
unfolding world_of
made w a =
    let f = ringed w.forward a.forward a.whole.forward in
    let b = ringed w.back a.back a.whole.back in
    record {
      ends = record { sender = w.sender; receiver = w.receiver; forward = f.ring; back = b.ring };
      forward = f.bytes;
      back = b.bytes;
      size_forward = f.size;
      size_back = b.size;
      makes = rw (f.holds, b.holds) refl;
    }

-- ---- the calls

abbrev answer : Ends → Progressed → Progress
answer ends g = record { player = record { ends = ends; bodies = g.bodies; played = g.played }; written = g.page.place }

abbrev line : List ℕ
line = replicate 576 0

abbrev sheet : List ℕ
sheet = replicate 16384 0

-- so many calls of play, from what a program holds
record Played (bytes : List ℕ) (n : ℕ) (h : Held) : Type 0 where
  text : List ℕ
  last : Held
  play : Plays bytes n h text last

small_played : (bytes : List ℕ) (q : Player) (forward back buffer out : List ℕ)
    → Small (play_of bytes q forward back buffer out).world
unfolding play_of playing
small_played bytes q forward back buffer out =
    let w = world_of q.ends forward back buffer in
    let a = small_world q.ends forward back buffer in
    pick_elim (λ (g : Progressed). Small g.world) (plays_on forward back out)
    (λ _. small_after w (message_of bytes q.bodies) (next_events bytes q) a) (λ _. a)

played : (bytes : List ℕ) (n : ℕ) (h : Held) → length h.forward ≡ 576 → length h.back ≡ 576 → Played bytes n h
played bytes zero h lf lb = record { text = []; last = h; play = none }
played bytes (suc n) h lf lb =
    let g = play_of bytes h.player h.forward h.back h.buffer sheet in
    let m = made g.world (small_played bytes h.player h.forward h.back h.buffer sheet) in
    let r = answer m.ends g in
    let next = held r.player m.forward m.back g.world.buffer in
    let rest = played bytes n next m.size_forward m.size_back in
    record {
      text = take r.written g.page.bytes ++ rest.text;
      last = rest.last;
      play =
          plays r m.forward m.back g.world.buffer sheet g.page.bytes
          (m.size_forward ∙ sym lf) (m.size_back ∙ sym lb)
          (length_zeros 16384)
          (ap (λ (w : World). progressed (turned w g.page) g.bodies g.played) m.makes)
          rest.play;
    }

-- a begin leaves back as it is, whatever back and the buffer hold
pub runs_exist : RunsExist
unfolding world_of begin_of capped_step capped step_of
runs_exist bytes q n =
    let m = message_of bytes q.bodies in
    let w = world_of q.ends line [] [] in
    let step = capped_step w (begin m) in
    let a = small_step w (begin m) (whole_world q.ends line [] []) in
    let f = ringed step.world.forward a.forward a.whole.forward in
    let ends : Ends =
    record { sender = step.world.sender; receiver = q.ends.receiver; forward = f.ring; back = q.ends.back } in
    let p : Page = put (page sheet 0) (event_text 0 step.event) in
    let player : Player = record { ends = ends; bodies = q.bodies; played = q.played } in
    let r : Progress = record { player = player; written = p.place } in
    let h : Held = held r.player f.bytes line (replicate 1785 0) in
    let on = played bytes n h f.size (length_zeros 576) in
    record {
      begun = take r.written p.bytes;
      text = on.text;
      first = h;
      last = on.last;
      begin =
          begins r line f.bytes line sheet p.bytes
          (length_zeros 576) (f.size ∙ sym (length_zeros 576)) (length_zeros 576) (length_zeros 16384)
          (λ other buffer. ap (λ (t : Turned). progressed t q.bodies q.played)
          (pick_true _ (lent_begin (length line) (length sheet) (length_zeros 576) (length_zeros 16384))
          (rw (f.holds, take_all 64 (frames_in q.ends.back other) (frames_limit q.ends.back other)) refl)));
      play = on.play;
    }

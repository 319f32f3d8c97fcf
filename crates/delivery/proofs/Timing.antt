-- The receiver's time. While a connection is open, its ticks are at most T for each timeout that its state can still tell
-- of, four for each frame before the one expected and at most twenty while held, and the wait. The first frame has one timeout
-- fewer, since the wait for it is one after an LM_ACK from the start, and each frame that is accepted comes a tick before its
-- last timeout; so that the connection is reported by tick T × (4 × N − 1) − (N − 1) + 20 × T at the latest, and where no hold was
-- accepted 20 × T earlier.
use Prim.Native.Nat.{ℕ, ◌+◌, ◌-◌, ◌*◌, ◌≤◌, ◌<◌}
use mathlib.Core.Bool.{Bool, true, false, false≢true, ◌&&◌, and-false}
use mathlib.Core.List.{List}
use mathlib.Core.Path.{◌≡◌, refl, sym, ap, ◌∙◌}
use native.Mathlib.Nat.{add-zero, mul-add, mul-le-mul_left, mul-le-mul_right}
use native.Mathlib.Omega.{arith}
use Rattle.frame.specs.Choice.{pick}
use Rattle.frame.specs.Count.{increment_of, frame_count_of}
use Rattle.frame.specs.Frames.{byte_of, word_at, lm_ack_of, lm_nack_of, end_of_ack_of, sm_ack_of}
use Rattle.frame.specs.declared.Frame.{Frame}
use Rattle.receiver.proofs.View.{receiver_in, Shut, Ticks, rests, waits, retries, repeats, expires, tick_does, Counted, first_after_ack, second_after_ack, first_after_frame, first_again, Pause, hold, resume, pause_of, Pauses, denied, holds, resumes, pause_does, nacks, opens, again, ended, above, delivers, asks, goes_on, Hears, refuses, ignores, announced, informed, closes, short, short_only_lem, hear_does}
use Rattle.receiver.specs.Hear.{hear_of}
use Rattle.receiver.specs.Misses.{acknowledged}
use Rattle.receiver.specs.State.{opened, moved, marked}
use Rattle.receiver.specs.Tick.{tick_of}
use Rattle.receiver.specs.Told.{Told, refused, Heard}
use Rattle.receiver.specs.Window.{window_of}
use Rattle.receiver.specs.declared.Connection.{Connection}
use Rattle.receiver.specs.declared.Misses.{Misses}
use Rattle.receiver.specs.declared.Misses.TheVariants.{NoneAfterAck, OneAfterAck, TwoAfterAck, NoneAfterFrame, OneAfterFrame}
use Rattle.receiver.specs.declared.Phase.{Phase}
use Rattle.receiver.specs.declared.Phase.TheVariants.{Open}
use Rattle.receiver.specs.declared.Receiver.{Receiver}
use Rattle.receiver.specs.declared.Settings.{Settings}
use Rattle.frame.proofs.Laws.{increment_is}
use Rattle.delivery.specs.Latest.{latest}
use Rattle.delivery.specs.Seen.{Sort, holds_receiver, other, Opened, never, since, later, idle, announces, first_ack, receiver_reports, pauses_by}
use Rattle.transport.specs.Step.{emission}
use Rattle.transport.specs.World.{to_receiver}

-- The timeouts that the expected frame can have cost, those while held apart: at most one after a frame, and then those counted
-- after an LM_ACK. Where none is counted after an LM_ACK, the one after a frame is taken to have been there.
abbrev spent : Misses → ℕ
spent NoneAfterAck = 1
spent OneAfterAck = 2
spent TwoAfterAck = 3
spent NoneAfterFrame = 0
spent OneAfterFrame = 1

-- a timeout is one more
spent_one : {m n : Misses} → Counted m n → spent n ≡ spent m + 1
spent_one first_after_ack = refl
spent_one second_after_ack = refl
spent_one first_after_frame = refl
spent_one first_again = refl

-- the fourth fails the connection
spent_most : (m : Misses) → spent m ≤ 3
spent_most NoneAfterAck = omega arith
spent_most OneAfterAck = omega arith
spent_most TwoAfterAck = omega arith
spent_most NoneAfterFrame = omega arith
spent_most OneAfterFrame = omega arith

-- the LM_ACK of a hold or of a resume can only bring the fourth nearer
spent_acknowledged : (m : Misses) → spent m ≤ spent (acknowledged m)
spent_acknowledged NoneAfterAck = omega arith
spent_acknowledged OneAfterAck = omega arith
spent_acknowledged TwoAfterAck = omega arith
spent_acknowledged NoneAfterFrame = omega arith
spent_acknowledged OneAfterFrame = omega arith

-- what an open connection's state tells of the ticks since its opening, and of the holds accepted since then
pub record Within (st : Settings) (x : Connection) (ticks pauses : ℕ) : Type 0 where
  pub low : 1 ≤ x.expected
  pub high : x.expected ≤ x.frames
  pub long : x.length ≤ 1785
  pub waits : x.wait < st.timeout
  pub few : x.holds ≤ 20
  pub bound :
      st.timeout + ticks + (x.expected - 1) ≤ st.timeout * (4 * (x.expected - 1) + spent x.misses + x.holds) + x.wait
  pub free : pauses ≡ 0 → (x.held ≡ false) × (x.holds ≡ 0)

-- the receiver's state beside what has been seen of its connections
pub data Timed (st : Settings) : Receiver → Opened → Type 0 where
  before : {p : Phase} → Shut p → Timed st (record { settings = st; phase = p }) never
  between : {p : Phase} {n t k : ℕ} → Shut p → Timed st (record { settings = st; phase = p }) (since n t 1 k)
  during : {x : Connection} {t k : ℕ} → Within st x t k
      → Timed st (record { settings = st; phase = Open x }) (since x.frames t 0 k)

-- no tick, no report and no hold: what was seen since the opening is what it was
pub timed_later : {st : Settings} {r : Receiver} {o : Opened} → Timed st r o → Timed st r (later o 0 0 0)
timed_later (before shut) = before shut
timed_later (between shut) = between shut
timed_later (during {x} {t} {k} w) =
    during {x = x} {t = t + 0} {k = k + 0}
    (record {
      low = w.low;
      high = w.high;
      long = w.long;
      waits = w.waits;
      few = w.few;
      bound = rw add-zero w.bound;
      free = λ none. w.free (omega arith);
    })

-- q whole timeouts and a wait short of one more are under k timeouts, for each k above q
under : (timeout q k : ℕ) {t wait : ℕ} → t ≤ timeout * q + wait → wait < timeout → q < k → t < timeout * k
under timeout q k h g l =
    let m : timeout * (q + 1) ≤ timeout * k = mul-le-mul_left timeout (omega arith) in
    omega (arith, m)

-- over more frames, four timeouts for each are at least a tick for each
stretched : (timeout frames more n : ℕ) {t : ℕ} → 1 ≤ timeout → t < timeout * (4 * frames + n)
    → t + 1 + more ≤ timeout * (4 * (frames + more) + n)
stretched timeout frames more n pos h =
    let m : 1 * (4 * more) ≤ timeout * (4 * more) = mul-le-mul_right (4 * more) pos in
    omega (arith, m, h)

-- what ticks are short of, as the tick that they are before
before_latest : (timeout frames n : ℕ) {t : ℕ} → 1 ≤ frames → timeout + t + frames ≤ timeout * (4 * frames + n)
    → t < latest timeout frames + timeout * n
before_latest timeout frames n some h =
    let whole : 4 * frames + n ≡ 4 * frames - 1 + (1 + n) = omega (arith, some) in
    let parts : timeout * (4 * frames + n) ≡ timeout * (4 * frames - 1) + timeout * (1 + n) =
    ap (λ (q : ℕ). timeout * q) whole ∙ mul-add timeout (4 * frames - 1) (1 + n) in
    let one : timeout * (1 + n) ≡ timeout * 1 + timeout * n = mul-add timeout 1 n in
    omega (arith, some, h, parts, one)

-- the latest tick is none after the one that demand 3 names
pub latest_under : (timeout frames : ℕ) → latest timeout frames ≤ 4 * timeout * frames
latest_under timeout frames =
    let fewer : timeout * (4 * frames - 1) ≤ timeout * (4 * frames) = mul-le-mul_left timeout (omega arith) in
    omega (arith, fewer)

-- after a tick that told t
abbrev Ticked : Settings → Opened → Told → Type 0
Ticked st o t = Timed st t.next (later o 1 (receiver_reports t.outcome) 0)

-- the other frames that a receiver emits are no LM_ACK
nack_drawn : (cause : ℕ) → first_ack (emission true (lm_nack_of cause)) ≡ false
unfolding lm_nack_of
nack_drawn cause = refl

end_drawn : (frames length : ℕ) → first_ack (emission true (end_of_ack_of frames length)) ≡ false
unfolding end_of_ack_of
end_drawn frames length = refl

short_drawn : (first : ℕ) → first_ack (emission true (sm_ack_of first)) ≡ false
unfolding sm_ack_of
short_drawn first = refl

-- the sort of call that the two are
abbrev pub sort_for : Pause → Sort
sort_for hold = holds_receiver
sort_for resume = other

-- after a hearing of f that told a
pub record Listened (st : Settings) (o : Opened) (f : Frame) (a : Told) : Type 0 where
  pub timed :
      Timed st a.next
      (pick (announces (to_receiver f) && first_ack (emission a.emits a.frame) && idle o) (since (byte_of f 1) 0 0 0)
      (later o 0 (receiver_reports a.outcome) 0))

module _ (st : Settings) (pos : 1 ≤ st.timeout) (small : st.timeout ≤ 10000) where
  waited : (x : Connection) {t k : ℕ} → Within st x t k → increment_of x.wait < st.timeout
      → Within st (moved x x.expected x.last (increment_of x.wait) x.misses) (t + 1) (k + 0)
  waited x w early =
      let i = increment_is x.wait (omega arith) in
      record {
        low = w.low;
        high = w.high;
        long = w.long;
        waits = early;
        few = w.few;
        bound = rw i (omega arith);
        free = λ none. w.free (omega arith);
      }

  timed_out_lem : (x : Connection) (last : ℕ) {misses : Misses} {t k : ℕ} → Within st x t k → st.timeout ≤ increment_of x.wait
      → Counted x.misses misses
      → Within st (moved x x.expected last 0 misses) (t + 1) (k + 0)
  timed_out_lem x last {misses} w due counted =
      let i = increment_is x.wait (omega arith) in
      let one : spent misses ≡ spent x.misses + 1 = spent_one counted in
      record {
        low = w.low;
        high = w.high;
        long = w.long;
        waits = pos;
        few = w.few;
        bound = rw one (omega arith);
        free = λ none. w.free (omega arith);
      }

  -- a timeout while held: a hold was accepted
  held_on : (x : Connection) {t k : ℕ} → Within st x t k → st.timeout ≤ increment_of x.wait → x.held ≡ true
      → x.holds + 1 < 21
      → Within st (marked x x.held x.last 0 (x.holds + 1)) (t + 1) (k + 0)
  held_on x w due held more =
      let i = increment_is x.wait (omega arith) in
      let few = w.few in
      let acked = mul-le-mul_left st.timeout (spent_acknowledged x.misses) in
      record {
        low = w.low;
        high = w.high;
        long = w.long;
        waits = pos;
        few = omega arith;
        bound = omega (arith, acked);
        free = λ none. absurd (false≢true (sym (w.free (omega arith)).0 ∙ held));
      }

  ticked : {r : Receiver} {o : Opened} {t : Told} → Timed st r o → Ticks r.settings r.phase t → Ticked st o t
  ticked (before shut) (rests _) = before shut
  ticked (between shut) (rests _) = between shut
  ticked (during w) (rests shut) = absurd shut
  ticked (before shut) (waits _) = absurd shut
  ticked (between shut) (waits _) = absurd shut
  ticked (during {x} w) (waits early) = during (waited x w early)
  ticked (before shut) (retries _ _ _) = absurd shut
  ticked (between shut) (retries _ _ _) = absurd shut
  ticked (during {x} w) (retries due _ counted) = during (timed_out_lem x _ w due counted)
  ticked (before shut) (repeats _ _ _) = absurd shut
  ticked (between shut) (repeats _ _ _) = absurd shut
  ticked (during {x} w) (repeats due held more) = during (held_on x w due held more)
  ticked (before shut) expires = absurd shut
  ticked (between shut) expires = absurd shut
  ticked (during w) expires = between tt

  pub tick_timed : {r : Receiver} {o : Opened} → Timed st r o → Ticked st o (tick_of r)
  tick_timed {r} k = ticked k (tick_does r)

  -- a connection with another held mark and another w, after so many accepted holds: its time is what it was
  remarked : (x : Connection) (held : Bool) (last : ℕ) {t k seen : ℕ} → Within st x t k
      → (seen ≡ 0 → (held ≡ false) × (x.holds ≡ 0))
      → Within st (marked x held last x.wait x.holds) (t + 0) seen
  remarked x held last w none =
      let acked = mul-le-mul_left st.timeout (spent_acknowledged x.misses) in
      record {
        low = w.low;
        high = w.high;
        long = w.long;
        waits = w.waits;
        few = w.few;
        bound = omega (arith, acked, w.bound);
        free = none;
      }

  -- after a hold or a resume that told t
  abbrev Paused : Pause → Opened → Told → Type 0
  Paused k o t = Timed st t.next (later o 0 (receiver_reports t.outcome) (pauses_by (sort_for k) t.outcome))

  unpaused : (k : Pause) {r : Receiver} {o : Opened} → Timed st r o → Timed st r (later o 0 0 (pauses_by (sort_for k) (refused 13)))
  unpaused hold h = timed_later h
  unpaused resume h = timed_later h

  pauses : {r : Receiver} {o : Opened} {k : Pause} {t : Told} → Timed st r o → Pauses r.settings k r.phase t
      → Paused k o t
  pauses (before shut) (denied {k = k}) = unpaused k (before shut)
  pauses (between shut) (denied {k = k}) = unpaused k (between shut)
  pauses (during w) (denied {k = k}) = unpaused k (during w)
  pauses (before shut) (holds _ _) = absurd shut
  pauses (between shut) (holds _ _) = absurd shut
  pauses (during {x} {k = k} w) (holds _ _) =
      during (remarked x true _ {seen = k + 1} w (λ (none : k + 1 ≡ 0). absurd (omega arith)))
  pauses (before shut) (resumes _) = absurd shut
  pauses (between shut) (resumes _) = absurd shut
  pauses (during {x} {k = k} w) (resumes held) =
      during (remarked x false _ {seen = k + 0} w (λ (none : k + 0 ≡ 0). (refl, (w.free (omega arith)).1)))

  pub pause_timed : (k : Pause) {r : Receiver} {o : Opened} → Timed st r o → Paused k o (pause_of k r)
  pause_timed k {r} h = pauses h (pause_does k r)

  -- no connection opens: what is told is counted on
  counts_on : {r : Receiver} (o : Opened) {o' : Opened} (b : Bool) → b ≡ false → Timed st r o' → Timed st r (pick b o o')
  unfolding pick
  counts_on o b e k = rw e k

  no_ack : (a i : Bool) → (a && false && i) ≡ false
  no_ack true i = refl
  no_ack false i = refl

  -- the frame that was stored was expected: the next one has four timeouts of its own
  next_expected : (x : Connection) (last : ℕ) (misses : Misses) {t k : ℕ} → Within st x t k → x.expected < x.frames
      → Within st (moved x (x.expected + 1) last 0 misses) (t + 0) (k + 0)
  next_expected x last misses {t} w more =
      let most = spent_most x.misses in
      let low = w.low in
      let k : st.timeout + t + (x.expected - 1) < st.timeout * (4 * (x.expected + 1 - 1) + spent misses + x.holds) =
      under st.timeout _ _ w.bound w.waits (omega (arith, most, low)) in
      record {
        low = omega arith;
        high = omega arith;
        long = w.long;
        waits = pos;
        few = w.few;
        bound = omega (arith, k, low);
        free = λ none. w.free (omega arith);
      }

  module _ (x : Connection) {t k : ℕ} (w : Within st x t k) (f : Frame) where
    abbrev To : Told → Type 0
    To a = Listened st (since x.frames t 0 k) f a

    -- what is told is counted on: none opens while one is open
    on : {a : Told} → Timed st a.next (since x.frames (t + 0) (0 + receiver_reports a.outcome) (k + 0)) → To a
    on {a} h =
        record { timed = counts_on (since (byte_of f 1) 0 0 0) _ (and-false (announces (to_receiver f) && first_ack (emission a.emits a.frame))) h }

    heard_open : {lent : List ℕ} {h : Heard} → Hears st f lent (Open x) h → To h.told
    heard_open (refuses number _) = on (timed_later (during w))
    heard_open ignores = on (timed_later (during w))
    heard_open (announced k z (nacks shut cause)) = absurd shut
    heard_open (announced k z (opens shut _ _ _ _)) = absurd shut
    heard_open (announced k z again) = on (timed_later (during w))
    heard_open (informed _ k z (above _)) = on (between tt)
    heard_open (informed _ k z (delivers _ _)) = on (between tt)
    heard_open (informed _ k z (asks _ more _)) = on (during (next_expected x _ NoneAfterAck w more))
    heard_open (informed _ k z (goes_on _ _ more _)) = on (during (next_expected x _ NoneAfterFrame w more))
    heard_open (closes k) = on (between tt)
    heard_open (short k) = on (timed_later (during w))
    heard_open (short_only_lem k) = on (timed_later (during w))

  module _ (o : Opened) (free : idle o ≡ true) (f : Frame) where
    -- nothing opens: the frame, if any, is no LM_ACK
    quietly : {a : Told} → first_ack (emission a.emits a.frame) ≡ false → Timed st a.next (later o 0 (receiver_reports a.outcome) 0) → Listened st o f a
    quietly {a} e k =
        record { timed = counts_on (since (byte_of f 1) 0 0 0) (announces (to_receiver f) && first_ack (emission a.emits a.frame) && idle o) (rw e (no_ack (announces (to_receiver f)) (idle o))) k }

    heard_shut : {p : Phase} {lent : List ℕ} {h : Heard} → Shut p → Timed st (receiver_in st p) (later o 0 0 0) → Hears st f lent p h → Listened st o f h.told
    unfolding pick lm_ack_of frame_count_of
    heard_shut shut same (refuses number _) = quietly refl same
    heard_shut shut same ignores = quietly refl same
    heard_shut shut same (announced k z (nacks _ cause)) = quietly (nack_drawn cause) same
    heard_shut shut same (announced k z (opens _ nine top fits _)) =
        let w : Within st (opened (byte_of f 1) (word_at f 2 3) (window_of st 1 (byte_of f 1))) 0 0 =
        record {
          low = omega arith;
          high = omega arith;
          long = top;
          waits = pos;
          few = omega arith;
          bound = omega arith;
          free = λ _. (refl, refl);
        } in
        record { timed = rw (k, z, free) (during w) }
    heard_shut shut same (announced k z again) = absurd shut
    heard_shut shut same (informed _ k z (ended {y} _)) = quietly (end_drawn y.frames y.length) same
    heard_shut shut same (informed _ k z (above _)) = absurd shut
    heard_shut shut same (informed _ k z (delivers _ _)) = absurd shut
    heard_shut shut same (informed _ k z (asks _ _ _)) = absurd shut
    heard_shut shut same (informed _ k z (goes_on _ _ _ _)) = absurd shut
    heard_shut shut same (closes k) = absurd shut
    heard_shut shut same (short k) = quietly (short_drawn _) same
    heard_shut shut same (short_only_lem k) = quietly refl same

  pub hear_timed : {r : Receiver} {o : Opened} → Timed st r o → (f : Frame) (lent : List ℕ) → Listened st o f (hear_of r f lent).told
  hear_timed {r} (before shut) f lent = heard_shut never refl f shut (before shut) (hear_does r f lent)
  hear_timed {r} (between {n = n} {t = t} {k = k} shut) f lent = heard_shut (since n t 1 k) refl f shut (timed_later (between shut)) (hear_does r f lent)
  hear_timed {r} (during {x} w) f lent = heard_open x w f (hear_does r f lent)

  -- while a connection is open: four timeouts for each frame and those while held are more than its ticks by T and by a tick for
  -- each frame
  short_of : (x : Connection) {t k : ℕ} → Within st x t k → st.timeout + t + x.frames ≤ st.timeout * (4 * x.frames + x.holds)
  short_of x {t} w =
      let most = spent_most x.misses in
      let low = w.low in
      let high = w.high in
      let k : st.timeout + t + (x.expected - 1) < st.timeout * (4 * x.expected + x.holds) =
      under st.timeout _ _ w.bound w.waits (omega (arith, most, low)) in
      let whole : x.expected + (x.frames - x.expected) ≡ x.frames = omega (arith, high) in
      let longer = stretched st.timeout x.expected (x.frames - x.expected) x.holds pos k in
      omega (arith, low, high, rw whole at longer)

  -- so it is short of the latest tick
  pub in_time_lem : (x : Connection) {t k : ℕ} → Within st x t k → t < latest st.timeout x.frames + 20 * st.timeout
  in_time_lem x w =
      let low = w.low in
      let high = w.high in
      let few = mul-le-mul_left st.timeout w.few in
      omega (arith, before_latest st.timeout x.frames x.holds (omega (arith, low, high)) (short_of x w), few)

  -- and where no hold was accepted, of the latest tick of a connection without
  pub in_time_unheld : (x : Connection) {t k : ℕ} → Within st x t k → k ≡ 0 → t < latest st.timeout x.frames
  in_time_unheld x w none =
      let low = w.low in
      let high = w.high in
      let no_holds = (w.free none).1 in
      omega (arith, before_latest st.timeout x.frames 0 (omega (arith, low, high)) (rw no_holds at (short_of x w)))

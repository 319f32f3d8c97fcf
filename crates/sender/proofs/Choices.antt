-- How a fact is shown of what the sender tells: of each answer that the tests of its rules lead to, with what
-- the tests found. The case view (`View`) goes by these, and so do proofs of the crates above.
-- Assumes nothing.
use Prim.Native.Nat.{ℕ, ◌≤◌, ◌<◌}
use mathlib.Core.Path.{◌≡◌}
use mathlib.Core.Bool.{true}
use mathlib.Core.List.{List}
use native.Mathlib.Omega.{arith}
use borrow.Author.Tests.{leb-true, leb-false, ltb-false, eqb-true, eqb-false}
use lib.Dec.{eqb, leb}
use lib.ListN.{length}
use Rattle.frame.proofs.Choice.{pick_elim, read_elim, both_left, both_right, neither_left, neither_right}
use Rattle.frame.specs.Reading.{longest}
use Rattle.frame.specs.Count.{increment_of}
use Rattle.frame.specs.Frames.{byte_of, word_at}
use Rattle.frame.specs.Result.{Result}
use Rattle.frame.specs.declared.Frame.{Frame}
use Rattle.frame.specs.declared.Parsed.{Parsed}
use Rattle.sender.specs.Begin.{begin_long, begin_short, begin_idle, begin_phase, begin_of}
use Rattle.sender.specs.Hear.{unless_bad, hear_ack, hear_nack, hear_end, hear_short_ack, hear_kind, hear_read, hear_of}
use Rattle.sender.specs.State.{aged}
use Rattle.sender.specs.Tick.{unless_over, at_limit, unless_third, at_timeout, lent_to, tick_phase, tick_of}
use Rattle.sender.specs.Told.{Told, refusing, silently, failing_with}
use Rattle.sender.specs.declared.Phase.{Phase}
use Rattle.sender.specs.declared.Phase.TheVariants.{Idle, Opening, Sending, Waiting, Short}
use Rattle.sender.specs.declared.Sender.{Sender}
use Rattle.sender.specs.declared.Transfer.{Transfer}

module _ (P : Told → Type 0) where
  -- a count at its limit, or short of it
  pub limit_elim : (limit count : ℕ) {due on : Told} → P due → (increment_of count < limit → P on)
      → P (at_limit limit count due on)
  unfolding at_limit
  limit_elim limit count full early = pick_elim P _ (λ _. full) (λ on. early (leb-false _ _ on))

  module _ (s : Sender) where
    -- a begin: refused, short, long
    pub begin_elim : (m : List ℕ) → ((number : ℕ) → P (refusing s number))
        → (1 ≤ length m → length m ≤ 8 → P (begin_short s m))
        → (9 ≤ length m → length m ≤ 1785 → P (begin_long s m))
        → P (begin_of s m)
    unfolding begin_of begin_phase begin_idle
    begin_elim m refuses short long = go s.phase
      where
        go : (p : Phase) → P (begin_phase s p m)
        go Idle =
            pick_elim P _
            (λ fits.
            let low = leb-true 1 (length m) (both_left _ _ fits) in
            let high = leb-true (length m) 1785 (both_right (leb 1 (length m)) _ fits) in
            pick_elim P _ (λ few. short low (leb-true _ _ few))
            (λ many. long (leb-false _ _ many) high))
            (λ _. refuses 2)
        go (Opening x) = refuses 3
        go (Sending x) = refuses 3
        go (Waiting x) = refuses 3
        go (Short x) = refuses 3

    -- a tick: refused, or by the phase (that the lent length is the begun one, where a proof needs it)
    pub lent_elim : (m : List ℕ) → P (refusing s 4) → (lent_to s.phase m ≡ true → P (tick_phase s s.phase m))
        → P (tick_of s m)
    unfolding tick_of
    lent_elim m refuses ticks = pick_elim P _ ticks (λ _. refuses)

    pub tick_elim : (m : List ℕ) → P (refusing s 4) → P (tick_phase s s.phase m) → P (tick_of s m)
    tick_elim m refuses ticks = lent_elim m refuses (λ _. ticks)

    module _ (t : Transfer) where
      -- over at M, or in time
      pub over_elim : (fails : Transfer → ℕ → Told) {otherwise : Told} → P (fails (aged t) 3)
          → (increment_of t.age < s.settings.limit → P otherwise)
          → P (unless_over s t fails otherwise)
      unfolding unless_over
      over_elim fails over in_time_lem =
          pick_elim P _ (λ _. over) (λ early. in_time_lem (leb-false _ _ early))

      -- the third miss, one before it, or short of T
      pub timeout_elim : (wait misses : ℕ) {again on : Told} → P (failing_with s (aged t) 2)
          → (increment_of misses < 3 → P again)
          → (increment_of wait < s.settings.timeout → P on)
          → P (at_timeout s t wait misses again on)
      unfolding unless_third
      timeout_elim wait misses third before early =
          limit_elim s.settings.timeout wait
          (pick_elim P _ (λ _. third) (λ few. before (leb-false _ _ few)))
          early

      -- an LM_ACK with void numbers, one above N, or a sound one
      pub bad_elim : (start count : ℕ) {otherwise : Told} → P (silently s) → P (failing_with s t 4)
          → (1 ≤ start → 1 ≤ count → start ≤ t.frames → P otherwise)
          → P (unless_bad s t start count otherwise)
      bad_elim start count void above sound =
          pick_elim P _ (λ _. void)
          (λ some.
          let a : start ≡ 0 → ⊥ = eqb-false _ _ (neither_left _ _ some) in
          let b : count ≡ 0 → ⊥ = eqb-false _ _ (neither_right (eqb start 0) _ some) in
          pick_elim P _ (λ _. above)
          (λ within. sound (omega arith) (omega arith) (ltb-false _ _ within)))

    -- a hearing: refused, or by the kind (named where a proof needs it)
    pub hear_elim : (f : Frame) → ((number : ℕ) → P (refusing s number))
        → (f.kind ≡ 2 → P (hear_ack s s.phase (byte_of f 0) (byte_of f 1)))
        → P (hear_nack s s.phase)
        → P (hear_end s s.phase (byte_of f 0) (word_at f 1 2))
        → P (hear_short_ack s s.phase (byte_of f 0))
        → P (hear_of s f)
    unfolding hear_of hear_read hear_kind
    hear_elim f refuses ack nack end short =
        read_elim (λ (j : Result Parsed). P (hear_read s f j)) f longest
        (pick_elim P _ (λ two. ack (eqb-true _ _ two))
        (λ _. pick_elim P _ (λ _. nack)
        (λ _. pick_elim P _ (λ _. end) (λ _. pick_elim P _ (λ _. short) (λ _. refuses 7)))))
        (refuses 6)

-- One call at one end, beside the other end: what holds of both ends and of both lists of messages between them holds after
-- it. The two ends are alike in this, so that it is shown once, with the lists of versions the one way round or the other.
-- Assumes nothing.
use Prim.Native.Nat.{ℕ, ◌≤◌}
use mathlib.Core.Bool.{true, false}
use mathlib.Core.List.{List, [], ◌∷◌, ◌++◌}
use mathlib.Core.Logic.{◌⊎◌, inl, inr}
use mathlib.Core.Path.{◌≡◌, refl}
use native.Mathlib.Omega.{arith}
use Rattle.version.specs.List.{rising}
use Rattle.version.specs.Told as told
use Rattle.version.specs.Told.{Told, Outcome, failed, own_version, own_message}
use Rattle.version.specs.declared.Talker.{Talker}
use Rattle.version.specs.declared.Verdict.{Verdict}
use Rattle.version.specs.declared.Verdict.TheVariants.{Continue, Success, Failure}
use Rattle.agreement.specs.Agreement.{NoneShared}
use Rattle.agreement.specs.Step.{Done, done, Rest, gone, still, given_of, dropped, done_of, emission}
use Rattle.agreement.specs.World.{Action, connect, tick, hear, repeat, lose, stop, greet, functions_heard}
use Rattle.agreement.proofs.Ends.{Line, none, more, joins, Sure, End, FairBytes, Reports, Good, Small, quiet_good, says}
use Rattle.agreement.proofs.Hears.{hear_good, connect_good, stop_good, functions_heard_good, greet_good, tick_good}
use Rattle.agreement.proofs.Order as order
use Rattle.agreement.proofs.Order.{AtMost, Caught, Falling, then, AtLeast, line_reaches, passed, repeated, caught_joins, falling_joins, own_at_most, own_at_least, own_falling}

-- a failure that a tick or a greeting makes
abbrev pub Excused : Action → Outcome → Type 0
Excused action o = ((action ≡ tick) ⊎ (action ≡ greet)) × (o ≡ failed)

-- Messages from one end to another: they are fair, they fall, no success among them is below the end that is to hear them,
-- and that end is as it should be.
pub record Link (mine theirs : List ℕ) (P : Type 0) (sender hearer : Talker) (ms : List (List ℕ)) : Type 0 where
  pub fair : Line (FairBytes mine theirs P) ms
  pub falling : Falling (own_version sender) ms
  pub reaching : Line (AtLeast (own_version hearer)) ms
  pub end : End theirs mine P (Caught (own_version sender) ms) hearer

-- less may be known of the line
module _ (mine theirs : List ℕ) (P : Type 0) {H G : ℕ → Type 0} (l : (x : ℕ) → H x → G x) where
  weaker_sure : (verdict : Verdict) (v : ℕ) → Sure mine theirs P H verdict v → Sure mine theirs P G verdict v
  weaker_sure Continue v s = tt
  weaker_sure Success v s = (s.0, l v s.1)
  weaker_sure Failure v s = s

  weaker_end : {t : Talker} → End mine theirs P H t → End mine theirs P G t
  weaker_end {t} e =
      record {
        list = e.list;
        inside = e.inside;
        above = e.above;
        sure = weaker_sure t.verdict (own_version t) e.sure;
      }

-- what holds of no message and of the own one holds of what is emitted
emitted : (Q : List (List ℕ) → Type 0) (a : Told)
    → (a.emits ≡ false) ⊎ ((a.emits ≡ true) × (a.bytes ≡ own_message a.next))
    → Q []
    → Q (own_message a.next ∷ [])
    → Q (emission a.emits a.bytes)
emitted Q a (inl e) z o = rw e z
emitted Q a (inr e) z o = rw (e.0, e.1) o

-- what the end t answers, and what is left on the line to it from the other end, which is at version own
record Kept (mine theirs : List ℕ) (P : Type 0) (own : ℕ) (t : Talker) (d : Done) : Type 0 where
  good : Good mine theirs P (Caught own d.rest) t d.told
  fair : Line (FairBytes theirs mine P) d.rest
  falling : Falling own d.rest
  reaching : Line (AtLeast (own_version t)) d.rest

module _ (mine theirs : List ℕ) (P : Type 0) (small : Small mine) (rises : rising mine ≡ true)
    (lone : NoneShared mine theirs → P) where
  -- ---- what is left of the line to the end t, from an end at version own

  given_kept : (k : Rest) (own : ℕ) (t : Talker) (line : List (List ℕ)) → End mine theirs P (Caught own line) t
      → Line (FairBytes theirs mine P) line
      → Falling own line
      → Line (AtLeast (own_version t)) line
      → Kept mine theirs P own t (given_of k t line)
  unfolding given_of
  given_kept k own t [] e l f r =
      record { good = quiet_good mine theirs P _ t t e (omega arith); fair = l; falling = f; reaching = r }
  given_kept gone own t (m ∷ ms) e (more p l) (then n f) (more u r) =
      record {
        good = hear_good mine theirs P (Caught own ms) rises lone t m (weaker_end mine theirs P (passed own m ms) e) p n;
        fair = l;
        falling = f;
        reaching = r;
      }
  given_kept still own t (m ∷ ms) e (more p l) (then n f) (more u r) =
      record {
        good = hear_good mine theirs P (Caught own (m ∷ ms)) rises lone t m e p (repeated own m ms n);
        fair = more p l;
        falling = then n f;
        reaching = more u r;
      }

  lost_kept : (own : ℕ) (t : Talker) (line : List (List ℕ)) → End mine theirs P (Caught own line) t
      → Line (FairBytes theirs mine P) line
      → Falling own line
      → Line (AtLeast (own_version t)) line
      → Kept mine theirs P own t (done (told.silently t) (dropped line))
  lost_kept own t [] e l f r =
      record { good = quiet_good mine theirs P _ t t e (omega arith); fair = l; falling = f; reaching = r }
  lost_kept own t (m ∷ ms) e (more p l) (then n f) (more u r) =
      record {
        good = quiet_good mine theirs P _ t t (weaker_end mine theirs P (passed own m ms) e) (omega arith);
        fair = l;
        falling = f;
        reaching = r;
      }

  module _ (peer t : Talker) (line : List (List ℕ)) (i : Link theirs mine P peer t line) where
    abbrev own : ℕ
    own = own_version peer

    -- calls other than hearings and losses leave it as it is
    unheard : {a : Told} → Good mine theirs P (Caught own line) t a → Kept mine theirs P own t (done a line)
    unheard g = record { good = g; fair = i.fair; falling = i.falling; reaching = i.reaching }

    done_kept : (action : Action) → (Excused action (done_of t line action).told.outcome → P)
        → Kept mine theirs P own t (done_of t line action)
    unfolding done_of
    done_kept connect h = unheard (connect_good mine theirs P _ rises lone t i.end)
    done_kept tick h = unheard (tick_good mine theirs P _ rises lone t i.end (λ q. h (inl refl, q)))
    done_kept hear h = given_kept gone own t line i.end i.fair i.falling i.reaching
    done_kept repeat h = given_kept still own t line i.end i.fair i.falling i.reaching
    done_kept lose h = lost_kept own t line i.end i.fair i.falling i.reaching
    done_kept stop h = unheard (stop_good mine theirs P _ rises lone t i.end)
    done_kept greet h = unheard (greet_good mine theirs P _ rises lone t i.end (λ q. h (inr refl, q)))
    done_kept functions_heard h = unheard (functions_heard_good mine theirs P _ rises lone t i.end)

  -- ---- both lists of messages

  -- after a call at the end t beside the other end, with the messages to t and from it
  pub record Acted (t peer : Talker) (out : List (List ℕ)) (d : Done) : Type 0 where
    pub incoming : Link theirs mine P peer d.told.next d.rest
    pub outgoing : Link mine theirs P d.told.next peer (out ++ emission d.told.emits d.told.bytes)
    pub reports : Reports mine theirs P d.told.outcome
    pub falls : own_version d.told.next ≤ own_version t

  -- what is emitted joins the messages from t
  module _ (t peer : Talker) (out : List (List ℕ)) (d : Done) (o : Link mine theirs P t peer out)
      (k : Kept mine theirs P (own_version peer) t d) where
    abbrev G : ℕ → Type 0
    G = Caught (own_version peer) d.rest

    abbrev a : Told
    a = d.told

    said : (Q : List (List ℕ) → Type 0) → Q [] → Q (own_message a.next ∷ []) → Q (emission a.emits a.bytes)
    said Q z own = emitted Q a k.good.said z own

    low : (x : ℕ) → own_version a.next ≤ x → Line (AtMost x) (emission a.emits a.bytes)
    low x h = said (Line (AtMost x)) none (own_at_most mine theirs P G small a.next k.good.after x h)

    said_on : Link mine theirs P a.next peer (out ++ emission a.emits a.bytes)
    said_on =
        let g = k.good in
        record {
          fair =
              joins o.fair
              (said (Line (FairBytes mine theirs P)) none (more (says mine theirs P G small a.next g.after) none));
          falling =
              falling_joins g.falls low
              (said (Falling (own_version a.next)) order.done (own_falling mine theirs P G small a.next g.after))
              o.falling;
          reaching =
              joins o.reaching
              (said (Line (AtLeast (own_version peer))) none
              (own_at_least mine theirs P G small a.next g.after (own_version peer) (λ y c. c.0)));
          end = weaker_end theirs mine P (caught_joins g.falls low out) o.end;
        }

    acted_on : Acted t peer out d
    acted_on =
        let g = k.good in
        record {
          incoming =
              record {
                fair = k.fair;
                falling = k.falling;
                reaching = line_reaches g.falls k.reaching;
                end = g.after;
              };
          outgoing = said_on;
          reports = g.reports;
          falls = g.falls;
        }

  pub act : (t peer : Talker) (line out : List (List ℕ)) (action : Action) → Link theirs mine P peer t line
      → Link mine theirs P t peer out
      → (Excused action (done_of t line action).told.outcome → P)
      → Acted t peer out (done_of t line action)
  act t peer line out action i o h =
      acted_on t peer out (done_of t line action) o (done_kept peer t line i action h)

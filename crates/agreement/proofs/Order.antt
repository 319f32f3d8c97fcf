-- Versions on the line fall: no message names a higher version than one before it, and the end that sent them names none
-- higher now. So an end whose success stands, on a version that it heard, hears no other afterwards. And a success on the
-- line names no lower version than the one at Ns of the end that is to hear it.
-- Assumes nothing.
use Prim.Native.Nat.{ℕ, ◌≤◌}
use mathlib.Core.List.{List, [], ◌∷◌, ◌++◌}
use mathlib.Core.Path.{◌≡◌, refl}
use native.Mathlib.Omega.{arith}
use Rattle.frame.specs.Result.{Result, accepted, refused}
use Rattle.version.specs.Message.{named, read_of}
use Rattle.version.specs.Told.{own_version, own_message}
use Rattle.version.specs.declared.Message.{Message}
use Rattle.version.specs.declared.Talker.{Talker}
use Rattle.version.specs.declared.Verdict.{Verdict}
use Rattle.version.specs.declared.Verdict.TheVariants.{Continue, Success, Failure}
use Rattle.agreement.proofs.Ends.{Line, none, more, joins, Small, Sure, End, own_read}
use Rattle.agreement.proofs.Hears.{NamesOf, Names}

-- the message names at most this version, or is a failure
abbrev pub AtMost : ℕ → List ℕ → Type 0
AtMost x bytes = Names (λ v. v ≤ x) (read_of bytes)

-- neither the other end, which is at version own, nor a message on the way from it is above this version
abbrev pub Caught : ℕ → List (List ℕ) → ℕ → Type 0
Caught own ms x = (own ≤ x) × Line (AtMost x) ms

-- each message is at or above the messages behind it and its sender
pub data Falling (own : ℕ) : List (List ℕ) → Type 0 where
  done : Falling own []
  then : {m : List ℕ} {ms : List (List ℕ)} → Names (Caught own ms) (read_of m) → Falling own ms → Falling own (m ∷ ms)

-- the message is no success, or names at least this version
abbrev pub ReachesOf : ℕ → Verdict → ℕ → Type 0
ReachesOf x Continue v = Unit
ReachesOf x Success v = x ≤ v
ReachesOf x Failure v = Unit

abbrev pub Reaches : ℕ → Result Message → Type 0
Reaches x (accepted m) = ReachesOf x m.verdict m.version
Reaches x (refused number) = Unit

abbrev pub AtLeast : ℕ → List ℕ → Type 0
AtLeast x bytes = Reaches x (read_of bytes)

-- an end that falls is still below
module _ {x y : ℕ} (le : y ≤ x) where
  reaches_of : (verdict : Verdict) (v : ℕ) → ReachesOf x verdict v → ReachesOf y verdict v
  reaches_of Continue v h = tt
  reaches_of Success v h = omega arith
  reaches_of Failure v h = tt

  reaches : (j : Result Message) → Reaches x j → Reaches y j
  reaches (accepted m) h = reaches_of m.verdict m.version h
  reaches (refused number) h = tt

  pub line_reaches : {ms : List (List ℕ)} → Line (AtLeast x) ms → Line (AtLeast y) ms
  line_reaches none = none
  line_reaches (more {m} p l) = more (reaches (read_of m) p) (line_reaches l)

pub names_of : {H G : ℕ → Type 0} → ((x : ℕ) → H x → G x) → (verdict : Verdict) (v : ℕ) → NamesOf H verdict v
    → NamesOf G verdict v
names_of k Continue v h = k v h
names_of k Success v h = k v h
names_of k Failure v h = tt

pub names : {H G : ℕ → Type 0} → ((x : ℕ) → H x → G x) → (j : Result Message) → Names H j → Names G j
names k (accepted m) h = names_of k m.verdict m.version h
names k (refused number) h = tt

-- a message taken away, or lost
pub passed : (own : ℕ) (m : List ℕ) (ms : List (List ℕ)) (x : ℕ) → Caught own (m ∷ ms) x → Caught own ms x
passed own m ms x (low, more p l) = (low, l)

-- a message that stays where it is names at most what it names
self_of : (verdict : Verdict) (v : ℕ) → NamesOf (λ w. w ≤ v) verdict v
self_of Continue v = omega arith
self_of Success v = omega arith
self_of Failure v = tt

module _ (own : ℕ) (m : List ℕ) (ms : List (List ℕ)) where
  self_named : (verdict : Verdict) (v : ℕ) → AtMost v m → NamesOf (Caught own ms) verdict v
      → NamesOf (Caught own (m ∷ ms)) verdict v
  self_named Continue v p h = (h.0, more p h.1)
  self_named Success v p h = (h.0, more p h.1)
  self_named Failure v p h = tt

  self_judged : (j : Result Message) → read_of m ≡ j → Names (Caught own ms) j → Names (Caught own (m ∷ ms)) j
  self_judged (accepted k) e h = self_named k.verdict k.version (rw e (self_of k.verdict k.version)) h
  self_judged (refused number) e h = tt

  pub repeated : Names (Caught own ms) (read_of m) → Names (Caught own (m ∷ ms)) (read_of m)
  repeated h = self_judged (read_of m) refl h

-- messages that join the end name at most what their sender is at
module _ {own new : ℕ} {ns : List (List ℕ)} (less : new ≤ own) (low : (x : ℕ) → new ≤ x → Line (AtMost x) ns) where
  pub caught_joins : (ms : List (List ℕ)) (x : ℕ) → Caught own ms x → Caught new (ms ++ ns) x
  caught_joins ms x c = let le : new ≤ x = omega (arith, c.0) in (le, joins c.1 (low x le))

  pub falling_joins : {ms : List (List ℕ)} → Falling new ns → Falling own ms → Falling new (ms ++ ns)
  falling_joins f done = f
  falling_joins f (then {m} {ms} h l) = then (names (caught_joins ms) (read_of m) h) (falling_joins f l)

-- the own message
module _ (mine theirs : List ℕ) (P : Type 0) (H : ℕ → Type 0) (small : Small mine) (t : Talker)
    (e : End mine theirs P H t) where
  own_named : (G : ℕ → Type 0) → G (own_version t) → (verdict : Verdict) → NamesOf G verdict (named verdict (own_version t))
  own_named G g Continue = g
  own_named G g Success = g
  own_named G g Failure = tt

  own_names : (G : ℕ → Type 0) → G (own_version t) → Names G (read_of (own_message t))
  own_names G g = rw (own_read mine theirs P H small t e) (own_named G g t.verdict)

  pub own_at_most : (x : ℕ) → own_version t ≤ x → Line (AtMost x) (own_message t ∷ [])
  own_at_most x h = more (own_names (λ v. v ≤ x) h) none

  -- a success that stands is where the other end is, or above
  own_reaches : (x : ℕ) → ((y : ℕ) → H y → x ≤ y) → (verdict : Verdict) → Sure mine theirs P H verdict (own_version t)
      → ReachesOf x verdict (named verdict (own_version t))
  own_reaches x up Continue s = tt
  own_reaches x up Success s = up (own_version t) s.1
  own_reaches x up Failure s = tt

  pub own_at_least : (x : ℕ) → ((y : ℕ) → H y → x ≤ y) → Line (AtLeast x) (own_message t ∷ [])
  own_at_least x up =
      let reach : Reaches x (read_of (own_message t)) =
      rw (own_read mine theirs P H small t e) (own_reaches x up t.verdict e.sure) in
      more reach none

  pub own_falling : Falling (own_version t) (own_message t ∷ [])
  own_falling = then (own_names (Caught (own_version t) []) (omega arith, none)) done

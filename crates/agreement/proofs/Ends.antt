-- What holds of an end and of the messages that it sends, whatever is called: Ns is a place of its list, and the version
-- there is at or above every shared one; a success names a shared version; a failure has its reason, P. Every entry of tables
-- 8 and 9 keeps this, if what the entry asks is known (`Allows`).
-- Assumes nothing.
use Prim.Native.Nat.{ℕ, ◌<◌, ◌≤◌}
use mathlib.Core.Bool.{Bool, true, false}
use mathlib.Core.List.{List, [], ◌∷◌, ◌++◌}
use mathlib.Core.Logic.{◌⊎◌, inl, inr}
use mathlib.Core.Path.{◌≡◌, refl}
use native.Mathlib.Omega.{arith}
use lib.ListN.{length, get_or}
use Rattle.frame.specs.Result.{Result, accepted, refused}
use Rattle.version.proofs.Cells.{Cell, rests, negotiates, starts, declines, goes_on}
use Rattle.version.proofs.Inverse.{read_written}
use Rattle.version.proofs.Places.{at_standing}
use Rattle.version.specs.List.{at, standing, find, find_below}
use Rattle.version.specs.Message.{named, read_of}
use Rattle.version.specs.Table.{Trigger, Entry, nothing, opens, repeats, resumes, settles_below2, settles, fails, accepts, stays, lowers, leaves, vehicle_s1}
use Rattle.version.specs.Talk.{place_or, doing}
use Rattle.version.specs.Told as told
use Rattle.version.specs.Told.{Told, Outcome, quiet, agreed, failed, left, silently, own_version, own_message, saying, moved}
use Rattle.version.specs.declared.Message.{Message}
use Rattle.version.specs.declared.State.{State}
use Rattle.version.specs.declared.State.TheVariants.{S1, S2, S3, S4, S5}
use Rattle.version.specs.declared.Talker.{Talker}
use Rattle.version.specs.declared.Verdict.{Verdict}
use Rattle.version.specs.declared.Verdict.TheVariants.{Continue, Success, Failure}
use Rattle.agreement.specs.Agreement.{Holds}

-- every message on the line is of the sort P
pub data Line (P : List ℕ → Type 0) : List (List ℕ) → Type 0 where
  none : Line P []
  more : {m : List ℕ} {ms : List (List ℕ)} → P m → Line P ms → Line P (m ∷ ms)

pub joins : {P : List ℕ → Type 0} {ms ns : List (List ℕ)} → Line P ms → Line P ns → Line P (ms ++ ns)
joins none k = k
joins (more p l) k = more p (joins l k)

-- at or above every shared version
abbrev pub Above : List ℕ → List ℕ → ℕ → Type 0
Above mine theirs v = (c : ℕ) → Holds mine c → Holds theirs c → c ≤ v

-- the versions of a list have three bytes
abbrev pub Small : List ℕ → Type 0
Small mine = (i : ℕ) → get_or mine i 0 < 0x1000000

-- the own list and the other end's; the reason of a failure
module _ (mine theirs : List ℕ) (P : Type 0) where
  -- what a message of this end says
  abbrev pub FairOf : Verdict → ℕ → Type 0
  FairOf Continue v = Holds mine v × Above mine theirs v
  FairOf Success v = Holds mine v × Above mine theirs v × Holds theirs v
  FairOf Failure v = P

  abbrev pub Fair : Result Message → Type 0
  Fair (accepted m) = FairOf m.verdict m.version
  Fair (refused number) = ⊥

  abbrev pub FairBytes : List ℕ → Type 0
  FairBytes bytes = Fair (read_of bytes)

  -- what a report says
  abbrev pub Reports : Outcome → Type 0
  Reports quiet = Unit
  Reports (told.refused number) = Unit
  Reports (agreed v) = Holds mine v × Holds theirs v × Above mine theirs v
  Reports failed = P
  Reports left = Unit

-- H v: what is known of the line to the end where a success of its own stands at the version v
module _ (mine theirs : List ℕ) (P : Type 0) (H : ℕ → Type 0) where
  -- what a result says of the version beside it
  abbrev pub Sure : Verdict → ℕ → Type 0
  Sure Continue v = Unit
  Sure Success v = Holds theirs v × H v
  Sure Failure v = P

  pub record End (t : Talker) : Type 0 where
    pub list : standing t.versions ≡ mine
    pub inside : t.place < length mine
    pub above : Above mine theirs (own_version t)
    pub sure : Sure t.verdict (own_version t)

  -- the version at Ns, in the list
  pub owns_at : {t : Talker} → End t → get_or mine t.place 0 ≡ own_version t
  owns_at {t} e =
      let stands : get_or (standing t.versions) t.place 0 ≡ own_version t =
      at_standing t.versions t.place (rw e.list e.inside) in
      rw e.list at stands

  pub owns : {t : Talker} → End t → Holds mine (own_version t)
  owns {t} e = record { place = t.place; inside = e.inside; is = owns_at e }

  -- what an end answers
  pub record Good (t : Talker) (a : Told) : Type 0 where
    pub after : End a.next
    pub said : (a.emits ≡ false) ⊎ ((a.emits ≡ true) × (a.bytes ≡ own_message a.next))
    pub reports : Reports mine theirs P a.outcome
    pub falls : own_version a.next ≤ own_version t

  -- Ns at another place of the list
  pub record Points (t : Talker) (place : ℕ) (verdict : Verdict) : Type 0 where
    pub inside : place < length mine
    pub above : Above mine theirs (at t.versions place)
    pub sure : Sure verdict (at t.versions place)
    pub falls : at t.versions place ≤ own_version t

  -- what must be known where an entry is done, with the version heard
  abbrev pub Allows : Talker → ℕ → Entry → Type 0
  Allows t v nothing = Unit
  Allows t v opens = Unit
  Allows t v repeats = Unit
  Allows t v resumes = Unit
  Allows t v settles_below2 = Sure Success (own_version t)
  Allows t v settles = Sure Success (own_version t)
  Allows t v fails = P
  Allows t v accepts = Points t (place_or (find t.versions v) t.place) Success
  Allows t v stays = Unit
  Allows t v lowers = Points t (place_or (find_below t.versions v) t.place) t.verdict
  Allows t v leaves = Unit

  -- a cell asks at most what its trigger's cell in S1 of table 9 asks
  pub allowed : (t : Talker) (v : ℕ) {state : State} {k : Trigger} {e : Entry} → Cell state k e → Allows t v (vehicle_s1 k)
      → Allows t v e
  allowed t v rests h = tt
  allowed t v negotiates h = h
  allowed t v starts h = tt
  allowed t v declines h = h
  allowed t v goes_on h = tt

  says_of : (verdict : Verdict) (v : ℕ) → Holds mine v → Above mine theirs v → Sure verdict v
      → FairOf mine theirs P verdict (named verdict v)
  says_of Continue v h a s = (h, a)
  says_of Success v h a s = (h, a, s.0)
  says_of Failure v h a s = s

  -- the own message, as it is read
  pub own_read : Small mine → (t : Talker) → End t
      → read_of (own_message t)
      ≡ accepted (record { verdict = t.verdict; version = named t.verdict (own_version t); control = t.control })
  own_read small t e =
      read_written (record { verdict = t.verdict; version = own_version t; control = t.control })
      (omega (arith, small t.place, owns_at e))

  -- it is fair
  pub says : Small mine → (t : Talker) → End t → FairBytes mine theirs P (own_message t)
  says small t e = rw (own_read small t e) (says_of t.verdict (own_version t) (owns e) e.above e.sure)

  saying_good : (t n : Talker) (o : Outcome) → End n → Reports mine theirs P o → own_version n ≤ own_version t
      → Good t (saying n o)
  saying_good t n o e r f = record { after = e; said = inr (refl, refl); reports = r; falls = f }

  pub quiet_good : (t n : Talker) → End n → own_version n ≤ own_version t → Good t (silently n)
  quiet_good t n e f = record { after = e; said = inl refl; reports = tt; falls = f }

  -- an end where it is, with a result
  pub in_place : (t : Talker) (state : State) (verdict : Verdict) (period age : ℕ) (timing : Bool) → End t
      → Sure verdict (own_version t)
      → End (moved t state verdict t.place period age timing)
  in_place t state verdict period age timing e sure =
      record { list = e.list; inside = e.inside; above = e.above; sure = sure }

  -- an end elsewhere in its list
  pointed_good : (t : Talker) (verdict : Verdict) (place : ℕ) → End t → Points t place verdict
      → Good t (silently (moved t S1 verdict place t.period t.age false))
  pointed_good t verdict place e p =
      quiet_good t _ (record { list = e.list; inside = p.inside; above = p.above; sure = p.sure }) p.falls

  -- every entry keeps it
  pub does : (t : Talker) (v : ℕ) → End t → (k : Entry) → Allows t v k → Good t (doing t v k)
  unfolding doing
  does t v e nothing h = quiet_good t t e (omega arith)
  does t v e opens h = saying_good t _ quiet (in_place t S1 Continue 0 0 false e tt) tt (omega arith)
  does t v e repeats h =
      saying_good t _ quiet (in_place t t.state t.verdict 0 t.age t.timing e e.sure) tt (omega arith)
  does t v e resumes h = quiet_good t _ (in_place t S1 Continue t.period t.age false e tt) (omega arith)
  does t v e settles_below2 h =
      saying_good t _ (agreed (own_version t)) (in_place t S2 Success 0 0 false e h) (owns e, h.0, e.above) (omega arith)
  does t v e settles h =
      saying_good t _ (agreed (own_version t)) (in_place t S3 Success 0 0 _ e h) (owns e, h.0, e.above) (omega arith)
  does t v e fails h = saying_good t _ failed (in_place t S4 Failure 0 0 false e h) h (omega arith)
  does t v e accepts h = pointed_good t Success _ e h
  does t v e stays h = quiet_good t t e (omega arith)
  does t v e lowers h = pointed_good t t.verdict _ e h
  does t v e leaves h =
      record {
        after = in_place t S5 t.verdict 0 0 false e e.sure;
        said = inl refl;
        reports = tt;
        falls = omega arith;
      }

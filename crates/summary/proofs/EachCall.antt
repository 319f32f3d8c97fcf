-- A call answers as the sender's own or is refused 5; a refused one changes nothing; and neither post nor a hearing counts
-- anything, since no frame goes out with it, or none of kind 1.
-- Assumes nothing.
use Prim.Native.Nat.{ℕ}
use mathlib.Core.Bool.{true≢false}
use mathlib.Core.List.{List}
use mathlib.Core.Path.{◌≡◌, refl, sym, ◌∙◌, ap}
use native.Mathlib.Omega.{arith}
use lib.ListN.{length}
use Rattle.frame.proofs.Choice.{pick_elim}
use Rattle.frame.specs.Frames.{blank_of, lm_nack_of, sm_urm_of}
use Rattle.frame.specs.declared.Frame.{Frame}
use Rattle.sender.proofs.Demand1.{demand_1}
use Rattle.sender.proofs.View.{Hears, refuses, ignores, above, takes, takes_hold, nacked, finished, finished_short, Calls, posts, hear_does, call_does}
use Rattle.sender.specs.Call.{Call, begin, tick, hear, post, answer_of}
use Rattle.sender.specs.Demand1.{Unchanged}
use Rattle.sender.specs.Hear.{taking, taking_hold}
use Rattle.sender.specs.Told.{refused, is_refused, Told, refusing}
use Rattle.sender.specs.declared.Phase.{Phase}
use Rattle.sender.specs.declared.Sender.{Sender}
use Rattle.summary.proofs.Laws.{counts_no_other, counts_none, not_lent, lent_keeps}
use Rattle.summary.specs.Calls.{Kept, kept, if_lent, keeping, begun, kept_by, kept_of}
use Rattle.summary.specs.Counts.{cleared, counting}
use Rattle.summary.specs.Summary.{EachCall}

-- ---- what is not counted

module _ (counts : List ℕ) where
  pub blank_none : counting counts blank_of ≡ counts
  blank_none = sym (counts_none counts)

  pub nack_none : (cause : ℕ) → counting counts (lm_nack_of cause) ≡ counts
  unfolding lm_nack_of
  nack_none cause = sym (counts_no_other counts (lm_nack_of cause) (λ e. omega (arith, e)))

  pub posted_none : (message : List ℕ) → counting counts (sm_urm_of message) ≡ counts
  unfolding sm_urm_of
  posted_none message = sym (counts_no_other counts (sm_urm_of message) (λ e. omega (arith, e)))

-- ---- the answer

-- whatever becomes of the counts, the answer is the sender's
told_by : (c : Call) (t : Told) (counts : List ℕ) → (kept_by c t counts).told ≡ t
unfolding begun
told_by (begin m) t counts = pick_elim (λ (k : Kept). k.told ≡ t) _ (λ denied. refl) (λ accepted. refl)
told_by (tick m) t counts = refl
told_by (hear f) t counts = refl
told_by (post m) t counts = refl

module _ (s : Sender) (call : Call) (counts : List ℕ) where
  -- lent 512 bytes, and lent another length
  pub lent_is : length counts ≡ 512 → kept_of s call counts ≡ kept_by call (answer_of s call) counts
  lent_is full = sym (lent_keeps s counts _ _ full refl)

  pub answers_alike : length counts ≡ 512 → (kept_of s call counts).told ≡ answer_of s call
  answers_alike full = ap (λ (k : Kept). k.told) (lent_is full) ∙ told_by call (answer_of s call) counts

  pub unlent_is : (length counts ≡ 512 → ⊥) → kept_of s call counts ≡ kept (refusing s 5) counts
  unlent_is other = sym (not_lent s counts _ _ other refl)

-- ---- refusals

-- what is to be shown of an answer and the counts after it
abbrev Leaves : Sender → List ℕ → Kept → Type 0
Leaves s counts k =
    (number : ℕ) → k.told.outcome ≡ refused number → Unchanged s k.told × (k.counts ≡ counts)

module _ (s : Sender) (counts : List ℕ) where
  keeps : (call : Call) → Leaves s counts (keeping (answer_of s call) counts)
  keeps call number e =
      let same = demand_1.called s call number e in
      (same, ap (counting counts) same.frame ∙ blank_none counts)

  begins : (message : List ℕ) → Leaves s counts (begun (answer_of s (begin message)) counts)
  unfolding begun
  begins message =
      pick_elim (Leaves s counts) _ {y = keeping (answer_of s (begin message)) cleared}
      (λ denied number e. (demand_1.called s (begin message) number e, refl))
      (λ accepted number e. absurd (true≢false (sym (ap is_refused e) ∙ accepted)))

  by_call : (call : Call) → Leaves s counts (kept_by call (answer_of s call) counts)
  by_call (begin message) = begins message
  by_call (tick message) = keeps (tick message)
  by_call (hear f) = keeps (hear f)
  by_call (post message) = keeps (post message)

  leaves : (call : Call) → Leaves s counts (kept_of s call counts)
  unfolding if_lent
  leaves call =
      pick_elim (Leaves s counts) _ (λ lent. by_call call)
      (λ other number e. (record { next = refl; emits = refl; frame = refl }, refl))

  -- ---- what adds nothing

  abbrev Same : Kept → Type 0
  Same k = k.counts ≡ counts

  not_counted : {p : Phase} {t : Told} → Hears s p t → counting counts t.frame ≡ counts
  unfolding taking taking_hold
  not_counted (refuses number) = blank_none counts
  not_counted ignores = blank_none counts
  not_counted (above l) = nack_none counts 4
  not_counted (takes a b c d) = blank_none counts
  not_counted (takes_hold a b c) = blank_none counts
  not_counted (nacked l) = blank_none counts
  not_counted (finished x) = blank_none counts
  not_counted finished_short = blank_none counts

  posts_not_counted : {message : List ℕ} {t : Told} → Calls s (post message) t → counting counts t.frame ≡ counts
  posts_not_counted (refuses number) = blank_none counts
  posts_not_counted (posts low high) = posted_none counts _

  posts_nothing : (message : List ℕ) → Same (kept_of s (post message) counts)
  unfolding if_lent
  posts_nothing message = pick_elim Same _ (λ lent. posts_not_counted (call_does s (post message))) (λ other. refl)

  hears_nothing : (f : Frame) → Same (kept_of s (hear f) counts)
  unfolding if_lent
  hears_nothing f = pick_elim Same _ (λ lent. not_counted (hear_does s f)) (λ other. refl)

pub each_call : EachCall
each_call =
    record {
      answers = answers_alike;
      unlent = unlent_is;
      refuses = λ s call counts. leaves s counts call;
      posts = λ s message counts. posts_nothing s counts message;
      hears = λ s f counts. hears_nothing s counts f;
    }

-- What is computed with one end and one message is the answer of every end and every message that a question leaves open.
-- Assumes nothing.
use mathlib.Core.Path.{◌≡◌, refl, sym, ap, ◌∙◌}
use mathlib.Core.Bool.{true}
use Prim.Native.Nat.{ℕ, ◌*◌, ◌≤◌}
use native.Mathlib.Omega.{arith}
use native.Mathlib.Nat.{le_trans}
use lib.Dec.{lit≤}
use lib.ListN.{length, length-replicate}
use Rattle.frame.specs.Choice.{pick}
use Rattle.frame.specs.Count.{frame_count_of}
use Rattle.frame.specs.Frames.{lm_ack_of}
use Rattle.sender.specs.Begin.{begin_long}
use Rattle.sender.specs.Hear.{hear_of}
use Rattle.sender.specs.Make.{make_of}
use Rattle.sender.specs.Told.{Told}
use Rattle.receiver.specs.Make as receiver-making
use Rattle.identifier.specs.Answer.{join_of}
use Rattle.identifier.specs.declared.Parts.{Parts}
use Rattle.cases.specs.Answer.{answer_of, of_sender, of_receiver, shown_hearing, shown_joined, before_last, zeros}
use Rattle.cases.specs.Claim.{Claim, ExpectsLast, opening}
use Rattle.cases.specs.Row.{Question, begun, acknowledged, sender_silence, receiver_silence, joined, last_frame, last_frame_with}
use Rattle.cases.proofs.Acknowledge.{ack_numbers, ack_shows}
use Rattle.cases.proofs.Begin.{begin_numbers, begin_shows, begins_long}
use Rattle.cases.proofs.LastFrame.{last_numbers, is_carried, last_shows, last_with_shows}
use Rattle.cases.proofs.ReceiverSilence.{receiver_shows}
use Rattle.cases.proofs.SenderSilence.{sender_shows}

-- N frames of seven bytes are a long message, and its N is that N
count_back : (frames : ℕ) → frame_count_of (7 * frames) ≡ frames
unfolding frame_count_of
count_back frames = omega arith

-- the N of a long message is 2 to 255
count_bounds : (frames l : ℕ) → 9 ≤ l → l ≤ 1785 → frames ≡ frame_count_of l → (2 ≤ frames) × (frames ≤ 255)
unfolding frame_count_of
count_bounds frames l low high fits = (omega arith, omega arith)

begun_computed : (l : ℕ) → answer_of (begun l) ≡ begin_numbers l
unfolding answer_of of_sender make_of pick
begun_computed l = begin_shows _ (zeros l) refl ∙ ap begin_numbers (length-replicate l 0)

acknowledged_computed : (frames start count : ℕ)
    → 2 ≤ frames
    → frames ≤ 255
    → answer_of (acknowledged frames start count) ≡ ack_numbers frames start count
unfolding answer_of of_sender make_of pick begin_long
acknowledged_computed frames start count low high =
    let long : length (zeros (7 * frames)) ≡ 7 * frames = length-replicate (7 * frames) 0 in
    ap (λ (t : Told). shown_hearing (hear_of t.next (lm_ack_of start count)))
    (begins_long _ (zeros (7 * frames)) refl (omega arith) (omega arith))
    ∙ ack_shows _ _ (opening _) start count
    ∙ ap (λ (n : ℕ). ack_numbers n start count) (ap frame_count_of long ∙ count_back frames)

-- the connection with which a last frame is computed expects it
module _ (l : ℕ) (long : 9 ≤ l) where
  zeros_long : length (zeros l) ≡ l
  zeros_long = length-replicate l 0

  expects : ExpectsLast (before_last l) (length (zeros l))
  expects = (sym zeros_long, ap frame_count_of (sym zeros_long), refl, refl)

  last_computed : answer_of (last_frame l) ≡ last_numbers l true
  unfolding answer_of of_receiver receiver-making.make_of pick
  last_computed =
      last_shows _ (zeros l) (zeros 1785) (omega (arith, zeros_long)) expects refl
      ∙ ap (λ (n : ℕ). last_numbers n true) zeros_long

  last_with_computed : (place : ℕ) → 1 ≤ place → place ≤ 7
      → answer_of (last_frame_with l place) ≡ last_numbers l (is_carried place l)
  unfolding answer_of of_receiver receiver-making.make_of pick
  last_with_computed place one top =
      last_with_shows _ (zeros l) (zeros 1785) (omega (arith, zeros_long)) expects refl place 1 one top
      (λ e. absurd (omega arith))
      ∙ ap (λ (n : ℕ). last_numbers n (is_carried place n)) zeros_long

-- parts are told by their fields
parts_are : (x : Parts) {p edp dp pf ps sa : ℕ}
    → x.p ≡ p
    → x.edp ≡ edp
    → x.dp ≡ dp
    → x.pf ≡ pf
    → x.ps ≡ ps
    → x.sa ≡ sa
    → x ≡ record { p = p; edp = edp; dp = dp; pf = pf; ps = ps; sa = sa }
parts_are x hp hedp hdp hpf hps hsa =
    let fields : x ≡ record { p = x.p; edp = x.edp; dp = x.dp; pf = x.pf; ps = x.ps; sa = x.sa } = refl in cc

pub every_answer : (q : Question) → Claim q (answer_of q)
unfolding answer_of
every_answer (begun l) =
    λ s message idle long. begin_shows s message idle ∙ ap begin_numbers long ∙ sym (begun_computed l)
every_answer (acknowledged frames start count) =
    λ s t long counts low high. ack_shows s t long start count
    ∙ ap (λ (n : ℕ). ack_numbers n start count) counts
    ∙ sym (acknowledged_computed frames start count low high)
every_answer (sender_silence timeout limit ticks) =
    λ gap message g1 g10 low high. sender_shows gap timeout limit message ticks g1 g10 low high
    ∙ sym (sender_shows 1 timeout limit (zeros 9) ticks (lit≤ tt) (lit≤ tt) (lit≤ tt) (lit≤ tt))
every_answer (receiver_silence timeout frames ticks) =
    λ window capacity l buffer w1 w255 low room high fits lent.
    let (two, most) = count_bounds frames l low (le_trans room high) fits in
    receiver_shows timeout window capacity frames l buffer ticks w1 w255 low room high fits lent
    ∙ sym
    (receiver_shows timeout 255 1785 frames (7 * frames) (zeros 1785) ticks
    (lit≤ tt) (lit≤ tt) (omega arith) (omega arith) (lit≤ tt) (sym (count_back frames)) refl)
every_answer (joined p pf ps sa) =
    λ x hp hedp hdp hpf hps hsa. ap (λ (y : Parts). shown_joined (join_of y)) (parts_are x hp hedp hdp hpf hps hsa)
every_answer (last_frame l) =
    λ r message buffer same long expected lent. last_shows r message buffer long expected lent
    ∙ ap (λ (n : ℕ). last_numbers n true) same
    ∙ sym (last_computed l (omega arith))
every_answer (last_frame_with l place) =
    λ r message buffer byte same long expected lent one top other.
    last_with_shows r message buffer long expected lent place byte one top other
    ∙ ap (λ (n : ℕ). last_numbers n (is_carried place n)) same
    ∙ sym (last_with_computed l (omega arith) place one top)

-- One call of play more at the end of a run of calls; what a run prints, once it is written out.
-- Assumes nothing.
use Rattle.std.proofs.Common.{◌≡◌, ℕ, suc, ◌+◌, true, List, ◌++◌, Option, Result, Ok, Err, OnOk, inl, inr, length, take, arith, sym, subst, append_assoc, append-nil}
use Rattle.std.proofs.KnownBytes.{Appends-trans}
use Rattle.std.proofs.lemmas.Bool.{cases_lt}
use Rattle.std.specs.Io.KnownBytes.{Appends}
use Rattle.frame.specs.Result.{accepted}
use Rattle.player.proofs.Whole.{prints_played}
use Rattle.player.specs.Calls.{told_progress, play_of, is_finished}
use Rattle.player.specs.Played.{open_of, played}
use Rattle.player.specs.Whole.{Held, held, Begins, Plays, none, plays}
use Rattle.player.specs.declared.Player.{Player}
use Rattle.player.specs.declared.Progress.{Progress}
use Rattle.play.specs.Program.{PlaysOut}

-- The lines that the call is lent are those that the last one left; the page is any of its length.
pub plays_more : {bytes : List ℕ} {n : ℕ} {text : List ℕ} {h k : Held} → Plays bytes n h text k
    → (r : Progress) (forward back buffer out out' : List ℕ)
    → length forward ≡ length k.forward
    → length back ≡ length k.back
    → length out ≡ 16384
    → told_progress r forward back buffer out' ≡ play_of bytes k.player k.forward k.back k.buffer out
    → Plays bytes (n + 1) h (text ++ take r.written out') (held r.player forward back buffer)
plays_more {bytes} (none {h}) r forward back buffer out out' lf lb lo promise =
    subst (λ (l : List ℕ). Plays bytes 1 h l (held r.player forward back buffer)) (append-nil (take r.written out'))
    (plays r forward back buffer out out' lf lb lo promise none)
plays_more {bytes} (plays {n} {text} {h} {k} q forward0 back0 buffer0 out0 out0' lf0 lb0 lo0 promise0 rest) r
    forward back buffer out out' lf lb lo promise =
    let more = plays_more rest r forward back buffer out out' lf lb lo promise in
    let last = held r.player forward back buffer in
    let same : suc (n + 1) ≡ suc n + 1 = omega arith in
    subst (λ (i : ℕ). Plays bytes i h ((take q.written out0' ++ text) ++ take r.written out') last) same
    (subst (λ (l : List ℕ). Plays bytes (suc (n + 1)) h l last)
    (sym (append_assoc (take q.written out0') text (take r.written out')))
    (plays q forward0 back0 buffer0 out0 out0' lf0 lb0 lo0 promise0 more))

pub on_ok : {T E P Q : Type 0} (r : Result T E) → (P → Q) → OnOk r P → OnOk r Q
on_ok (Ok x) f p = f p
on_ok (Err e) f p = tt

-- What begin prints and what these calls do is all that is played of a pack that is opened.
pub played_out : {T E : Type 0} (r : Result T E) (before begun after : Option (List ℕ)) (bytes text : List ℕ) (q : Player)
    (h : Held)
    → open_of bytes ≡ accepted q
    → Begins bytes q text h
    → Appends before begun text
    → OnOk r (PlaysOut begun after bytes h)
    → OnOk r (Appends before after (played bytes))
played_out r before begun after bytes text q h ready first shown = on_ok r all
  where
    all : PlaysOut begun after bytes h → Appends before after (played bytes)
    all (n, more, last, calls, ended, written) =
        let prints = prints_played bytes (Ok q) (sym ready) n text more h last first calls in
        let done : is_finished last.player ≡ true = elim (cases_lt n 512) [ inl few ↦ ended few | inr many ↦ prints.1 many ] in
        subst (Appends before after) (prints.2 done) (Appends-trans _ _ _ _ _ shown written)

-- The calls joined. Whatever a call answered, its promise names the world that its answer and the lent bytes make; so
-- what is left to print after it is what the definition leaves, and the next call goes on from there. After n calls of
-- play 128 times n events have been played, or all, and what was printed and what is left make up `played`.
-- Assumes nothing.
use Prim.Native.Nat.{ℕ, suc, ◌+◌, ◌*◌, min}
use mathlib.Core.Path.{◌≡◌, refl, sym, ap, subst, ◌∙◌}
use mathlib.Core.Bool.{Bool, true, false}
use mathlib.Core.List.{List, [], ◌++◌, append_assoc, append-nil}
use native.Mathlib.Omega.{arith}
use borrow.Author.Tests.{leb-true, leb-false, le-leb, lt-leb}
use lib.Dec.{leb}
use lib.ListN.{length, take, replicate}
use Rattle.std.specs.Prelude.{Ok, Err}
use Rattle.frame.specs.Result.{accepted, refused, number_of}
use Rattle.frame.specs.declared.refusal.Refusal.{Refusal}
use Rattle.pack.proofs.Laws.{read_most, read_whole}
use Rattle.pack.specs.Pack.{bodies_of}
use Rattle.pack.specs.declared.Bodies.{Bodies}
use Rattle.player.proofs.Opened.{opened}
use Rattle.player.proofs.Steps.{shown, left_of, left_after, page_shows, play_prints, begin_prints, begin_count, play_count, left_none}
use Rattle.player.specs.Calls.{Progressed, told_progress, play_of, is_finished}
use Rattle.player.specs.Played.{open_of, played_opened, played}
use Rattle.player.specs.Whole.{Held, held, Begins, begins, Plays, none, plays, Prints, PrintsPlayed}
use Rattle.player.specs.declared.Player.{Player}
use Rattle.player.specs.declared.Progress.{Progress}
use Rattle.text.proofs.Laws.{refused_text_length}
use Rattle.text.specs.Page.{Page}
use Rattle.text.specs.Text.{refused_text}
use Rattle.transport.specs.Answer.{world_of}

-- what is left to print of what a program holds
abbrev left : List ℕ → Held → List ℕ
left bytes h =
    left_of bytes (world_of h.player.ends h.forward h.back h.buffer) h.player.bodies h.player.played

-- after n calls of play, with what was printed so far
record Reached (bytes : List ℕ) (b : Bodies) (n : ℕ) (text : List ℕ) (h : Held) : Type 0 where
  forward : length h.forward ≡ 576
  back : length h.back ≡ 576
  bodies : h.player.bodies ≡ b
  count : h.player.played ≡ min (128 * n) b.events
  all : played bytes ≡ text ++ left bytes h

after_begin : {bytes : List ℕ} {q : Player} {text : List ℕ} {h : Held} → open_of bytes ≡ accepted q → Begins bytes q text h
    → Reached bytes q.bodies 0 text h
after_begin {bytes} {q} ready (begins r forward forward' back out out' lf lf' lb lo promise) =
    let e = promise back (replicate 1785 0) in
    let c = begin_count bytes q forward back (replicate 1785 0) out in
    let new : q.played ≡ 0 = ap (λ (p : Player). p.played) (sym (opened bytes q ready).just) in
    record {
      forward = lf' ∙ lf;
      back = lb;
      bodies = ap (λ (g : Progressed). g.bodies) e ∙ c.0;
      count = ap (λ (g : Progressed). g.played) e ∙ c.1 ∙ omega (arith, new);
      all =
          begin_prints bytes q ready forward back out lf lo
          ∙ ap (λ (g : Progressed). shown g ++ left_after bytes g) (sym e);
    }

-- one call more
after_play : (bytes : List ℕ) (b : Bodies) (m : ℕ) (before : List ℕ) (h : Held) (r : Progress)
    (forward back buffer out out' : List ℕ)
    → bodies_of bytes ≡ accepted b
    → length forward ≡ length h.forward
    → length back ≡ length h.back
    → length out ≡ 16384
    → told_progress r forward back buffer out' ≡ play_of bytes h.player h.forward h.back h.buffer out
    → Reached bytes b m before h
    → Reached bytes b (suc m) (before ++ take r.written out') (held r.player forward back buffer)
after_play bytes b m before h r forward back buffer out out' read lf lb lo e a =
    let same = a.bodies in
    let c = play_count bytes h.player h.forward h.back h.buffer out a.forward a.back lo
    (read ∙ ap accepted (sym same)) in
    let of : h.player.bodies.events ≡ b.events = ap (λ (x : Bodies). x.events) same in
    record {
      forward = lf ∙ a.forward;
      back = lb ∙ a.back;
      bodies = ap (λ (g : Progressed). g.bodies) e ∙ c.0 ∙ same;
      count = ap (λ (g : Progressed). g.played) e ∙ c.1 ∙ omega (arith, a.count, of);
      all =
          a.all
          ∙ ap (λ (l : List ℕ). before ++ l)
          (play_prints bytes h.player h.forward h.back h.buffer out a.forward a.back lo
          ∙ ap (λ (g : Progressed). shown g ++ left_after bytes g) (sym e))
          ∙ sym (append_assoc before (take r.written out') (left bytes (held r.player forward back buffer)));
    }

after_plays : {bytes : List ℕ} {b : Bodies} {n : ℕ} {text : List ℕ} {h k : Held} (m : ℕ) (before : List ℕ)
    → bodies_of bytes ≡ accepted b
    → Plays bytes n h text k
    → Reached bytes b m before h
    → Reached bytes b (m + n) (before ++ text) k
after_plays {bytes} {b} m before read (none {h}) a =
    let same : m ≡ m + 0 = omega arith in
    subst (λ (i : ℕ). Reached bytes b i (before ++ []) h) same
    (subst (λ (l : List ℕ). Reached bytes b m l h) (sym (append-nil before)) a)
after_plays {bytes} {b} m before read (plays {n} {text} {h} {k} r forward back buffer out out' lf lb lo promise more) a =
    let same : suc m + n ≡ m + suc n = omega arith in
    let on = after_play bytes b m before h r forward back buffer out out' read lf lb lo promise a in
    let last = after_plays (suc m) (before ++ take r.written out') read more on in
    subst (λ (i : ℕ). Reached bytes b i (before ++ (take r.written out' ++ text)) k) same
    (subst (λ (l : List ℕ). Reached bytes b (suc m + n) l k) (append_assoc before (take r.written out') text) last)

-- what is played is all of the events just where so many would be
all_played : (events n count : ℕ) → count ≡ min (128 * n) events → leb events count ≡ leb events (128 * n)
all_played events n count e = by (leb events (128 * n)) refl
  where
    by : (t : Bool) → leb events (128 * n) ≡ t → leb events count ≡ t
    by true t = le-leb events count (omega (arith, leb-true events (128 * n) t))
    by false t = lt-leb events count (omega (arith, leb-false events (128 * n) t))

-- a player that was opened
of_player : (bytes : List ℕ) (q : Player) → open_of bytes ≡ accepted q → Prints bytes (Ok q)
of_player bytes q ready n begun text h k first more =
    let read = (opened bytes q ready).read in
    let a = after_plays 0 begun read more (after_begin ready first) in
    let same : 0 + n ≡ n = omega arith in
    let events : k.player.bodies.events ≡ q.bodies.events = ap (λ (x : Bodies). x.events) a.bodies in
    let count : k.player.played ≡ min (128 * n) q.bodies.events = a.count ∙ omega arith in
    let finished : is_finished k.player ≡ leb q.bodies.events (128 * n) =
    ap (λ (i : ℕ). leb i k.player.played) events ∙ all_played q.bodies.events n k.player.played count in
    let most = read_most bytes q.bodies read in
    let whole = read_whole bytes q.bodies read in (
      finished,
      λ many. finished ∙ le-leb q.bodies.events (128 * n) (omega (arith, many, most, whole)),
      λ done. sym
          (a.all
          ∙ ap (λ (l : List ℕ). (begun ++ text) ++ l)
          (left_none bytes (world_of k.player.ends k.forward k.back k.buffer)
          k.player.bodies k.player.played
          (read ∙ ap accepted (sym a.bodies)) (leb-true k.player.bodies.events k.player.played done))
          ∙ append-nil (begun ++ text)),
    )

-- a refusal's line fits its page
of_refusal : (bytes : List ℕ) (refusal : Refusal) → open_of bytes ≡ refused (number_of refusal) → Prints bytes (Err refusal)
unfolding played played_opened
of_refusal bytes refusal e out out' written room line =
    ap (λ (p : Page). take p.place p.bytes) line
    ∙ page_shows out (refused_text (number_of refusal)) (omega (arith, refused_text_length (number_of refusal)))
    ∙ ap (played_opened bytes) (sym e)

pub prints_played : PrintsPlayed
prints_played bytes (Ok q) e = of_player bytes q (sym e)
prints_played bytes (Err refusal) e = of_refusal bytes refusal (sym e)

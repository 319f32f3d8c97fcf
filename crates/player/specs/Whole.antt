-- The calls of the player joined: what a program prints that opens a pack, begins it and then calls play until the player
-- is finished. Nothing is known here of a call but what it promises, and that a lent slice keeps its length.
use Rattle.std.specs.Prelude.{ℕ, suc, ◌*◌, ◌≤◌, true, List, [], ◌++◌, ◌≡◌, leb, length, take, replicate, Ok, Err}
use Rattle.std.specs.declared.result.Result as answers
use Rattle.frame.specs.Result.{number_of, told_result}
use Rattle.frame.specs.declared.refusal.Refusal.{Refusal}
use Rattle.player.specs.Calls.{told_progress, begin_of, play_of, is_finished}
use Rattle.player.specs.Played.{open_of, played}
use Rattle.player.specs.declared.Player.{Player}
use Rattle.player.specs.declared.Progress.{Progress}
use Rattle.text.specs.Page.{page, put}
use Rattle.text.specs.Text.{refused_text}

-- what a program keeps from one call to the next: the player, the bytes of both lines, and the receiving buffer
pub record Held : Type 0 where
  pub player : Player
  pub forward : List ℕ
  pub back : List ℕ
  pub buffer : List ℕ

abbrev pub held : Player → List ℕ → List ℕ → List ℕ → Held
held player forward back buffer =
    record { player = player; forward = forward; back = back; buffer = buffer }

-- A call of begin, what it prints and what the program then holds. The lines have 576 bytes and the page 16384, of any
-- content; the buffer is zeros.
pub data Begins (bytes : List ℕ) (q : Player) : List ℕ → Held → Type 0 where
  begins : (r : Progress) (forward forward' back first first' : List ℕ)
      → length forward ≡ 576
      → length forward' ≡ length forward
      → length back ≡ 576
      → length first ≡ 16384
      → ((other buffer : List ℕ)
      → told_progress r forward' other buffer first' ≡ begin_of bytes q forward other buffer first)
      → Begins bytes q (take r.written first') (held r.player forward' back (replicate 1785 0))

-- So many calls of play, what they print, and what the program holds before and after them. Each call is lent what the
-- call before left, and a page of 16384 bytes of any content.
pub data Plays (bytes : List ℕ) : ℕ → Held → List ℕ → Held → Type 0 where
  none : {h : Held} → Plays bytes 0 h [] h
  plays : {n : ℕ} {text : List ℕ} {h k : Held} (r : Progress) (forward back buffer out out' : List ℕ)
      → length forward ≡ length h.forward
      → length back ≡ length h.back
      → length out ≡ 16384
      → told_progress r forward back buffer out'
      ≡ play_of bytes h.player h.forward h.back h.buffer out
      → Plays bytes n (held r.player forward back buffer) text k
      → Plays bytes (suc n) h (take r.written out' ++ text) k

-- What opening answered, and what is printed then. A refusal: its line alone, on a page of at least 14 bytes. A player:
-- after n calls of play it is finished just where 128 times n reaches the number of events, as 512 calls always do; and
-- once it is, all that was printed is `played`, however many calls follow.
abbrev pub Prints : List ℕ → answers.Result Player Refusal → Type 0
Prints bytes (Err refusal) =
    (out out' : List ℕ) (written : ℕ)
    → 14 ≤ length out
    → page out' written ≡ put (page out 0) (refused_text (number_of refusal))
    → take written out' ≡ played bytes
Prints bytes (Ok q) =
    (n : ℕ) (begun text : List ℕ) (h k : Held)
    → Begins bytes q begun h
    → Plays bytes n h text k
    → (is_finished k.player ≡ leb q.bodies.events (128 * n))
    × (512 ≤ n → is_finished k.player ≡ true)
    × (is_finished k.player ≡ true → begun ++ text ≡ played bytes)

-- whatever the bytes are
abbrev pub PrintsPlayed : Type 0
PrintsPlayed =
    (bytes : List ℕ) (answer : answers.Result Player Refusal) → told_result answer ≡ open_of bytes → Prints bytes answer

-- a begin and so many calls of play
pub record Run (bytes : List ℕ) (q : Player) (n : ℕ) : Type 0 where
  pub begun : List ℕ
  pub text : List ℕ
  pub first : Held
  pub last : Held
  pub begin : Begins bytes q begun first
  pub play : Plays bytes n first text last

-- there is such a run for every player and every number of calls, so the claim above is not empty
abbrev pub RunsExist : Type 0
RunsExist = (bytes : List ℕ) (q : Player) (n : ℕ) → Run bytes q n

-- What is known of a pack that was opened: it was read, and its ends are those that making answers.
-- Assumes nothing.
use Prim.Native.Nat.{ℕ}
use mathlib.Core.List.{List}
use mathlib.Core.Path.{◌≡◌, refl, subst}
use native.Mathlib.Omega.{arith}
use Rattle.frame.specs.Result.{Result, accepted, refused}
use Rattle.pack.specs.Pack.{bodies_of, message_of}
use Rattle.pack.specs.declared.Bodies.{Bodies}
use Rattle.player.specs.Played.{made_for, start, player_for, unless_refused, opened_with, opened_bodies, open_of}
use Rattle.player.specs.declared.Player.{Player}
use Rattle.sender.specs.Told as sender
use Rattle.transport.specs.Capped.{capped_step}
use Rattle.transport.specs.World.{begin}
use Rattle.transport.specs.declared.Ends.{Ends}

pub record Opened (bytes : List ℕ) (q : Player) : Type 0 where
  pub read : bodies_of bytes ≡ accepted q.bodies
  pub made : made_for q.bodies ≡ accepted q.ends
  pub just : player_for q.ends q.bodies ≡ q

not_refused : (o : sender.Outcome) (p q : Player) → unless_refused o p ≡ accepted q → p ≡ q
not_refused sender.quiet p q e = cc
not_refused (sender.refused number) p q e = let z : ◌≡◌ {A = ℕ} 0 1 = cc in absurd (omega arith)
not_refused (sender.sent ticks frames) p q e = cc
not_refused (sender.failed cause ticks frames) p q e = cc

with_ends : (bytes : List ℕ) (b : Bodies) (x : Result Ends) (q : Player) → bodies_of bytes ≡ accepted b → made_for b ≡ x
    → opened_with (message_of bytes b) b x ≡ accepted q
    → Opened bytes q
unfolding opened_with
with_ends bytes b (accepted ends) q read made e =
    subst (Opened bytes) (not_refused (capped_step (start ends) (begin (message_of bytes b))).event.sender (player_for ends b) q e)
    (record { read = read; made = made; just = refl })
with_ends bytes b (refused number) q read made e = let z : ◌≡◌ {A = ℕ} 0 1 = cc in absurd (omega arith)

with_bodies : (bytes : List ℕ) (x : Result Bodies) (q : Player) → bodies_of bytes ≡ x → opened_bodies bytes x ≡ accepted q → Opened bytes q
unfolding opened_bodies
with_bodies bytes (accepted b) q read e = with_ends bytes b (made_for b) q read refl e
with_bodies bytes (refused number) q read e = let z : ◌≡◌ {A = ℕ} 0 1 = cc in absurd (omega arith)

pub opened : (bytes : List ℕ) (q : Player) → open_of bytes ≡ accepted q → Opened bytes q
unfolding open_of
opened bytes q = with_bodies bytes (bodies_of bytes) q refl

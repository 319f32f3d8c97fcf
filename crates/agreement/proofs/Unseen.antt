-- What is met is met at an event of its action: where no event has it, nothing is met.
-- Assumes nothing.
use Prim.Native.Nat.{ℕ}
use mathlib.Core.Bool.{Bool, true, false, ◌||◌, true≢false, false≢true}
use mathlib.Core.List.{List, [], ◌∷◌}
use mathlib.Core.Path.{◌≡◌, refl, sym, ap, ◌∙◌}
use lib.Dec.{eqb}
use Rattle.agreement.specs.Seen.{Seen, now, before, Never, MeetsLimit, MeetsStop, MeetsGreeting}
use Rattle.agreement.specs.World.{Action, connect, tick, hear, repeat, lose, stop, greet, functions_heard, Event}

-- each action has a number of its own
abbrev pub number : Action → ℕ
number connect = 0
number tick = 1
number hear = 2
number repeat = 3
number lose = 4
number stop = 5
number greet = 6
number functions_heard = 7

abbrev pub is : Action → Action → Bool
is a b = eqb (number a) (number b)

-- some event has this action
unfoldable pub any : Action → List Event → Bool
any a [] = false
any a (e ∷ past) = is e.action a || any a past

or_left : (a b : Bool) → a ≡ true → (a || b) ≡ true
or_left true b h = refl
or_left false b h = absurd (false≢true h)

or_right : (a b : Bool) → b ≡ true → (a || b) ≡ true
or_right true b h = refl
or_right false b h = h

-- nothing is seen where there is no event
abbrev pub Some : List Event → Type 0
Some [] = ⊥
Some (e ∷ past) = Unit

pub some : {P : Event → List Event → Type 0} {events : List Event} → Seen P events → Some events
some (now p) = tt
some (before s) = tt

module _ (a : Action) (itself : is a a ≡ true) where
  any_seen : {P : Event → List Event → Type 0} → ((e : Event) (past : List Event) → P e past → e.action ≡ a)
      → (events : List Event)
      → Seen P events
      → any a events ≡ true
  unfolding any
  any_seen h [] s = absurd (some s)
  any_seen h (e ∷ past) (now p) =
      or_left (is e.action a) (any a past) (ap (λ (x : Action). is x a) (h e past p) ∙ itself)
  any_seen h (e ∷ past) (before s) = or_right (is e.action a) (any a past) (any_seen h past s)

  none_seen : {P : Event → List Event → Type 0} → ((e : Event) (past : List Event) → P e past → e.action ≡ a)
      → (events : List Event)
      → any a events ≡ false
      → Never P events
  none_seen h events none s = true≢false (sym (any_seen h events s) ∙ none)

-- no tick, no stop, no greeting is among the events
pub no_tick : (events : List Event) → any tick events ≡ false → Never MeetsLimit events
no_tick events h = none_seen tick refl (λ e past p. p.0) events h

pub no_stop : (events : List Event) → any stop events ≡ false → Never MeetsStop events
no_stop events h = none_seen stop refl (λ e past p. p.0) events h

pub no_greeting : (events : List Event) → any greet events ≡ false → Never MeetsGreeting events
no_greeting events h = none_seen greet refl (λ e past p. p.0) events h

-- What the program reads of an input is enough of it: a pack has at most 65535 bytes, and a longer input is none.
-- Assumes nothing.
use Rattle.std.proofs.Common.{◌≡◌, ℕ, ◌<◌, List, Option, None, Some, IfSome, inl, inr, refl, length, take, arith, sym, ap, subst, ◌∙◌}
use Rattle.std.proofs.lemmas.Bool.{cases_lt, false_from_ne_true}
use Rattle.std.proofs.lemmas.List.{take_all, length-take-le}
use Rattle.std.specs.Io.KnownBytes.{Appends}
use Rattle.frame.proofs.Choice.{pick_false}
use Rattle.frame.specs.Choice.{pick}
use Rattle.frame.specs.Result.{Result, accepted, refused}
use Rattle.pack.proofs.Laws.{laid_out_lem}
use Rattle.pack.specs.Pack.{laid_out, all_events, events_of, bodies_in, bodies_of}
use Rattle.pack.specs.declared.Bodies.{Bodies}
use Rattle.player.specs.Played.{open_of, opened_bodies, played, played_opened}
use Rattle.text.specs.Text.{refused_text}

no_pack : (given : List ℕ) → 65535 < length given → bodies_of given ≡ refused 12
unfolding bodies_of
no_pack given long =
    let other = false_from_ne_true (laid_out given) (λ h. omega (arith, long, (laid_out_lem given h).most)) in
    sym (pick_false (pick (all_events (events_of given (bodies_in given))) (accepted (bodies_in given)) (refused 12)) other refl)

too_long : (given : List ℕ) → 65535 < length given → played given ≡ refused_text 12
unfolding played played_opened open_of opened_bodies
too_long given long = ap (λ (r : Result Bodies). played_opened given (opened_bodies given r)) (no_pack given long)

first_bytes : (given : List ℕ) → played (take 65536 given) ≡ played given
first_bytes given = elim (cases_lt 65535 (length given)) [
  | inl long ↦
      (let first : 65535 < length (take 65536 given) = omega (arith, length-take-le 65536 given long) in
      too_long (take 65536 given) first ∙ sym (too_long given long))
  | inr short ↦ ap played (take_all 65536 given (omega (arith, short)))
]

-- what is printed of the bytes that were read is what is played of the whole input
pub played_given : (input before after : Option (List ℕ)) (read : List ℕ)
    → IfSome input (λ given. read ≡ take 65536 given)
    → Appends before after (played read)
    → IfSome input (λ given. Appends before after (played given))
played_given None before after read same shown = tt
played_given (Some given) before after read same shown =
    subst (Appends before after) (ap played same ∙ first_bytes given) shown

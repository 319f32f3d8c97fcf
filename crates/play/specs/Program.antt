-- What the program's loop writes out.
use Rattle.std.specs.Prelude.{ℕ, ◌<◌, true, ◌≡◌, List, Option}
use Rattle.std.specs.Io.KnownBytes.{Appends}
use Rattle.player.specs.Calls.{is_finished}
use Rattle.player.specs.Whole.{Held, Plays}

-- calls of play until the player is finished, or 512 of them; a writer's bytes grow by what they print
abbrev pub PlaysOut : Option (List ℕ) → Option (List ℕ) → List ℕ → Held → Type 0
PlaysOut old new bytes h =
    (n : ℕ) × (text : List ℕ) × (last : Held) × Plays bytes n h text last × (n < 512 → is_finished last.player ≡ true)
    × Appends old new text

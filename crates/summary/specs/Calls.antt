-- Document 02, E6: the sender's calls, which also keep the counts.
use Rattle.std.specs.Prelude.{ℕ, List}
use Rattle.frame.specs.Choice.{pick}
use Rattle.sender.specs.Call.{Call, begin, tick, hear, post, answer_of}
use Rattle.sender.specs.Told.{is_refused, Told, refusing}
use Rattle.sender.specs.declared.Sender.{Sender}
use Rattle.summary.specs.Counts.{is_lent, cleared, counting}

-- a call's whole answer, and the lent counts as it leaves them
pub record Kept : Type 0 where
  pub told : Told
  pub counts : List ℕ

abbrev pub kept : Told → List ℕ → Kept
kept t counts = record { told = t; counts = counts }

-- Document 01, Refusals, number 5, which is a lent buffer of another length: so it is for the counts, before all else
unfoldable pub if_lent : Sender → List ℕ → Kept → Kept
if_lent s counts k = pick (is_lent counts) k (kept (refusing s 5) counts)

-- the sender's answer, and the frame that goes out with it counted
abbrev pub keeping : Told → List ℕ → Kept
keeping t counts = kept t (counting counts t.frame)

-- E6, "since begin": once a begin is accepted it clears the counts, a short one too, and its own frame is the first
unfoldable pub begun : Told → List ℕ → Kept
begun t counts = pick (is_refused t.outcome) (kept t counts) (keeping t cleared)

-- what each call makes of its answer and the counts
abbrev pub kept_by : Call → Told → List ℕ → Kept
kept_by (begin message) t counts = begun t counts
kept_by (tick message) t counts = keeping t counts
kept_by (hear f) t counts = keeping t counts
kept_by (post message) t counts = keeping t counts

-- a call of the sender, with what is lent for the counts
abbrev pub kept_of : Sender → Call → List ℕ → Kept
kept_of s call counts = if_lent s counts (kept_by call (answer_of s call) counts)

-- Demand 1, of the sender: a refused call leaves everything as it was. Proved in `proofs/Demand1.antt`.
use Rattle.std.specs.Prelude.{ℕ, ◌≡◌, false}
use Rattle.frame.specs.Frames.{blank_of}
use Rattle.frame.specs.Result as result
use Rattle.sender.specs.Call.{Call, answer_of}
use Rattle.sender.specs.Make.{make_of}
use Rattle.sender.specs.Told.{Told, refused}
use Rattle.sender.specs.declared.Sender.{Sender}

-- the sender is as it was, and no frame goes out. A message that is lent is only read
pub record Unchanged (s : Sender) (t : Told) : Type 0 where
  pub next : t.next ≡ s
  pub emits : t.emits ≡ false
  pub frame : t.frame ≡ blank_of

-- Refusals, by place, its last line: every call of every sender that answers a refusal leaves the sender unchanged; a
-- making that is refused answers its number alone, and no other number than 1
pub record Demand1 : Type 0 where
  pub called : (s : Sender) (call : Call) (number : ℕ)
      → (answer_of s call).outcome ≡ refused number
      → Unchanged s (answer_of s call)
  pub made : (gap timeout limit number : ℕ)
      → make_of gap timeout limit ≡ result.refused number
      → number ≡ 1

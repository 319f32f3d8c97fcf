-- A row of the table of cases: a question to an end, or to the identifier, and the numbers that document 01, Edge cases, or
-- document 02 gives as its answer.
use Rattle.std.specs.Prelude.{ℕ, List, [], ◌∷◌}

-- what the cases ask, each with its numbers
pub data Question : Type 0 where
  -- an Idle sender begins a message of this length
  begun : (length : ℕ) → Question
  -- a sender in a long transfer of this N hears LM_ACK with this start and count
  acknowledged : (frames start count : ℕ) → Question
  -- a sender with this T and M begins a long message and then hears nothing for so many ticks
  sender_silence : (timeout limit ticks : ℕ) → Question
  -- a receiver with this T opens for this N and then hears nothing for so many ticks
  receiver_silence : (timeout frames ticks : ℕ) → Question
  -- the parts of an identifier are joined, EDP and DP 0
  joined : (p pf ps sa : ℕ) → Question
  -- a receiver that expects the last frame of a message of this length, and is not held, hears it as the sender writes it
  last_frame : (length : ℕ) → Question
  -- the same, but in that frame the byte at this place, one of d1 to d7, is replaced by one that is not 0xFF
  last_frame_with : (length place : ℕ) → Question

pub record Row : Type 0 where
  pub question : Question
  pub answer : List ℕ

-- a refusal: 0, which is no kind, and its number
abbrev pub refusal : ℕ → List ℕ
refusal number = 0 ∷ number ∷ []

-- an identifier: the number alone
abbrev pub identifier : ℕ → List ℕ
identifier number = number ∷ []

-- what goes short: the kind of SM_RM; its bytes are the message's
abbrev pub short : List ℕ
short = 5 ∷ []

-- an announcement: the kind of an information frame, and d0 to d3
abbrev pub announces : ℕ → ℕ → ℕ → ℕ → List ℕ
announces d0 d1 d2 d3 = 1 ∷ d0 ∷ d1 ∷ d2 ∷ d3 ∷ []

-- frame 0: the kind of an information frame, and its number
abbrev pub frame0 : List ℕ
frame0 = 1 ∷ 0 ∷ []

-- an LM_ACK: its kind, and its start, which is 1 while no frame has come
abbrev pub lm_ack : List ℕ
lm_ack = 2 ∷ 1 ∷ []

-- an LM_NACK: its kind, and its cause
abbrev pub nack : ℕ → List ℕ
nack cause = 3 ∷ cause ∷ []

-- a long delivery: the kind of EndofACK, its d0, which is N, and the length reported
abbrev pub delivered : ℕ → ℕ → List ℕ
delivered frames length = 4 ∷ frames ∷ length ∷ []

-- a tick, and what goes out at it; tick 0 is the begin
abbrev pub at : ℕ → List ℕ → List ℕ
at tick shown = tick ∷ shown

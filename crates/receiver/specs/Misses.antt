-- Document 02, E4: the timeouts in a row that a connection counts, by their type. `Misses` is document 01's misses, and says at
-- the same time what the connection waits after. Of all that the two could be together these five come about: a frame that is
-- accepted clears the count, and every timeout draws an LM_ACK, so that a wait after a frame is one with nothing counted, and of
-- timeouts after a frame there is never more than one in a row.
use Rattle.std.specs.Prelude.{Some, None}
use Rattle.std.specs.declared.option.Option.{Option}
use Rattle.receiver.specs.declared.Misses.{Misses}
use Rattle.receiver.specs.declared.Misses.TheVariants.{NoneAfterAck, OneAfterAck, TwoAfterAck, NoneAfterFrame, OneAfterFrame}

-- "the later one decides the type", where it is an LM_ACK of a hold, of a resume or of a timeout while held: from now on the
-- wait is one after an LM_ACK; what is counted stays
abbrev pub acknowledged : Misses → Misses
acknowledged NoneAfterAck = NoneAfterAck
acknowledged OneAfterAck = OneAfterAck
acknowledged TwoAfterAck = TwoAfterAck
acknowledged NoneAfterFrame = NoneAfterAck
acknowledged OneAfterFrame = OneAfterFrame

-- A timeout, not held, is of the type of the wait that it ends. After an LM_ACK it is the first, the second or the third of its
-- type in a row; after a frame it is the first. After the LM_ACK that one after a frame drew it is of another type than that one,
-- and the first again. None: it is the third of one type; else what is counted after it.
abbrev pub timed_out : Misses → Option Misses
timed_out NoneAfterAck = Some OneAfterAck
timed_out OneAfterAck = Some TwoAfterAck
timed_out TwoAfterAck = None
timed_out NoneAfterFrame = Some OneAfterFrame
timed_out OneAfterFrame = Some OneAfterAck

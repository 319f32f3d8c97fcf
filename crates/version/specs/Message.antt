-- The version message. 001, tables 6 and 7: CAN type, result, version (three bytes), control-pilot
-- version, transport version, reserved; eight bytes in all, the same for both sides.
use Rattle.std.specs.Prelude.{ℕ, Bool, ◌&&◌, List, [], ◌∷◌, eqb, leb, get_or}
use Rattle.frame.specs.Choice.{pick}
use Rattle.frame.specs.Result.{Result, accepted, refused}
use Rattle.version.specs.List.{version_of, major_of, minor_of, temporary_of}
use Rattle.version.specs.declared.Message.{Message}
use Rattle.version.specs.declared.Verdict.{Verdict}
use Rattle.version.specs.declared.Verdict.TheVariants.{Continue, Success, Failure}

-- tables 6 and 7, field 2, the result (协商结果): 0x00 is continue, 0x01 success, 0x02 failure
abbrev pub verdict_byte : Verdict → ℕ
verdict_byte Continue = 0
verdict_byte Success = 1
verdict_byte Failure = 2

unfoldable pub verdict_of : ℕ → Verdict
verdict_of byte = pick (eqb byte 0) Continue (pick (eqb byte 1) Success Failure)

-- any other byte is no result and refused 10
unfoldable pub verdict_read : ℕ → Result Verdict
verdict_read byte = pick (leb byte 2) (accepted (verdict_of byte)) (refused 10)

-- Around the transport, version talk: a failure has 0xFF in all three bytes of the version. (001 puts
-- a fourth 0xFF there, and the field has no room for it.)
abbrev pub named : Verdict → ℕ → ℕ
named Continue version = version
named Success version = version
named Failure version = version_of 0xFF 0xFF 0xFF

-- The control-pilot byte is whatever the caller gives, the transport version is 0x01, the reserved
-- byte 0xFF (Around the transport, version talk); CAN type 0x00 is CAN 2.0B.
abbrev pub bytes_of : Verdict → ℕ → ℕ → List ℕ
bytes_of verdict version control =
    0x00 ∷ verdict_byte verdict ∷ major_of version ∷ minor_of version ∷ temporary_of version
    ∷ control ∷ 0x01 ∷ 0xFF ∷ []

unfoldable pub write_of : Message → List ℕ
write_of m = bytes_of m.verdict (named m.verdict m.version) m.control

-- what the bytes say: result, version and control-pilot byte
abbrev pub message_of : List ℕ → Message
message_of bytes =
    record {
      verdict = verdict_of (get_or bytes 1 0);
      version = version_of (get_or bytes 2 0) (get_or bytes 3 0) (get_or bytes 4 0);
      control = get_or bytes 5 0;
    }

-- Refusals, by place, message: 10 unless the CAN type is 0 and the result one of the three; no other
-- byte is judged
abbrev pub is_message : List ℕ → Bool
is_message bytes = eqb (get_or bytes 0 0) 0 && leb (get_or bytes 1 0) 2

unfoldable pub read_of : List ℕ → Result Message
read_of bytes = pick (is_message bytes) (accepted (message_of bytes)) (refused 10)

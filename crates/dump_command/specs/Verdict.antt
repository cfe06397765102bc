-- What is found of a packet.
use Rattle.std.specs.Prelude.{◌≡◌, ◌≤◌, ◌<◌, ℕ, length, Err}
use Rattle.dump_capture.specs.Frame.{Packet}
use Rattle.dcsctp_crc32c.specs.Checksum.{packet_word}
use Rattle.dcsctp_wire.specs.Packet.{PacketFault, Answer, IsPacket}
use Rattle.dump_command.specs.Counts.{policy_of}
use Rattle.dump_command.specs.declared.options.Options.{Options}
use Rattle.dump_command.specs.declared.counts.Verdict.{Verdict}
use Rattle.dump_command.specs.declared.counts.Verdict.TheVariants as verdict

-- what was found of a packet, and its checksum word, which is 0 of one that was cut off
abbrev pub IsVerdict : Options → Packet → Verdict → ℕ → Type 0
IsVerdict o p verdict.Partial word = (length p.bytes < p.length) × (word ≡ 0)
IsVerdict o p verdict.Accepted word =
    (p.length ≤ length p.bytes) × (word ≡ packet_word p.bytes) × IsPacket p.bytes word (policy_of o)
IsVerdict o p verdict.Refused word =
    (p.length ≤ length p.bytes) × (word ≡ packet_word p.bytes)
    × ((e : PacketFault) × Answer p.bytes word (policy_of o) (Err e))

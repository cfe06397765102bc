-- Whether a packet's Verification Tag is right for an association (RFC 9260 sections 8.5 and
-- 8.5.1).
use Rattle.std.specs.Prelude.{◌==◌, ◌&&◌, Bool, false, ℕ, if◌then◌else◌, List, Option, Some, None}
use Rattle.dcsctp_borrowed.specs.Part.{Item}
use Rattle.dcsctp_receive.specs.Chunks.{has_header, tag_of, chunks_of, contains, begins_with, after_auth, is_only, t_bit}
use Rattle.dcsctp_receive.specs.declared.verification_tag.Association.{Association}
use Rattle.dcsctp_receive.specs.declared.verification_tag.TagVerdict.{TagVerdict}
use Rattle.dcsctp_receive.specs.declared.verification_tag.TagVerdict.TheVariants.{Accept, Establish, OutOfTheBlue, Discard}

-- "its Peer's Tag", once it is known
abbrev pub is_known_as : Option ℕ → ℕ → Bool
is_known_as None tag = false
is_known_as (Some peer) tag = tag == peer

-- Rules B and C: "if the Verification Tag field of the packet matches its own tag and the T bit is
-- not set OR if it is set to its Peer's Tag and the T bit is set in the Chunk Flags. Otherwise, the
-- receiver MUST silently discard the packet".
abbrev pub by_t_bit : Association → ℕ → Bool → TagVerdict
by_t_bit a tag is_set =
    if (if is_set then is_known_as a.peer tag else tag == a.own) then Accept else Discard

abbrev pub verdict_of : Association → ℕ → List Item → TagVerdict
verdict_of a tag chunks =
    -- A: "When an endpoint receives an SCTP packet with the Verification Tag set to 0, it SHOULD
    -- verify that the packet contains only an INIT chunk. Otherwise, the receiver MUST silently
    -- discard the packet." Any other INIT wasn't sent by the rule "The sender MUST set the
    -- Verification Tag of the packet to 0".
    if tag == 0 then (if is_only 1 chunks then Establish else Discard) else
    if contains 1 chunks then Discard else
    -- B: "packets carrying an ABORT chunk"
    if contains 6 chunks then by_t_bit a tag (t_bit 6 chunks) else
    -- C: "packets carrying a SHUTDOWN COMPLETE chunk"
    if contains 14 chunks then by_t_bit a tag (t_bit 14 chunks) else
    -- D: "The receiver of a COOKIE ECHO chunk follows the procedures in Section 5", by which it is
    -- the first chunk, or the second after an AUTH (RFC 4895 section 6.3).
    if begins_with 10 (after_auth chunks) then Establish else
    -- E: "packets carrying a SHUTDOWN ACK chunk": "If the receiver is in COOKIE-ECHOED or
    -- COOKIE-WAIT state, [..] it is treated as an OOTB packet."
    if a.awaits_cookie && contains 8 chunks then OutOfTheBlue else
    -- 8.5: "If the received Verification Tag value does not match the receiver's own tag value, the
    -- receiver MUST silently discard the packet".
    if tag == a.own then Accept else
    Discard

-- of a packet, which has a tag if it has a common header
abbrev pub verdict : Association → List ℕ → TagVerdict
verdict a packet =
    if has_header packet then verdict_of a (tag_of packet) (chunks_of packet) else Discard

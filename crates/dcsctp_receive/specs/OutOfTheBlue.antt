-- What is done with an "Out of the Blue" packet (RFC 9260 section 8.4): "it is correctly formed (i.e.,
-- passed the receiver's CRC32c check; see Section 6.8), but the receiver is not able to identify the
-- association to which this packet belongs". Whether it is correctly formed is checked before.
use Rattle.std.specs.Prelude.{◌==◌, ◌||◌, not, Bool, true, ℕ, if◌then◌else◌, List, [], ◌∷◌}
use Rattle.std.specs.List.{list_any}
use Rattle.dcsctp_borrowed.specs.Part.{Item}
use Rattle.dcsctp_wire.specs.{Packet.{Meaning}, Chunk.{ChunkTree}, declared.packet.common_header.CommonHeader.{CommonHeader}}
use Rattle.dcsctp_wire.specs.Chunk as tree
use Rattle.dcsctp_receive.specs.{Chunks.{has_header, tag_of, chunks_of, contains, begins_with, after_auth, is_only}, Fields.{is_stale_cookie_error}}
use Rattle.dcsctp_receive.specs.declared.out_of_the_blue.OutOfTheBlue.{OutOfTheBlue}
use Rattle.dcsctp_receive.specs.declared.out_of_the_blue.OutOfTheBlue.TheVariants.{Discard, Init, CookieEcho, Respond}
use Rattle.dcsctp_receive.specs.declared.out_of_the_blue.Reply.{Reply}
use Rattle.dcsctp_receive.specs.declared.out_of_the_blue.Reply.TheVariants.{ShutdownComplete, Abort}

-- of a packet with this tag and these chunks, "Otherwise" for "Otherwise"
abbrev pub answer_of : Bool → ℕ → List Item → OutOfTheBlue
answer_of is_unicast tag chunks =
    -- 1) "If the OOTB packet is to or from a non-unicast address, a receiver SHOULD silently
    -- discard the packet."
    if not is_unicast then Discard else
    -- 2) "If the OOTB packet contains an ABORT chunk, the receiver MUST silently discard the OOTB
    -- packet and take no further action."
    if contains 6 chunks then Discard else
    -- 3) "If the packet contains an INIT chunk with a Verification Tag set to 0, it SHOULD be
    -- processed as described in Section 5.1." But "When an endpoint receives an SCTP packet with the
    -- Verification Tag set to 0, it SHOULD verify that the packet contains only an INIT chunk.
    -- Otherwise, the receiver MUST silently discard the packet." (section 8.5.1, A)
    if tag == 0 then (if is_only 1 chunks then Init else Discard) else
    -- 4) "If the packet contains a COOKIE ECHO chunk as the first chunk, it MUST be processed as
    -- described in Section 5.1." Or "as the second chunk" after an AUTH (RFC 4895 section 6.3).
    if begins_with 10 (after_auth chunks) then CookieEcho else
    -- 5) "If the packet contains a SHUTDOWN ACK chunk, the receiver SHOULD respond to the sender of
    -- the OOTB packet with a SHUTDOWN COMPLETE chunk."
    if contains 8 chunks then Respond ShutdownComplete else
    -- 6) "If the packet contains a SHUTDOWN COMPLETE chunk, the receiver SHOULD silently discard
    -- the packet and take no further action."
    if contains 14 chunks then Discard else
    -- 7) "If the packet contains an ERROR chunk with the "Stale Cookie" error cause or a COOKIE ACK
    -- chunk, the SCTP packet SHOULD be silently discarded."
    if list_any is_stale_cookie_error chunks || contains 11 chunks then Discard else
    -- 8) "The receiver SHOULD respond to the sender of the OOTB packet with an ABORT chunk."
    Respond Abort

-- of a packet, which has a tag if it has a common header
abbrev pub answer_to : Bool → List ℕ → OutOfTheBlue
answer_to is_unicast packet =
    if has_header packet then answer_of is_unicast (tag_of packet) (chunks_of packet) else Discard

-- ---- the reply

-- one chunk, to the sender of a packet with this header, under this tag
abbrev pub back : CommonHeader → ℕ → ChunkTree → Meaning
back h tag chunk = record {
  source = h.destination_port;
  destination = h.source_port;
  tag = tag;
  chunks = chunk ∷ [];
}

-- 5) and 8) "set the T bit in the Chunk Flags to indicate that the Verification Tag is reflected"
abbrev pub reply_chunk : Reply → ChunkTree
reply_chunk ShutdownComplete = tree.ShutdownComplete true
reply_chunk Abort = tree.Abort (record { tag_reflected = true; causes = [] })

-- "fill in the Verification Tag field of the outbound packet with the Verification Tag received"
abbrev pub reply_to : CommonHeader → Reply → Meaning
reply_to h reply = back h h.verification_tag (reply_chunk reply)

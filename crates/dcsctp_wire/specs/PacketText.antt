-- The printed text of a packet: no standard names it.
use Rattle.std.specs.{Prelude.{ℕ, List, ◌++◌, codes}, List.{flat_map}, Fmt.{decimal}}
use Rattle.dcsctp_wire.specs.{Chunk.{ChunkTree, text}, Packet.{PacketTree}}

-- the four numbers of the header, in decimal
abbrev pub header_text : ℕ → ℕ → ℕ → ℕ → List ℕ
header_text source destination tag checksum =
    codes "source=" ++ decimal source
    ++ codes " destination=" ++ decimal destination
    ++ codes " tag=" ++ decimal tag
    ++ codes " checksum=" ++ decimal checksum

-- each chunk's text, on the next line
abbrev pub next_lines : List ChunkTree → List ℕ
next_lines ts = flat_map (λ t. codes "\n" ++ text t) ts

-- the header's line, and a line for each chunk
abbrev pub packet_text : PacketTree → List ℕ
packet_text p =
    header_text p.meaning.source p.meaning.destination p.meaning.tag p.checksum
    ++ next_lines p.meaning.chunks

-- What contracts of callers speak of, in one place: a caller's file begins with a `ghost use` line
-- of this module, beside that of `Rattle.std.specs.Prelude` for operators, numbers, lists and
-- results.
use Rattle.std.specs.Prelude.{Option, Some, None}
use Rattle.dcsctp_wire.specs.Chunk.{Data, IData}
-- packets as plain data, and what the grammar gives
pub use Rattle.dcsctp_wire.specs.Packet.{Meaning, PacketTree, PacketFault, Placed, Answer, IsPacket, IsAccepted}
pub use Rattle.dcsctp_wire.specs.Packet.{header_of, checksum_field, packet_view, meaning_view}
pub use Rattle.dcsctp_wire.specs.Packet.{HasPacketSize, Checksum as ChecksumFault, packet_error_of, packet_reading, packet_checking}
pub use Rattle.dcsctp_wire.specs.PacketText.{packet_text}
-- what the clauses of readers and checks are made of
pub use Rattle.dcsctp_tlv.specs.Reading.{Answers, Exactly, Counted, Unplaced}
-- chunks as plain data; after `ghost use Rattle.dcsctp_wire.specs.Chunk as tree` a SACK is
-- `tree.Sack (sack_view sack)`
pub use Rattle.dcsctp_wire.specs.Chunk.{ChunkTree, IsChunkEncodable, IsWellFormed as IsChunkWellFormed, view as chunk_view, views as chunk_views, all_kept}
-- the values of kinds as plain data, as far as they hold more than one thing
pub use Rattle.dcsctp_chunk.specs.Data.{Tree as DataChunkTree, DataTree as UserDataTree, user_data_view}
pub use Rattle.dcsctp_chunk.specs.DataChunk.{view as data_view, kept as kept_data}
pub use Rattle.dcsctp_chunk.specs.IDataChunk.{view as i_data_view, kept as kept_i_data}
pub use Rattle.dcsctp_chunk.specs.Sack.{view as sack_view}
pub use Rattle.dcsctp_chunk.specs.ForwardTsn.{view as forward_tsn_view}
pub use Rattle.dcsctp_chunk.specs.IForwardTsn.{view as i_forward_tsn_view}
pub use Rattle.dcsctp_wire.specs.Init.{view as init_view}
pub use Rattle.dcsctp_wire.specs.InitAck.{view as init_ack_view}
-- packets that are written, and the builder
pub use Rattle.dcsctp_wire.specs.Canonical.{canonical, padded_size, Fits, HasCanonical, IsCanonicalOf}
pub use Rattle.dcsctp_wire.specs.Account.{HasOwnTexts}
pub use Rattle.dcsctp_tlv.specs.Frame.{round_up_to_4}
pub use Rattle.dcsctp_wire.specs.WellFormed.{IsInWidth, IsWellFormed}
pub use Rattle.dcsctp_wire.specs.Builder.{BuilderState, Holds, meaning_with, room, built}
-- the blocks of a SACK
pub use Rattle.dcsctp_chunk.specs.Cover.{Covers, IsRuns, IsCleaned, CleanedLaws, AreValid}

-- the user data of DATA or I-DATA, and nothing of any other chunk
abbrev pub user_data_of : ChunkTree → Option UserDataTree
user_data_of (Data c) = Some c.user_data
user_data_of (IData c) = Some c.user_data
user_data_of t = None

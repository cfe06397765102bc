-- The kinds of chunk (RFC 9260 section 3.2) that hold no list of parameters or error causes: a line
-- for each. They are rows of the table of chunks, which the check of their values goes by too.
use Rattle.std.specs.Prelude.{List, [], ◌∷◌}
use Rattle.dcsctp_tlv.specs.Kinds.{Kind}
use Rattle.dcsctp_chunk.specs.CookieAck as cookie_ack
use Rattle.dcsctp_chunk.specs.CookieEcho as cookie_echo
use Rattle.dcsctp_chunk.specs.DataChunk as data_chunk
use Rattle.dcsctp_chunk.specs.ForwardTsn as forward_tsn
use Rattle.dcsctp_chunk.specs.IDataChunk as idata_chunk
use Rattle.dcsctp_chunk.specs.IForwardTsn as iforward_tsn
use Rattle.dcsctp_chunk.specs.Sack as sack
use Rattle.dcsctp_chunk.specs.Shutdown as shutdown
use Rattle.dcsctp_chunk.specs.ShutdownAck as shutdown_ack
use Rattle.dcsctp_chunk.specs.ShutdownComplete as shutdown_complete

abbrev pub plain_kinds : List Kind
plain_kinds =
    data_chunk.kind ∷
    sack.kind ∷
    shutdown.kind ∷
    shutdown_ack.kind ∷
    cookie_echo.kind ∷
    cookie_ack.kind ∷
    shutdown_complete.kind ∷
    idata_chunk.kind ∷
    forward_tsn.kind ∷
    iforward_tsn.kind ∷ []

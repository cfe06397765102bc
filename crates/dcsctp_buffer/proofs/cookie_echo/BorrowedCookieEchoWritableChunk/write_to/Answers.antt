use Rattle.std.proofs.Common.{◌∙◌, refl}
use Rattle.dcsctp_wire.specs.Chunk.{CookieEcho, tlv}
use Rattle.dcsctp_buffer.proofs.Items.{solid_item}
use Rattle.dcsctp_buffer.proofs.cookie_echo.BorrowedCookieEchoWritableChunk.write_to.Goals as goal

pub returns-clause-written : goal.returns-clause-written
returns-clause-written c =
    c.put_solid.ensures ∙ solid_item (tlv (CookieEcho c.args.self.now.cookie.now))
    c.args.self.now.cookie.now c.args.output.now refl refl c.requires.room

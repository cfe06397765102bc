use Rattle.std.proofs.Common.{◌∙◌}
use Rattle.dcsctp_receive.proofs.Replies.{written_reply}
use Rattle.dcsctp_receive.proofs.out_of_the_blue.ReplyWritableChunk.write_to.Goals as goal

pub returns-clause-written : goal.returns-clause-written
returns-clause-written c =
    c.put_solid.ensures
    ∙ written_reply c.args.self.now c.chunk_type.result c.one_flag.result c.args.output.now
    c.chunk_type.ensures c.one_flag.ensures c.requires.room

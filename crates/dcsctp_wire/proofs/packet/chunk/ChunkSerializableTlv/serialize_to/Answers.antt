use Rattle.std.proofs.Common.{rules}
use Rattle.dcsctp_wire.proofs.packet.chunk.ChunkSerializableTlv.serialize_to.Goals as goal

pub returns-in-Data-each_arms : goal.returns-in-Data-each_arms
returns-in-Data-each_arms c = rw c.in-Data-each_arms.is (search rules)

pub returns-in-Init-each_arms : goal.returns-in-Init-each_arms
returns-in-Init-each_arms c = rw c.in-Init-each_arms.is (search rules)

pub returns-in-InitAck-each_arms : goal.returns-in-InitAck-each_arms
returns-in-InitAck-each_arms c = rw c.in-InitAck-each_arms.is (search rules)

pub returns-in-Sack-each_arms : goal.returns-in-Sack-each_arms
returns-in-Sack-each_arms c = rw c.in-Sack-each_arms.is (search rules)

pub returns-in-IData-each_arms : goal.returns-in-IData-each_arms
returns-in-IData-each_arms c = rw c.in-IData-each_arms.is (search rules)

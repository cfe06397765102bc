use Rattle.std.proofs.Common.{◌≡◌, ◌≤◌, length, take, drop}
use Rattle.dcsctp_c.specs.{Code.{policy_of}, PlacedPacket.{IsPacketAt, rows_end, IsAsked}, Walk.{AreFrom, end_of, MeanEach}}
use Rattle.dcsctp_c.proofs.read_many.dcsctp_read_many.Given as goal

abbrev pub invariant-loop-index : goal.invariant-loop-index
invariant-loop-index l = record {
  room : l.used ≤ length l.rows;
  read : AreFrom (IsPacketAt l.bytes (policy_of l.policy) l.rows) (rows_end l.rows) 0 (take l.index l.packets);
  count : l.used ≡ end_of (rows_end l.rows) 0 (take l.index l.packets);
  asked : MeanEach IsAsked (take l.index l.packets) (take l.index l.initial.packets);
  rest : drop l.index l.packets ≡ drop l.index l.initial.packets;
  after : drop l.used l.rows ≡ drop l.used l.initial.rows;
}

-- What the code finds in a frame, without where it lies in memory.
use Rattle.std.specs.Prelude.{Result, Ok, Err}
use Rattle.dump_capture.specs.Frame as frame
use Rattle.dump_capture.specs.Payload as payload
use Rattle.dump_capture.specs.declared.frame.FoundPacket.{FoundPacket}
use Rattle.dump_capture.specs.declared.payload.Payload.{Payload}
use Rattle.dump_capture.specs.declared.frame.NoPacket.{NoPacket}

abbrev pub packet_of : FoundPacket → frame.Packet
packet_of f = record {
  addresses = f.addresses;
  udp_ports = f.udp_ports;
  length = f.length;
  bytes = f.packet.now;
}

abbrev pub found : Result FoundPacket NoPacket → Result frame.Packet NoPacket
found (Ok f) = Ok (packet_of f)
found (Err e) = Err e

abbrev pub payload_of : Payload → payload.Payload
payload_of p = record {
  addresses = p.addresses;
  protocol = p.protocol;
  size = p.size;
  bytes = p.bytes.now;
}

abbrev pub payload_result : Result Payload NoPacket → Result payload.Payload NoPacket
payload_result (Ok p) = Ok (payload_of p)
payload_result (Err e) = Err e

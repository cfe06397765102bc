-- Heartbeat Info (RFC 9260 section 3.3.5): type 1; the value is the info, any bytes.
use Rattle.std.specs.{Prelude.{ℕ, List, ◌++◌, Result, Ok, length, codes}, Fmt.{decimal}}
use Rattle.dcsctp_tlv.specs.{Kind.{Fault, AreBytes, Format, sized_tlv, length-solid, Kind, plain_kind, Varied}, declared.parameter.heartbeat_info_parameter.HeartbeatInfoParameter.{HeartbeatInfoParameter}}

abbrev pub read : List ℕ → Result (List ℕ) Fault
read value = Ok value

abbrev pub format : List ℕ → Format
format info = record {
  tlv = sized_tlv 1 (length info) info;
  sized = length-solid info;
  text = codes "Heartbeat Info parameter, info_length=" ++ decimal (length info);
  IsInWidth = AreBytes info;
  IsWellFormed = Unit {0};
}

abbrev pub view : HeartbeatInfoParameter → List ℕ
view p = p.info.items

abbrev pub kind : Kind
kind = plain_kind 1 Varied (λ flags. read) format

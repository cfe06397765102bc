-- The info of HEARTBEAT and HEARTBEAT ACK (RFC 9260 sections 3.3.5 and 3.3.6), read in its bytes.
use Rattle.std.specs.{Prelude.{◌==◌, ℕ, List, if◌then◌else◌, Option, Some, None}, Result.{result_ok}}
use Rattle.dcsctp_tlv.specs.HeartbeatInfo as info_kind
use Rattle.dcsctp_tlv.specs.Parameter.{ParameterTree, HeartbeatInfo}

-- the info of a Heartbeat Info; nothing of any other parameter
abbrev pub info_of : ParameterTree → Option (List ℕ)
info_of (HeartbeatInfo info) = Some info
info_of t = None

-- What a parameter of this type with this value reads as; nothing where it has another type.
abbrev pub read_info : ℕ → List ℕ → Option (List ℕ)
read_info typ value = if typ == 1 then result_ok (info_kind.read value) else None

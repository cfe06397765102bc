-- UDP (RFC 768).
use Rattle.std.specs.Prelude.{◌==◌, ℕ, Bool, ◌||◌, List, drop}
use Rattle.dump_capture.specs.Number.{number16}

-- the header's length field, which counts the header of 8 bytes
abbrev pub udp_length : List ℕ → ℕ
udp_length bytes = number16 (drop 4 bytes)

abbrev pub destination_port : List ℕ → ℕ
destination_port bytes = number16 (drop 2 bytes)

-- one of the ports is this one
abbrev pub is_on_port : ℕ → List ℕ → Bool
is_on_port port bytes = number16 bytes == port || destination_port bytes == port

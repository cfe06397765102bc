-- What a sender writes, for the laws that it is found: an IP packet that carries SCTP.
use Rattle.std.specs.Prelude.{◌+◌, ℕ, List, ◌∷◌, [], ◌++◌}
use Rattle.std.specs.Int.{w16, to_be_bytes}

-- the fields of an IPv4 header that don't matter here (RFC 791 section 3.1)
pub record Ipv4Fields : Type 0 where
  pub service : ℕ
  pub identification : ℕ
  pub time_to_live : ℕ
  pub checksum : ℕ

-- An IPv4 packet without options that isn't to be fragmented, with a payload of this size of
-- protocol 132. The last bytes are the payload and what follows it in the frame, as far as it was
-- captured.
abbrev pub ipv4_packet : Ipv4Fields → ℕ → List ℕ → List ℕ → List ℕ → List ℕ
ipv4_packet f size source destination bytes =
    ((0x45 ∷ f.service ∷ to_be_bytes w16 (20 + size))
    ++ (to_be_bytes w16 f.identification ++ (0x40 ∷ 0 ∷ []))
    ++ (f.time_to_live ∷ 132 ∷ to_be_bytes w16 f.checksum))
    ++ (source ++ (destination ++ bytes))

-- An IPv6 packet without extension headers (RFC 8200 section 3), with a payload of this size of
-- protocol 132; its class and flow label are 0.
abbrev pub ipv6_packet : ℕ → ℕ → List ℕ → List ℕ → List ℕ → List ℕ
ipv6_packet hop_limit size source destination bytes =
    ((0x60 ∷ 0 ∷ 0 ∷ 0 ∷ to_be_bytes w16 size) ++ (132 ∷ hop_limit ∷ []))
    ++ (source ++ (destination ++ bytes))

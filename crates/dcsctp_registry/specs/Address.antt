-- Addresses by their octets (RFC 9260 sections 3.3.2.1.1 and 3.3.2.1.2).
use Rattle.std.specs.Prelude.{◌≡◌, ◌≢◌, ℕ, List, Option, Some, None, length}
use Rattle.std.specs.Net.Addr.{ipv4_octets, ipv6_segments, segments_of}
use Rattle.std.specs.declared.net.ip_addr.IpAddr.{IpAddr}
use Rattle.std.specs.declared.net.ip_addr.IpAddr.TheVariants as ip

-- It is the address of these octets: four of IPv4, or sixteen of IPv6; there is none of any others.
abbrev pub IsAddress : List ℕ → Option IpAddr → Type 0
IsAddress octets (Some (ip.V4 a)) = (length octets ≡ 4) × (ipv4_octets a ≡ octets)
IsAddress octets (Some (ip.V6 a)) = (length octets ≡ 16) × (ipv6_segments a ≡ segments_of octets)
IsAddress octets None = (length octets ≢ 4) × (length octets ≢ 16)

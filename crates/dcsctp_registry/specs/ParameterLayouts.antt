-- How the values of parameters are laid out that have no kind. registry/make.py writes this file:
-- registry/sctp.txt is edited in its place.
use Rattle.std.specs.Prelude.{List, [], ◌∷◌}
use Rattle.dcsctp_registry.specs.Row.{Row, row}
use Rattle.dcsctp_registry.specs.declared.layout.AddressForm.TheVariants as address
use Rattle.dcsctp_registry.specs.declared.layout.Rest.TheVariants as rest

unfoldable pub parameter_rows : List Row
parameter_rows =
    -- IPv4 Address (RFC 9260 section 3.3.2.1.1)
    row 5 0 0 0 address.Ipv4 rest.Nothing ∷
    -- IPv6 Address (RFC 9260 section 3.3.2.1.2)
    row 6 0 0 0 address.Ipv6 rest.Nothing ∷
    -- Unrecognized Parameter (RFC 9260 section 3.3.3.1.2)
    row 8 0 0 0 address.Nothing rest.Items ∷
    -- Cookie Preservative (RFC 9260 section 3.3.2.1.3)
    row 9 1 0 0 address.Nothing rest.Nothing ∷
    -- Host Name Address (RFC 9260 section 3.3.2.1.4)
    row 11 0 0 0 address.Nothing rest.Bytes ∷
    -- Supported Address Types (RFC 9260 section 3.3.2.1.5)
    row 12 0 0 0 address.Nothing rest.ShortNumbers ∷
    -- ECN Capable (RFC 4960 appendix A)
    row 0x8000 0 0 0 address.Nothing rest.Nothing ∷
    -- Random (RFC 4895 section 3.1)
    row 0x8002 0 0 0 address.Nothing rest.Bytes ∷
    -- Chunk List (RFC 4895 section 3.2)
    row 0x8003 0 0 0 address.Nothing rest.Bytes ∷
    -- Requested HMAC Algorithm (RFC 4895 section 3.3)
    row 0x8004 0 0 0 address.Nothing rest.ShortNumbers ∷
    -- Padding (RFC 4820 section 4)
    row 0x8005 0 0 0 address.Nothing rest.Bytes ∷
    -- Add IP Address (RFC 5061 section 4.2.1)
    row 0xc001 1 0 0 address.Parameter rest.Nothing ∷
    -- Delete IP Address (RFC 5061 section 4.2.2)
    row 0xc002 1 0 0 address.Parameter rest.Nothing ∷
    -- Error Cause Indication (RFC 5061 section 4.2.3)
    row 0xc003 1 0 0 address.Nothing rest.Items ∷
    -- Set Primary Address (RFC 5061 section 4.2.4)
    row 0xc004 1 0 0 address.Parameter rest.Nothing ∷
    -- Success Indication (RFC 5061 section 4.2.5)
    row 0xc005 1 0 0 address.Nothing rest.Nothing ∷
    -- Adaptation Layer Indication (RFC 5061 section 4.2.6)
    row 0xc006 1 0 0 address.Nothing rest.Nothing ∷
    []

-- How the values of error causes are laid out that have no kind. registry/make.py writes this file:
-- registry/sctp.txt is edited in its place.
use Rattle.std.specs.Prelude.{List, [], ◌∷◌}
use Rattle.dcsctp_registry.specs.Row.{Row, row}
use Rattle.dcsctp_registry.specs.declared.layout.AddressForm.TheVariants as address
use Rattle.dcsctp_registry.specs.declared.layout.Rest.TheVariants as rest

unfoldable pub cause_rows : List Row
cause_rows =
    -- Invalid Stream Identifier (RFC 9260 section 3.3.10.1)
    row 1 0 1 2 address.Nothing rest.Nothing ∷
    -- Stale Cookie (RFC 9260 section 3.3.10.3)
    row 3 1 0 0 address.Nothing rest.Nothing ∷
    -- Out of Resource (RFC 9260 section 3.3.10.4)
    row 4 0 0 0 address.Nothing rest.Nothing ∷
    -- Unresolvable Address (RFC 9260 section 3.3.10.5)
    row 5 0 0 0 address.Nothing rest.Items ∷
    -- Invalid Mandatory Parameter (RFC 9260 section 3.3.10.7)
    row 7 0 0 0 address.Nothing rest.Nothing ∷
    -- Unrecognized Parameters (RFC 9260 section 3.3.10.8)
    row 8 0 0 0 address.Nothing rest.Items ∷
    -- Restart of an Association with New Addresses (RFC 9260 section 3.3.10.11)
    row 11 0 0 0 address.Nothing rest.Items ∷
    -- Request to Delete Last Remaining IP Address (RFC 5061 section 4.3.1)
    row 0x00a0 0 0 0 address.Nothing rest.Items ∷
    -- Operation Refused Due to Resource Shortage (RFC 5061 section 4.3.2)
    row 0x00a1 0 0 0 address.Nothing rest.Items ∷
    -- Request to Delete Source IP Address (RFC 5061 section 4.3.3)
    row 0x00a2 0 0 0 address.Nothing rest.Items ∷
    -- Association Aborted due to illegal ASCONF-ACK (RFC 5061 section 4.3.4)
    row 0x00a3 0 0 0 address.Nothing rest.Nothing ∷
    -- Request refused - no authorization (RFC 5061 section 4.3.5)
    row 0x00a4 0 0 0 address.Nothing rest.Items ∷
    -- Unsupported HMAC Identifier (RFC 4895 section 4.1)
    row 0x0105 0 1 0 address.Nothing rest.Nothing ∷
    []

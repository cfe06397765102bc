-- How the values of chunks are laid out that have no kind. registry/make.py writes this file:
-- registry/sctp.txt is edited in its place.
use Rattle.std.specs.Prelude.{List, [], ◌∷◌}
use Rattle.dcsctp_registry.specs.Row.{Row, row}
use Rattle.dcsctp_registry.specs.declared.layout.AddressForm.TheVariants as address
use Rattle.dcsctp_registry.specs.declared.layout.Rest.TheVariants as rest

unfoldable pub chunk_rows : List Row
chunk_rows =
    -- ECNE (RFC 4960 appendix A)
    row 12 1 0 0 address.Nothing rest.Nothing ∷
    -- CWR (RFC 4960 appendix A)
    row 13 1 0 0 address.Nothing rest.Nothing ∷
    -- AUTH (RFC 4895 section 5.1)
    row 15 0 2 0 address.Nothing rest.Bytes ∷
    -- NR-SACK (draft-tuexen-tsvwg-sctp-multipath)
    row 16 2 3 2 address.Nothing rest.Lists ∷
    -- ASCONF ACK (RFC 5061 section 4.1.2)
    row 128 1 0 0 address.Nothing rest.Items ∷
    -- PKTDROP (draft-stewart-sctp-pktdrprep)
    row 129 2 1 2 address.Nothing rest.Bytes ∷
    -- PAD (RFC 4820 section 3)
    row 132 0 0 0 address.Nothing rest.Bytes ∷
    -- ASCONF (RFC 5061 section 4.1.1)
    row 193 1 0 0 address.Parameter rest.Items ∷
    []

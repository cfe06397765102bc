-- What is asked of a packet, of its header, and of a chunk: of its type, its flags, and the fields
-- of its value, as far as they were captured.
use Rattle.std.specs.Prelude.{◌+◌, ◌*◌, ◌/◌, ◌%◌, ◌==◌, ◌&&◌, ◌||◌, not, Bool, true, ℕ, zero, suc, nat_le, nat_lt, if◌then◌else◌, List, [], ◌∷◌, length}
use Rattle.std.specs.List.{list_any}
use Rattle.dcsctp_tlv.specs.Number.{number16, number32}
use Rattle.dcsctp_borrowed.specs.Part.{Part, Item, after}
use Rattle.dcsctp_receive.specs.Chunks.{items_of, is_of_type, is_numbered}

-- ---- numbers

-- The first two bytes were captured, and are this number.
abbrev pub begins_with16 : ℕ → Part → Bool
begins_with16 n p = nat_le 2 (length p.bytes) && number16 p.bytes == n

-- The first four bytes were captured, and are this number.
abbrev pub begins_with32 : ℕ → Part → Bool
begins_with32 n p = nat_le 4 (length p.bytes) && number32 p.bytes == n

-- ---- a packet: its common header (RFC 9260 section 3.1), and its chunks

-- the source port or the destination port
abbrev pub has_port : ℕ → Part → Bool
has_port port packet = begins_with16 port packet || begins_with16 port (after 2 packet)

abbrev pub has_tag : ℕ → Part → Bool
has_tag tag packet = begins_with32 tag (after 4 packet)

abbrev pub has_checksum : ℕ → Part → Bool
has_checksum checksum packet = begins_with32 checksum (after 8 packet)

abbrev pub is_whole : Part → Bool
is_whole packet = nat_le packet.size (length packet.bytes)

-- what follows the first that meets a test
abbrev pub after_first : (Item → Bool) → List Item → List Item
after_first test [] = []
after_first test (c ∷ chunks) = if test c then chunks else after_first test chunks

-- some chunk that meets the second test comes after one that meets the first
abbrev pub has_after : (Item → Bool) → (Item → Bool) → List Item → Bool
has_after first second chunks = list_any second (after_first first chunks)

-- ---- a chunk, by its type

-- DATA (RFC 9260 section 3.3.1)
abbrev pub is_data : Item → Bool
is_data c = is_of_type 0 c

-- I-DATA (RFC 8260 section 2.1)
abbrev pub is_idata : Item → Bool
is_idata c = is_of_type 64 c

abbrev pub is_user_data : Item → Bool
is_user_data c = is_data c || is_idata c

-- INIT or INIT ACK (RFC 9260 sections 3.3.2 and 3.3.3)
abbrev pub is_init : Item → Bool
is_init c = is_of_type 1 c || is_of_type 2 c

-- PAD (RFC 4820 section 3)
abbrev pub is_pad : Item → Bool
is_pad c = is_of_type 132 c

-- every chunk that isn't user data (RFC 9260 section 2.3), but for PAD, which may be added to any
-- packet
abbrev pub is_control : Item → Bool
is_control c = not (is_user_data c || is_pad c)

-- ---- user data

abbrev pub is_on_stream : ℕ → Item → Bool
is_on_stream stream c = is_user_data c && begins_with16 stream (after 4 c.value)

abbrev pub has_tsn : ℕ → Item → Bool
has_tsn tsn c = is_user_data c && begins_with32 tsn c.value

-- Flag B is set, the second lowest: the first fragment, which has the identifier (RFC 8260 section
-- 2.1).
abbrev pub is_first_idata : Item → Bool
is_first_idata c = is_idata c && (c.second / 2) % 2 == 1

-- the payload protocol identifier
abbrev pub has_ppid : ℕ → Item → Bool
has_ppid ppid c =
    (is_data c && begins_with32 ppid (after 8 c.value))
    || (is_first_idata c && begins_with32 ppid (after 12 c.value))

-- The value ends where the payload begins: "A DATA chunk with a User Data field of length L will have
-- the Length field set to (16 + L) (indicating 16 + L bytes) where L MUST be greater than 0." (RFC
-- 9260 section 3.3.1)
abbrev pub has_no_user_data : Item → Bool
has_no_user_data c = (is_data c && c.value.size == 12) || (is_idata c && c.value.size == 16)

-- ---- other chunks

-- INIT, INIT ACK and SHUTDOWN COMPLETE aren't bundled (RFC 9260 section 6.10).
abbrev pub stands_alone : Item → Bool
stands_alone c = is_init c || is_of_type 14 c

abbrev pub has_no_initiate_tag : Item → Bool
has_no_initiate_tag c = is_init c && begins_with32 0 c.value

-- the numbers of outbound and of inbound streams (RFC 9260 section 3.3.2)
abbrev pub has_no_streams : Item → Bool
has_no_streams c =
    is_init c && (begins_with16 0 (after 8 c.value) || begins_with16 0 (after 10 c.value))

-- the window that is advertised first (RFC 9260 sections 3.3.2 and 6)
abbrev pub has_small_window : Item → Bool
has_small_window c =
    is_init c && nat_le 8 (length c.value.bytes) && nat_lt (number32 (after 4 c.value).bytes) 1500

-- Bit T, the lowest: the tag is that of the packet that is answered, which was out of the blue (RFC
-- 9260 section 8.4).
abbrev pub reflects_tag : Item → Bool
reflects_tag c = (is_of_type 6 c || is_of_type 14 c) && c.second % 2 == 1

-- Packets with INIT, COOKIE ECHO or ASCONF are sent with a CRC32c, and so are answers to packets
-- out of the blue (RFC 9653 section 5.2).
abbrev pub needs_checksum : Item → Bool
needs_checksum c = is_of_type 1 c || is_of_type 10 c || is_of_type 193 c || reflects_tag c

-- ---- parameters (RFC 9260 section 3.2.1) and error causes (section 3.3.10)

-- All of the list was captured, and none in it is of the type.
abbrev pub lacks_parameter : ℕ → Part → Bool
lacks_parameter typ list = is_whole list && not (list_any (is_numbered typ) (items_of list))

-- State Cookie, type 7, is mandatory in INIT ACK, where 16 bytes come before the parameters (RFC
-- 9260 section 3.3.3).
abbrev pub has_no_cookie : Item → Bool
has_no_cookie c = is_of_type 2 c && lacks_parameter 7 (after 16 c.value)

-- Heartbeat Info, type 1, is mandatory in HEARTBEAT (RFC 9260 section 3.3.5).
abbrev pub has_no_heartbeat_info : Item → Bool
has_no_heartbeat_info c = is_of_type 4 c && lacks_parameter 1 c.value

-- ERROR with the cause Stale Cookie, code 3 (RFC 9260 section 3.3.10.3)
abbrev pub is_stale_cookie_error : Item → Bool
is_stale_cookie_error c = is_of_type 9 c && list_any (is_numbered 3) (items_of c.value)

-- ---- gap ack blocks (RFC 9260 section 3.3.4)

abbrev pub block_start : Part → ℕ
block_start p = number16 p.bytes

abbrev pub block_end : Part → ℕ
block_end p = number16 (after 2 p).bytes

-- Each of the first n blocks, as far as they were captured, ends where it starts or later, and
-- starts two offsets or more after the end of what is before it, so that a TSN is missing between
-- them.
abbrev pub are_isolated : ℕ → ℕ → Part → Bool
are_isolated zero end p = true
are_isolated (suc n) end p =
    if nat_lt (length p.bytes) 4 then true else
    nat_lt (end + 1) (block_start p) && nat_le (block_start p) (block_end p)
    && are_isolated n (block_end p) (after 4 p)

-- Of a list of blocks, whose number is read at one offset, and whose first block at another, some
-- isn't isolated. The Cumulative TSN Ack is offset 0.
abbrev pub has_wrong_list : ℕ → ℕ → Part → Bool
has_wrong_list count start value =
    not (are_isolated (number16 (after count value).bytes) 0 (after start value))

-- In an NR-SACK the numbers of gap ack blocks, of NR gap ack blocks and of duplicates come before
-- two reserved bytes, and the lists follow in this order.
abbrev pub nr_blocks_start : Part → ℕ
nr_blocks_start value = 16 + 4 * number16 (after 8 value).bytes

-- of SACK, whose blocks start at byte 12, and of NR-SACK, type 16, each list by itself
abbrev pub has_wrong_blocks : Item → Bool
has_wrong_blocks c =
    (is_of_type 3 c && has_wrong_list 8 12 c.value)
    || (is_of_type 16 c
    && (has_wrong_list 8 16 c.value || has_wrong_list 10 (nr_blocks_start c.value) c.value))

-- ---- flags (RFC 9260 section 3.2)

-- types without a flag: of RFC 9260, AUTH (RFC 4895), ASCONF ACK and ASCONF (RFC 5061), RE-CONFIG
-- (RFC 6525), PAD (RFC 4820), FORWARD-TSN (RFC 3758) and I-FORWARD-TSN (RFC 8260)
abbrev pub has_no_flag : ℕ → Bool
has_no_flag typ =
    nat_le typ 5 || (nat_le 7 typ && nat_le typ 11) || typ == 15 || typ == 128 || typ == 130
    || typ == 132 || (nat_le 192 typ && nat_le typ 194)

-- Flags of this type are below this number: the bits from there on are reserved. DATA and I-DATA
-- have four, ABORT and SHUTDOWN COMPLETE one. Of other types nothing is known: NR-SACK and PKTDROP,
-- and ECNE and CWR, which RFC 9260 names and doesn't define.
abbrev pub flags_below : ℕ → ℕ
flags_below typ =
    if typ == 0 || typ == 64 then 16 else
    if typ == 6 || typ == 14 then 2 else
    if has_no_flag typ then 1 else
    256

abbrev pub has_reserved_flag : Item → Bool
has_reserved_flag c = nat_le (flags_below c.first) c.second

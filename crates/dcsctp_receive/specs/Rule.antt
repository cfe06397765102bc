-- The packets that break a rule: of the packet, its checksum word, what is known of its
-- association, and its chunks.
use Rattle.std.specs.Prelude.{◌≡◌, ◌==◌, ◌&&◌, ◌||◌, not, Bool, true, false, ℕ, nat_lt, Option, Some, None, List, length, map, get_or}
use Rattle.std.specs.List.{list_any}
use Rattle.dcsctp_borrowed.specs.Part.{Part, Item}
use Rattle.dcsctp_chunk.specs.Flags.{is_set}
use Rattle.dcsctp_receive.specs.Chunks.{is_of_type, items_of, chunk_part, after_auth}
use Rattle.dcsctp_receive.specs.Fields.{has_port, has_tag, has_checksum, is_whole, has_after, is_data, is_idata, is_user_data, is_control, has_no_user_data, stands_alone, has_no_initiate_tag, has_no_streams, has_small_window, needs_checksum, has_wrong_blocks, has_reserved_flag, has_no_cookie, has_no_heartbeat_info}
use Rattle.dcsctp_receive.specs.declared.rule.Known.{Known}
use Rattle.dcsctp_receive.specs.declared.rule.Rule.{Rule}
use Rattle.dcsctp_receive.specs.declared.rule.Rule.TheVariants as rule
use Rattle.dcsctp_receive.specs.declared.rule.TheConstants.Rule.{ALL}

-- It is known that zero isn't accepted.
abbrev pub is_refused : Option Bool → Bool
is_refused (Some accepts) = not accepts
is_refused None = false

-- The packet has INIT, INIT ACK or SHUTDOWN COMPLETE, and another chunk.
abbrev pub is_bundled : List Item → Bool
is_bundled chunks = list_any stands_alone chunks && nat_lt 1 (length chunks)

-- The checksum field is 0, and isn't the CRC32c, where that is required: in packets with some
-- chunks, and where the end that the packet goes to is known not to accept zero.
abbrev pub lacks_checksum : Part → ℕ → Known → List Item → Bool
lacks_checksum p word known chunks =
    is_whole p && has_checksum 0 p && not (word == 0)
    && (is_refused known.accepts_zero || list_any needs_checksum chunks)

-- The packet has DATA, and it or its association has I-DATA; or the other way round.
abbrev pub mixes_user_data : Known → List Item → Bool
mixes_user_data known chunks =
    (list_any is_data chunks && (known.has_idata || list_any is_idata chunks))
    || (list_any is_idata chunks && (known.has_data || list_any is_data chunks))

abbrev pub breaks : Rule → Part → ℕ → Known → List Item → Bool
breaks rule.PortZero p word known chunks = has_port 0 p
breaks rule.InitAlone p word known chunks = is_bundled chunks
breaks rule.InitTag p word known chunks = list_any (is_of_type 1) chunks && not (has_tag 0 p)
breaks rule.TagZero p word known chunks =
    has_tag 0 p && list_any (λ c. not (is_of_type 1 c)) chunks
breaks rule.InitiateTagZero p word known chunks = list_any has_no_initiate_tag chunks
breaks rule.NoStreams p word known chunks = list_any has_no_streams chunks
breaks rule.SmallWindow p word known chunks = list_any has_small_window chunks
breaks rule.InitAckCookie p word known chunks = list_any has_no_cookie chunks
breaks rule.HeartbeatInfo p word known chunks = list_any has_no_heartbeat_info chunks
breaks rule.NoUserData p word known chunks = list_any has_no_user_data chunks
breaks rule.DataBesideIdata p word known chunks = mixes_user_data known chunks
breaks rule.GapBlocks p word known chunks = list_any has_wrong_blocks chunks
breaks rule.ReservedBits p word known chunks = list_any has_reserved_flag chunks
breaks rule.ZeroChecksum p word known chunks = lacks_checksum p word known chunks
breaks rule.CookieEchoFirst p word known chunks =
    has_after (λ c. true) (is_of_type 10) (after_auth chunks)
breaks rule.ControlFirst p word known chunks = has_after is_user_data is_control chunks
breaks rule.AfterAbort p word known chunks = has_after (is_of_type 6) (λ c. true) chunks
breaks rule.DataWithAbort p word known chunks =
    list_any (is_of_type 6) chunks && list_any is_user_data chunks

-- the packet breaks the rule, by its chunks
unfoldable pub is_broken_by : Part → ℕ → Known → Rule → Bool
is_broken_by p word known rule = breaks rule p word known (items_of (chunk_part p))

-- of each rule, in their order, whether the packet breaks it
abbrev pub broken : Part → ℕ → Known → List Bool
broken p word known = map (is_broken_by p word known) ALL

-- Bit i of the number is set if and only if the packet breaks the i-th rule.
abbrev pub AreBroken : Part → ℕ → Known → ℕ → Type 0
AreBroken p word known bits = (i : ℕ) → is_set bits i ≡ get_or (broken p word known) i false

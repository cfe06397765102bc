-- The tests that the one loop over chunks is given.
use Rattle.std.specs.Prelude.{◌≡◌, not, Bool, true, false, List, [], Option, Some, None}
use Rattle.std.specs.List.{list_any}
use Rattle.dcsctp_borrowed.specs.Part.{Item, part_of}
use Rattle.dcsctp_borrowed.specs.declared.part.Part as code
use Rattle.dcsctp_receive.specs.Chunks.{items_of, is_of_type}
use Rattle.dcsctp_receive.specs.Fields.{after_first, is_user_data, is_control, is_on_stream, has_tsn, has_ppid, has_no_user_data, stands_alone, has_no_initiate_tag, has_no_streams, has_small_window, needs_checksum, has_wrong_blocks, has_reserved_flag, has_no_cookie, has_no_heartbeat_info, is_stale_cookie_error}
use Rattle.dcsctp_receive.specs.declared.chunk_test.ChunkTest.{ChunkTest}
use Rattle.dcsctp_receive.specs.declared.chunk_test.ChunkTest.TheVariants as test

abbrev pub meets_test : ChunkTest → Item → Bool
meets_test test.Any c = true
meets_test (test.Type typ) c = is_of_type typ c
meets_test (test.OtherThan typ) c = not (is_of_type typ c)
meets_test (test.Stream stream) c = is_on_stream stream c
meets_test (test.Tsn tsn) c = has_tsn tsn c
meets_test (test.Ppid ppid) c = has_ppid ppid c
meets_test test.UserData c = is_user_data c
meets_test test.Control c = is_control c
meets_test test.NoUserData c = has_no_user_data c
meets_test test.StandsAlone c = stands_alone c
meets_test test.NoInitiateTag c = has_no_initiate_tag c
meets_test test.NoStreams c = has_no_streams c
meets_test test.SmallWindow c = has_small_window c
meets_test test.NeedsChecksum c = needs_checksum c
meets_test test.WrongBlocks c = has_wrong_blocks c
meets_test test.ReservedFlag c = has_reserved_flag c
meets_test test.NoCookie c = has_no_cookie c
meets_test test.NoHeartbeatInfo c = has_no_heartbeat_info c
meets_test test.StaleCookieError c = is_stale_cookie_error c

-- Of these chunks, some meets the test, and these follow the first that does; or none does.
abbrev pub IsFound : (Item → Bool) → List Item → Option code.Part → Type 0
IsFound test chunks (Some rest) =
    (list_any test chunks ≡ true) × (after_first test chunks ≡ items_of (part_of rest))
IsFound test chunks None = (list_any test chunks ≡ false) × (after_first test chunks ≡ [])

-- COOKIE ECHO (RFC 9260 section 3.3.11): type 10, flags ignored; the value is the cookie, at least
-- one byte.
use Rattle.std.specs.{Prelude.{◌≢◌, ℕ, List, [], ◌++◌, ◌==◌, Result, Ok, Err, if◌then◌else◌, length, codes}, Fmt.{decimal}}
use Rattle.dcsctp_tlv.specs.Kind.{Fault, Length, AreBytes, Format, flagged_tlv, length-solid, Kind, plain_kind, Varied}
use Rattle.dcsctp_chunk.specs.declared.cookie_echo_chunk.CookieEchoChunk.{CookieEchoChunk}

abbrev pub read : List ℕ → Result (List ℕ) Fault
read value = if length value == 0 then Err Length else Ok value

abbrev pub format : List ℕ → Format
format cookie = record {
  tlv = flagged_tlv 10 0 (length cookie) cookie;
  sized = length-solid cookie;
  text = codes "COOKIE-ECHO, cookie=" ++ decimal (length cookie) ++ codes " bytes";
  IsInWidth = AreBytes cookie;
  IsWellFormed = cookie ≢ [];
}

abbrev pub view : CookieEchoChunk → List ℕ
view c = c.cookie.items

abbrev pub kind : Kind
kind = plain_kind 10 Varied (λ flags. read) format

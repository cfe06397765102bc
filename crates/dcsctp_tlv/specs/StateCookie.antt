-- State Cookie (RFC 9260 section 3.3.3.1.1): type 7; the value is the cookie, any bytes.
use Rattle.std.specs.{Prelude.{ℕ, List, ◌++◌, Result, Ok, length, codes}, Fmt.{decimal}}
use Rattle.dcsctp_tlv.specs.{Kind.{Fault, AreBytes, Format, sized_tlv, length-solid, Kind, plain_kind, Varied}, declared.parameter.state_cookie_parameter.StateCookieParameter.{StateCookieParameter}}

abbrev pub read : List ℕ → Result (List ℕ) Fault
read value = Ok value

abbrev pub format : List ℕ → Format
format cookie = record {
  tlv = sized_tlv 7 (length cookie) cookie;
  sized = length-solid cookie;
  text = codes "State cookie, cookie_length=" ++ decimal (length cookie);
  IsInWidth = AreBytes cookie;
  IsWellFormed = Unit {0};
}

abbrev pub view : StateCookieParameter → List ℕ
view p = p.cookie.items

abbrev pub kind : Kind
kind = plain_kind 7 Varied (λ flags. read) format

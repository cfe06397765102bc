-- State Cookies (RFC 9260 section 5.1.3) and the association shared key (RFC 4895 section 6.1), as
-- a C program passes and gets them.
use Rattle.std.specs.Prelude.{◌≡◌, ◌+◌, ◌≤◌, ◌<◌, ℕ, nat_le, if◌then◌else◌, List, Some}
use Rattle.dcsctp_receive.specs.Cookie.{CookieTree}
use Rattle.dcsctp_c.specs.{Code.{no_room_code}, Part.{part_at}}
use Rattle.dcsctp_c.specs.declared.structs.DcsctpCookie.{DcsctpCookie}

-- 0, or the code of an output that has no room for these bytes
abbrev pub room_code : ℕ → ℕ → ℕ
room_code needed room = if nat_le needed room then 0 else no_room_code

-- the struct's numbers, and these further bytes
abbrev pub cookie_tree : DcsctpCookie → List ℕ → CookieTree
cookie_tree c extra = record {
  created = c.created;
  lifespan = c.lifespan;
  local_tag = c.local_tag;
  peer_tag = c.peer_tag;
  local_tie_tag = c.local_tie_tag;
  peer_tie_tag = c.peer_tie_tag;
  local_initial_tsn = c.local_initial_tsn;
  peer_initial_tsn = c.peer_initial_tsn;
  local_port = c.local_port;
  peer_port = c.peer_port;
  outbound_streams = c.outbound_streams;
  inbound_streams = c.inbound_streams;
  extra = extra;
}

-- the struct holds the cookie, whose further bytes lie in these
pub record HoldsCookie (bytes : List ℕ) (tree : CookieTree) (c : DcsctpCookie) : Type 0 where
  pub numbers : cookie_tree c tree.extra ≡ tree
  pub extra : part_at bytes c.extra_offset c.extra_size ≡ Some tree.extra

-- What the call wrote and returned of a cookie at a time: the cookie, and for how many microseconds
-- it hasn't been good; 0 while it is good, and then 1.
pub data Opens (bytes : List ℕ) (tree : CookieTree) (now : ℕ) (new : DcsctpCookie)
    (staleness code : ℕ) : Type 0 where
  good : now ≤ tree.created + tree.lifespan → HoldsCookie bytes tree new → staleness ≡ 0
      → code ≡ 0 → Opens bytes tree now new staleness code
  stale : 0 < staleness → now ≡ tree.created + tree.lifespan + staleness
      → HoldsCookie bytes tree new → code ≡ 1 → Opens bytes tree now new staleness code

-- The cookie of COOKIE ECHO (RFC 9260 section 3.3.11), read in its bytes.
use Rattle.std.specs.{Prelude.{◌==◌, ℕ, List, if◌then◌else◌, Option, Some, None}, Result.{result_ok}}
use Rattle.dcsctp_chunk.specs.CookieEcho as cookie_kind
use Rattle.dcsctp_wire.specs.Chunk.{ChunkTree, CookieEcho}

-- the cookie of a COOKIE ECHO; nothing of any other chunk
abbrev pub cookie_of : ChunkTree → Option (List ℕ)
cookie_of (CookieEcho cookie) = Some cookie
cookie_of t = None

-- What a chunk of this type with this value reads as; nothing where it has another type, or no
-- cookie.
abbrev pub read_cookie : ℕ → List ℕ → Option (List ℕ)
read_cookie typ value = if typ == 10 then result_ok (cookie_kind.read value) else None

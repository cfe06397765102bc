-- State Cookies (RFC 9260 section 5.1.3): a MAC, and after it what it authenticates.
--
--   | MAC, 32 bytes | created u64 | lifespan u64 | tags u32 u32 | Tie-Tags u32 u32
--   | initial TSNs u32 u32 | ports u16 u16 | streams u16 u16 | extra .. |
use Rattle.std.specs.Prelude.{◌≡◌, ℕ, ◌+◌, ◌<◌, ◌≤◌, ◌^◌, List, [], ◌∷◌, ◌++◌, drop, take}
use Rattle.std.specs.Int.{w16, w32, w64}
use Rattle.dcsctp_tlv.specs.Number.{number16, number32, number64, numbers}
use Rattle.dcsctp_receive.specs.declared.cookie.{StateCookie.{StateCookie}, OpenedCookie.{OpenedCookie}, OpenedCookie.TheVariants.{Valid, Stale, Invalid}}
use Rattle.dcsctp_receive.specs.declared.hmac.HashFunction.TheVariants.{Sha256}
use Rattle.dcsctp_receive.specs.Hmac.{hmac}

-- ---- cookies as plain data

-- What a cookie says. Times are in microseconds.
pub record CookieTree : Type 0 where
  pub created : ℕ
  pub lifespan : ℕ
  pub local_tag : ℕ
  pub peer_tag : ℕ
  pub local_tie_tag : ℕ
  pub peer_tie_tag : ℕ
  pub local_initial_tsn : ℕ
  pub peer_initial_tsn : ℕ
  pub local_port : ℕ
  pub peer_port : ℕ
  pub outbound_streams : ℕ
  pub inbound_streams : ℕ
  pub extra : List ℕ

-- the struct
abbrev pub view : StateCookie → CookieTree
view c =
    record {
      created = c.created;
      lifespan = c.lifespan;
      local_tag = c.local_tag;
      peer_tag = c.peer_tag;
      local_tie_tag = c.local_tie_tag;
      peer_tie_tag = c.peer_tie_tag;
      local_initial_tsn = c.local_initial_tsn;
      peer_initial_tsn = c.peer_initial_tsn;
      local_port = c.local_port;
      peer_port = c.peer_port;
      outbound_streams = c.outbound_streams;
      inbound_streams = c.inbound_streams;
      extra = c.extra.now;
    }

-- each number is small enough for its field
pub record IsInWidth (c : CookieTree) : Type 0 where
  pub created : c.created < 2 ^ 64
  pub lifespan : c.lifespan < 2 ^ 64
  pub local_tag : c.local_tag < 2 ^ 32
  pub peer_tag : c.peer_tag < 2 ^ 32
  pub local_tie_tag : c.local_tie_tag < 2 ^ 32
  pub peer_tie_tag : c.peer_tie_tag < 2 ^ 32
  pub local_initial_tsn : c.local_initial_tsn < 2 ^ 32
  pub peer_initial_tsn : c.peer_initial_tsn < 2 ^ 32
  pub local_port : c.local_port < 2 ^ 16
  pub peer_port : c.peer_port < 2 ^ 16
  pub outbound_streams : c.outbound_streams < 2 ^ 16
  pub inbound_streams : c.inbound_streams < 2 ^ 16

-- ---- the bytes of a cookie

-- the numbers
abbrev pub fixed_bytes : CookieTree → List ℕ
fixed_bytes c =
    numbers w64 (c.created ∷ c.lifespan ∷ [])
    ++ (numbers w32 (c.local_tag ∷ c.peer_tag ∷ c.local_tie_tag ∷ c.peer_tie_tag
    ∷ c.local_initial_tsn ∷ c.peer_initial_tsn ∷ [])
    ++ numbers w16 (c.local_port ∷ c.peer_port ∷ c.outbound_streams ∷ c.inbound_streams ∷ []))

-- what the MAC authenticates
abbrev pub body : CookieTree → List ℕ
body c = fixed_bytes c ++ c.extra

-- the cookie under a key
abbrev pub cookie_bytes : List ℕ → CookieTree → List ℕ
cookie_bytes key c = hmac Sha256 key (body c) ++ body c

-- what these bytes say, if they are a body: only private functions cite it
abbrev pub body_read : List ℕ → CookieTree
body_read bytes =
    record {
      created = number64 bytes;
      lifespan = number64 (drop 8 bytes);
      local_tag = number32 (drop 16 bytes);
      peer_tag = number32 (drop 20 bytes);
      local_tie_tag = number32 (drop 24 bytes);
      peer_tie_tag = number32 (drop 28 bytes);
      local_initial_tsn = number32 (drop 32 bytes);
      peer_initial_tsn = number32 (drop 36 bytes);
      local_port = number16 (drop 40 bytes);
      peer_port = number16 (drop 42 bytes);
      outbound_streams = number16 (drop 44 bytes);
      inbound_streams = number16 (drop 46 bytes);
      extra = drop 48 bytes;
    }

-- ---- opening

-- The answer to a cookie at a time (section 5.1.5): stale once more time has passed than its
-- lifespan. How much more, in microseconds, is the Measure of Staleness (section 3.3.10.3).
abbrev pub Answers : CookieTree → ℕ → OpenedCookie → Type 0
Answers c now (Valid opened) = (view opened ≡ c) × (now ≤ c.created + c.lifespan)
Answers c now (Stale opened over) =
    (view opened ≡ c) × (0 < over) × (now ≡ c.created + c.lifespan + over)
Answers c now Invalid = ⊥

-- what opens, or did before it was stale, begins with the MAC over the rest of it
abbrev pub IsAuthentic : List ℕ → List ℕ → Type 0
IsAuthentic key bytes = take 32 bytes ≡ hmac Sha256 key (drop 32 bytes)

abbrev pub IfOpened : OpenedCookie → (StateCookie → Type 0) → Type 0
IfOpened (Valid cookie) holds = holds cookie
IfOpened (Stale cookie over) holds = holds cookie
IfOpened Invalid holds = Unit {0}

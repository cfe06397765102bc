-- Authenticated chunks (RFC 4895 sections 3.2, 5.1, 6.2 and 6.3).
use Rattle.std.specs.Prelude.{◌≡◌, ◌≢◌, ℕ, ◌+◌, ◌≤◌, Contains, List, ◌++◌, drop, length, replicate, slice_index, take}
use Rattle.dcsctp_tlv.specs.Number.{number16}
use Rattle.dcsctp_receive.specs.declared.hmac.{HashFunction.{HashFunction}, HashFunction.TheVariants.{Sha1, Sha256}}
use Rattle.dcsctp_receive.specs.Hmac.{digest_size, hmac, hmac_identifier}

-- ---- section 3.2: the Chunk List

-- A chunk of this type has to come after an AUTH chunk: the list has it, and it isn't one of those
-- that a list must not have, which are ignored there: INIT, INIT ACK, SHUTDOWN COMPLETE and AUTH.
pub record IsListed (list : List ℕ) (typ : ℕ) : Type 0 where
  pub listed : Contains list typ
  pub not_init : typ ≢ 1
  pub not_init_ack : typ ≢ 2
  pub not_shutdown_complete : typ ≢ 14
  pub not_auth : typ ≢ 15

-- ---- sections 3.3 and 5.1: the AUTH chunk

-- The bytes begin with an AUTH chunk with an HMAC of this hash function, whatever its flags, its
-- Shared Key Identifier and its HMAC.
pub record BeginsWithAuth (function : HashFunction) (bytes : List ℕ) : Type 0 where
  pub size : 8 + digest_size function ≤ length bytes
  pub typ : slice_index bytes 0 ≡ 15
  pub chunk_length : number16 (drop 2 bytes) ≡ 8 + digest_size function
  pub identifier : number16 (drop 6 bytes) ≡ hmac_identifier function

-- ---- sections 6.2 and 6.3: what is authenticated

-- the AUTH chunk with its HMAC field set to zero, and all chunks after it
abbrev pub auth_data : HashFunction → List ℕ → List ℕ
auth_data function bytes =
    take 8 bytes ++ (replicate (digest_size function) 0 ++ drop (8 + digest_size function) bytes)

-- the HMAC field
abbrev pub hmac_field : HashFunction → List ℕ → List ℕ
hmac_field function bytes = take (digest_size function) (drop 8 bytes)

-- the bytes begin with an AUTH chunk whose HMAC is right under the association shared key
pub record IsSigned (function : HashFunction) (key bytes : List ℕ) : Type 0 where
  pub auth : BeginsWithAuth function bytes
  pub right : hmac_field function bytes ≡ hmac function key (auth_data function bytes)

abbrev pub IsAuthenticated : List ℕ → List ℕ → Type 0
IsAuthenticated key bytes = (function : HashFunction) × IsSigned function key bytes

-- The bytes begin with an AUTH chunk of another HMAC Identifier, with which "an ERROR chunk SHOULD be
-- sent with the error cause defined in Section 4.1".
pub record HasUnknownHmac (bytes : List ℕ) : Type 0 where
  pub typ : slice_index bytes 0 ≡ 15
  pub numbers : 8 ≤ number16 (drop 2 bytes)
  pub whole : number16 (drop 2 bytes) ≤ length bytes
  pub not_sha1 : number16 (drop 6 bytes) ≢ hmac_identifier Sha1
  pub not_sha256 : number16 (drop 6 bytes) ≢ hmac_identifier Sha256

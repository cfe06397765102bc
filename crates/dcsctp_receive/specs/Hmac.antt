-- HMAC (RFC 2104) over SHA-1 and SHA-256 (FIPS 180-4).
use Rattle.std.specs.Prelude.{◌≡◌, ℕ, ◌-◌, List, ◌++◌, bit_xor, length, map, nat_lt, replicate, if◌then◌else◌}
use Rattle.sha1.specs.Sha1.{sha1, Holds}
use Rattle.sha2.specs.{Sha256.{sha256}, Hashers.{Holds256}}
use Rattle.dcsctp_receive.specs.declared.hmac.{HashFunction.{HashFunction}, HashFunction.TheVariants.{Sha1, Sha256}, Hasher.{Hasher}, Hasher.TheVariants.{Sha1 as Sha1Hasher, Sha256 as Sha256Hasher}, Hmac.{Hmac}, Mac.{Mac}, Mac.TheVariants.{Sha1 as Sha1Mac, Sha256 as Sha256Mac}}

-- ---- section 2: hash functions, keys and pads

-- H: the digest of a text
abbrev pub digest : HashFunction → List ℕ → List ℕ
digest Sha1 text = sha1 text
digest Sha256 text = sha256 text

-- B: the bytes of a block, of both hash functions
abbrev pub block_size : ℕ
block_size = 64

-- L: the bytes of a digest
abbrev pub digest_size : HashFunction → ℕ
digest_size Sha1 = 20
digest_size Sha256 = 32

-- the HMAC Identifier (RFC 4895 section 3.3)
abbrev pub hmac_identifier : HashFunction → ℕ
hmac_identifier Sha1 = 1
hmac_identifier Sha256 = 3

-- K: a key that is longer than a block is hashed first
abbrev pub hashed_key : HashFunction → List ℕ → List ℕ
hashed_key function key = if nat_lt block_size (length key) then digest function key else key

-- step 1: K with zeros appended up to a block
abbrev pub block_key : HashFunction → List ℕ → List ℕ
block_key function key =
    hashed_key function key ++ replicate (block_size - length (hashed_key function key)) 0

-- the byte that ipad repeats
abbrev pub ipad : ℕ
ipad = 0x36

-- the byte that opad repeats
abbrev pub opad : ℕ
opad = 0x5C

-- steps 2 and 5: a block XOR a pad
abbrev pub padded : ℕ → List ℕ → List ℕ
padded pad block = map (λ byte. bit_xor byte pad) block

-- H(K XOR opad, H(K XOR ipad, text))
abbrev pub hmac : HashFunction → List ℕ → List ℕ → List ℕ
hmac function key text =
    digest function (padded opad (block_key function key)
    ++ digest function (padded ipad (block_key function key) ++ text))

-- ---- the structs

abbrev pub mac_bytes : Mac → List ℕ
mac_bytes (Sha1Mac bytes) = bytes
mac_bytes (Sha256Mac bytes) = bytes

-- the hasher holds this text under this hash function
abbrev pub Hashes : Hasher → HashFunction → List ℕ → Type 0
Hashes (Sha1Hasher hasher) function text = (function ≡ Sha1) × Holds hasher text
Hashes (Sha256Hasher hasher) function text = (function ≡ Sha256) × Holds256 hasher text

-- the HMAC of this text under this key has been begun
pub record IsHmacOf (h : Hmac) (function : HashFunction) (key text : List ℕ) : Type 0 where
  pub inner : Hashes h.inner function (padded ipad (block_key function key) ++ text)
  pub outer : Hashes h.outer function (padded opad (block_key function key))

-- An HMAC has as many bytes as its hash function's digest.
use Rattle.std.proofs.Common.{◌≡◌, ℕ, List, length, refl}
use Rattle.sha1.specs.Sha1.{sha1, digest_bytes as digest_bytes_1}
use Rattle.sha2.specs.Sha256.{sha256, digest_bytes}
use Rattle.dcsctp_receive.specs.declared.hmac.{HashFunction.{HashFunction}, HashFunction.TheVariants.{Sha1, Sha256}}
use Rattle.dcsctp_receive.specs.Hmac.{digest_size, hmac}

length-sha1 : (text : List ℕ) → length (sha1 text) ≡ 20
unfolding sha1 digest_bytes_1
length-sha1 text = refl

length-sha256 : (text : List ℕ) → length (sha256 text) ≡ 32
unfolding sha256 digest_bytes
length-sha256 text = refl

pub length-hmac : (function : HashFunction) (key text : List ℕ)
    → length (hmac function key text) ≡ digest_size function
length-hmac Sha1 key text = length-sha1 _
length-hmac Sha256 key text = length-sha256 _

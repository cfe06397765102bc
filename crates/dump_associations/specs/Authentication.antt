-- What is found of AUTH in a packet (RFC 4895 sections 5.1, 6.1 and 6.3).
use Rattle.std.specs.Prelude.{◌≡◌, ◌≢◌, ◌==◌, ◌++◌, ◌≤◌, ◌⊎◌, Bool, true, false, ℕ, nat_le, if◌then◌else◌, List, length, take, drop, Option, Some, None}
use Rattle.dcsctp_tlv.specs.Number.{number16, number32}
use Rattle.dcsctp_borrowed.specs.Part.{Part, begins_with_item, first_item, after_item}
use Rattle.dcsctp_receive.specs.Auth.{IsAuthenticated}
use Rattle.dcsctp_receive.specs.Hmac.{hmac_identifier}
use Rattle.dcsctp_receive.specs.SharedKey.{ComesFirst}
use Rattle.dcsctp_receive.specs.declared.hmac.HashFunction.{HashFunction}
use Rattle.dump_packet.specs.SeenPackets.{packet_of}
use Rattle.dump_associations.specs.declared.authentication.AuthVerdict.{AuthVerdict}
use Rattle.dump_associations.specs.declared.authentication.AuthVerdict.TheVariants.{Right, Wrong, Unknown}
use Rattle.dump_packet.specs.declared.seen_packet.SeenPacket.{SeenPacket}
use Rattle.dump_associations.specs.declared.authentication.key_vector.KeyVector.{KeyVector}
use Rattle.dump_associations.specs.declared.authentication.key_vectors.KeyVectors.{KeyVectors}
use Rattle.dump_packet.specs.declared.pair_key.PairKey.{PairKey}

-- ---- section 6.1: keys

abbrev pub pair_bytes : PairKey → List ℕ
pair_bytes key = take key.size key.bytes

abbrev pub vector_bytes : KeyVector → List ℕ
vector_bytes vector = take vector.size vector.bytes

-- The HMAC of the AUTH chunk at the front is right under the association shared key of this
-- endpoint pair shared key and these key vectors.
pub record IsRightUnder (pair_key one other bytes : List ℕ) : Type 0 where
  pub one_first : ComesFirst one other → IsAuthenticated (pair_key ++ (one ++ other)) bytes
  pub other_first : ComesFirst other one → IsAuthenticated (pair_key ++ (other ++ one)) bytes

-- an end that sent this key vector, if it is one, made it right
abbrev pub IsRightBy : PairKey → Option KeyVector → KeyVector → List ℕ → Type 0
IsRightBy key (Some own) theirs bytes =
    IsRightUnder (pair_bytes key) (vector_bytes own) (vector_bytes theirs) bytes
IsRightBy key None theirs bytes = ⊥

-- one of the key vectors of its sender that are kept makes it right
abbrev pub IsRight : PairKey → KeyVectors → KeyVector → List ℕ → Type 0
IsRight key sender theirs bytes =
    IsRightBy key sender.last theirs bytes ⊎ IsRightBy key sender.before theirs bytes

-- the sender has a key vector, and all are kept
pub record AreAllKept (sender : KeyVectors) : Type 0 where
  pub others : sender.has_others ≡ false
  pub last : sender.last ≢ None

-- the key vector that the tag chooses: the last one that came with it
abbrev pub has_tag : ℕ → Option KeyVector → Bool
has_tag tag (Some vector) = vector.tag == tag
has_tag tag None = false

abbrev pub with_tag : ℕ → KeyVectors → Option KeyVector
with_tag tag vectors =
    if has_tag tag vectors.last then vectors.last else
    if has_tag tag vectors.before then vectors.before else None

-- ---- sections 5.1 and 6.3: the verdict

-- the AUTH chunk at the front names this key, and the HMAC of SHA-1 or SHA-256
pub record IsJudged (identifier : ℕ) (bytes : List ℕ) : Type 0 where
  pub size : 8 ≤ length bytes
  pub key : number16 (drop 4 bytes) ≡ identifier
  pub hash : (function : HashFunction) × (number16 (drop 6 bytes) ≡ hmac_identifier function)

abbrev pub IsFound : PairKey → KeyVectors → KeyVector → List ℕ → AuthVerdict → Type 0
IsFound key sender theirs bytes Right =
    IsJudged key.identifier bytes × IsRight key sender theirs bytes
IsFound key sender theirs bytes Wrong =
    IsJudged key.identifier bytes × ¬ (IsRight key sender theirs bytes) × AreAllKept sender
IsFound key sender theirs bytes Unknown =
    IsJudged key.identifier bytes → ¬ (IsRight key sender theirs bytes) × ¬ (AreAllKept sender)

-- nothing is found without the key, or the receiver's key vector
abbrev pub IsVerdict :
    Option PairKey → KeyVectors → Option KeyVector → List ℕ → AuthVerdict → Type 0
IsVerdict (Some key) sender (Some theirs) bytes verdict = IsFound key sender theirs bytes verdict
IsVerdict (Some _) sender None bytes verdict = verdict ≡ Unknown
IsVerdict None sender theirs bytes verdict = verdict ≡ Unknown

-- ---- in a packet

-- what begins with the first AUTH chunk, if there is one
pub data FirstAuth : Part → Option Part → Type 0 where
  here : (p : Part) → begins_with_item p ≡ true → (first_item p).first ≡ 15 → FirstAuth p (Some p)
  later : (p : Part) (auth : Option Part) → begins_with_item p ≡ true → (first_item p).first ≢ 15
      → FirstAuth (after_item p) auth → FirstAuth p auth
  none : (p : Part) → begins_with_item p ≡ false → FirstAuth p None

-- the key, for a packet of which all was captured
abbrev pub key_for : SeenPacket → Option PairKey
key_for packet =
    if nat_le packet.found.length (length packet.found.packet.now) then packet.key else None

-- the Verification Tag of a packet
abbrev pub tag_of : SeenPacket → ℕ
tag_of packet = number32 (drop 4 packet.found.packet.now)

abbrev pub IsVerdictOn :
    SeenPacket → KeyVectors → Option KeyVector → Option Part → Option AuthVerdict → Type 0
IsVerdictOn packet sender theirs (Some auth) (Some verdict) =
    IsVerdict (key_for packet) sender theirs auth.bytes verdict
IsVerdictOn packet sender theirs (Some auth) None = ⊥
IsVerdictOn packet sender theirs None (Some verdict) = ⊥
IsVerdictOn packet sender theirs None None = Unit {0}

-- what is found of the first AUTH chunk of a packet that an end with these key vectors sent to one
-- with this one
abbrev pub IsVerdictIn : SeenPacket → KeyVectors → Option KeyVector → Option AuthVerdict → Type 0
IsVerdictIn packet sender theirs verdict =
    (auth : Option Part) × FirstAuth (packet_of packet).chunks auth
    × IsVerdictOn packet sender theirs auth verdict

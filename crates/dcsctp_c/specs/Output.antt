-- What a call does that writes a form of a packet (RFC 9260 section 3) over the front of an output,
-- and the form's size beside it.
use Rattle.std.specs.Prelude.{◌≡◌, ◌<◌, ⊤, ℕ, List, ◌++◌, Ok, Err, length, drop}
use Rattle.dcsctp_wire.specs.{Canonical.{canonical, Fits}, Packet.{PacketTree, PacketFault, Answer}, PacketText.{packet_text}, declared.packet.sctp_packet.ChecksumPolicy.{ChecksumPolicy}}
use Rattle.dcsctp_c.specs.Code.{fault_code, no_memory_code, no_room_code, too_long_code}

-- the canonical packet, of a packet that has one
abbrev pub IsCanonical : PacketTree → List ℕ → Type 0
IsCanonical p form = Fits p.meaning × (form ≡ canonical p.meaning)

-- the printed text
abbrev pub IsText : PacketTree → List ℕ → Type 0
IsText p form = form ≡ packet_text p

-- a text of which no clause says more
abbrev pub IsAnyText : PacketTree → List ℕ → Type 0
IsAnyText p form = ⊤

-- an output, and the size that is written beside it
pub record Output : Type 0 where
  pub bytes : List ℕ
  pub size : ℕ

-- The form and its size are written, and what follows the form stays. Or the output stays: an
-- allocation failed; or the form has no room, and only its size is written; or there is no form.
pub data Writes (IsForm : List ℕ → Type 0) (old new : Output) (code : ℕ) : Type 0 where
  written : (form : List ℕ) → IsForm form → code ≡ 0 → new.size ≡ length form
      → new.bytes ≡ form ++ drop (length form) old.bytes → Writes IsForm old new code
  no_memory : code ≡ no_memory_code → new ≡ old → Writes IsForm old new code
  no_room : (form : List ℕ) → IsForm form → length old.bytes < length form → code ≡ no_room_code
      → new ≡ record old { size = length form } → Writes IsForm old new code
  no_form : ((form : List ℕ) → ¬ IsForm form) → code ≡ too_long_code → new ≡ old
      → Writes IsForm old new code

-- The same of the packet that the bytes are; or they have a fault, and nothing is written.
pub data WritesPacket (IsForm : PacketTree → List ℕ → Type 0) (bytes : List ℕ) (word : ℕ)
    (policy : ChecksumPolicy) (old new : Output) (code : ℕ) : Type 0 where
  packet : (p : PacketTree) → Answer bytes word policy (Ok p) → Writes (IsForm p) old new code
      → WritesPacket IsForm bytes word policy old new code
  faulty : (e : PacketFault) → Answer bytes word policy (Err e) → code ≡ fault_code e → new ≡ old
      → WritesPacket IsForm bytes word policy old new code

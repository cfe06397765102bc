-- What the program answers an input with: a text and a status.
use Rattle.std.specs.Prelude.{◌≡◌, ◌↔◌, ◌≤◌, ◌<◌, ◌⊎◌, ℕ, ◌||◌, ◌==◌, Bool, true, false, not, List, ◌++◌, length, take, codes, Option, Some, Result, Ok, Err, IsErr, IfSome}
use Rattle.std.specs.List.{filter}
use Rattle.std.specs.Io.KnownBytes.{Consumes, Appends}
use Rattle.dump_io.specs.Watched.{Change}
use Rattle.dump_io.specs.Transfer.{TakesAtMost, AppendsBeginning}
use Rattle.hex.specs.Hex.{decode_of, encode_lower}
use Rattle.dcsctp_wire.specs.declared.packet.sctp_packet.ChecksumPolicy.{ChecksumPolicy}
use Rattle.dcsctp_wire.specs.Packet.{Meaning, PacketTree, PacketFault, Size, Checksum, Chunk, Answer}
use Rattle.dcsctp_wire.specs.Fault.{Length, Padding, Value}
use Rattle.dcsctp_wire.specs.Canonical.{canonical, Fits}
use Rattle.dcsctp_wire.specs.PacketText.{packet_text}

---- the text of a packet

-- the canonical packet in hexadecimal, or that it doesn't fit
pub data CanonicalLine (m : Meaning) (line : List ℕ) : Type 0 where
  fits : Fits m → line ≡ codes "canonical=" ++ encode_lower (canonical m) ++ codes "\n"
      → CanonicalLine m line
  unfit : ¬ Fits m → line ≡ codes "canonical too long\n" → CanonicalLine m line

-- a packet's header line, a line for each chunk, and its canonical line
abbrev pub PacketText : PacketTree → List ℕ → Type 0
PacketText p text =
    (last : List ℕ) × CanonicalLine p.meaning last
    × (text ≡ packet_text p ++ codes "\n" ++ last)

---- the answer to an input

-- a fault is answered by its line alone, and status 1
abbrev pub fault : List ℕ → List ℕ × ℕ
fault line = (line, 1)

abbrev pub fault_line : PacketFault → List ℕ
fault_line Size = codes "error: invalid packet size\n"
fault_line Checksum = codes "error: invalid checksum\n"
fault_line (Chunk Length) = codes "error: invalid chunk: length\n"
fault_line (Chunk Padding) = codes "error: invalid chunk: padding\n"
fault_line (Chunk Value) = codes "error: invalid chunk: value\n"

-- what is printed of the library's answer: of a packet its text, with status 0
abbrev pub Tells : Result PacketTree PacketFault → List ℕ × ℕ → Type 0
Tells (Ok p) answer = (text : List ℕ) × PacketText p text × (answer ≡ (text, 0))
Tells (Err e) answer = answer ≡ fault (fault_line e)

-- a space, a tab, a carriage return or a line feed
abbrev pub is_blank : ℕ → Bool
is_blank byte = byte == 32 || byte == 9 || byte == 13 || byte == 10

-- the text with its blanks left out
abbrev pub without_blanks : List ℕ → List ℕ
without_blanks text = filter (λ byte. not (is_blank byte)) text

-- the policy under which any checksum is accepted, and which looks at padding where it is strict
abbrev pub unverified : Bool → ChecksumPolicy
unverified strict = record {
  disable_checksum_verification = true;
  zero_checksum_alternate_error_detection_method = record { 0 = 0 };
  strict_padding = strict;
}

-- the input is answered with this text and status, where no device fails and memory lasts: the
-- first of the rules that applies decides
pub data Shows (strict : Bool) (input : List ℕ) (answer : List ℕ × ℕ) : Type 0 where
  too_long : 200000 < length input → answer ≡ fault (codes "error: input too long\n")
      → Shows strict input answer
  not_hexadecimal : length input ≤ 200000 → IsErr (decode_of (without_blanks input))
      → answer ≡ fault (codes "error: not hexadecimal\n") → Shows strict input answer
  packet : length input ≤ 200000 → (bytes : List ℕ) → decode_of (without_blanks input) ≡ Ok bytes
      → (read : Result PacketTree PacketFault) → Answer bytes 0 (unverified strict) read
      → Tells read answer → Shows strict input answer

abbrev pub out_of_memory : List ℕ × ℕ
out_of_memory = fault (codes "error: out of memory\n")

-- the input's answer, or that memory ran out
abbrev pub MayShow : Bool → List ℕ → List ℕ × ℕ → Type 0
MayShow strict input answer = Shows strict input answer ⊎ (answer ≡ out_of_memory)

---- the answer of a run

abbrev pub read_failed : List ℕ × ℕ
read_failed = fault (codes "error: read failed\n")

-- the answer that a run may have: that of a failed read where one failed, and else that of no
-- memory, or that to the input, which is all that the reader had, where that is known, and of
-- which it gave the first 200,001 bytes
abbrev pub MayAnswer : Bool → Bool → Option (List ℕ) → Option (List ℕ) → List ℕ × ℕ → Type 0
MayAnswer strict true known left answer = answer ≡ read_failed
MayAnswer strict false known left answer =
    (answer ≡ out_of_memory)
    ⊎ ((input : List ℕ) × IfSome known (λ all. input ≡ all)
    × Consumes known left (take 200001 input) × Shows strict input answer)

-- the run wrote the whole answer after what the writer held, and has its status
abbrev pub Writes : List ℕ × ℕ → ℕ → Option (List ℕ) → Option (List ℕ) → Type 0
Writes answer status old new = (status ≡ answer.1) × Appends old new answer.0

-- the run wrote a beginning of the answer after what the writer held, and has status 2
abbrev pub WritesBeginning : List ℕ × ℕ → ℕ → Option (List ℕ) → Option (List ℕ) → Type 0
WritesBeginning answer status old new =
    (status ≡ 2) × AppendsBeginning old new answer.0

-- what a run did, of either program: to its reader, its writer, and its status
pub record Runs (strict : Bool) (input output : Change) (result : ℕ) : Type 0 where
  -- The input is read once, from its front on, and no further than shows that it is too long.
  pub at_most : TakesAtMost 200001 input.old input.new
  -- Where no device fails, the output and the status are those of the input, or memory ran out.
  pub shown : input.began_failed ≡ false → output.began_failed ≡ false → input.failed ≡ false
      → output.failed ≡ false → IfSome input.old (λ all. (answer : List ℕ × ℕ)
      × MayShow strict all answer × Writes answer result output.old output.new)
  -- Each input has an answer, and no input has two.
  pub some_answer : (all : List ℕ) → (answer : List ℕ × ℕ) × Shows strict all answer
  pub one_answer : (all : List ℕ) (a b : List ℕ × ℕ) → Shows strict all a → Shows strict all b
      → a ≡ b
  -- A failed read is reported by its line alone, and no other run has that line alone and status 1.
  pub read_failed : input.began_failed ≡ false → output.began_failed ≡ false
      → output.failed ≡ false → IfSome output.old (λ held. ((result ≡ 1)
      × (output.new ≡ Some (held ++ codes "error: read failed\n"))) ↔ (input.failed ≡ true))
  -- Status 2 says that the output failed: what was written is then a beginning of an answer that
  -- the run could have had, and else the whole of one.
  pub status : output.began_failed ≡ false → (result ≡ 2) ↔ (output.failed ≡ true)
  pub whole : input.began_failed ≡ false → output.began_failed ≡ false → output.failed ≡ false
      → (answer : List ℕ × ℕ) × MayAnswer strict input.failed input.old input.new answer
      × Writes answer result output.old output.new
  pub cut : input.began_failed ≡ false → output.began_failed ≡ false → output.failed ≡ true
      → (answer : List ℕ × ℕ) × MayAnswer strict input.failed input.old input.new answer
      × WritesBeginning answer result output.old output.new
  -- Where the output didn't fail, what was written is flushed.
  pub flushed : output.failed ≡ false → output.flushed ≡ true

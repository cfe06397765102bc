-- What was read answers for the input.
use Rattle.std.proofs.Common.{◌≡◌, ◌<◌, ◌≤◌, inl, inr, ℕ, Bool, true, false, List, [], ◌++◌, length, Option, Some, None, Result, Ok, Err, IsErrAnd, IfSome, String, Global, ◌⊎◌, ◌↔◌, refl, sym, subst, ap, ◌∙◌, arith, append-nil, get_or, lit<, take}
use Rattle.std.proofs.lemmas.List.{append_cancel_left, take_all, take-append-le, length-take}
use Rattle.std.proofs.lemmas.Bool.{cases_lt}
use Rattle.std.specs.Io.KnownBytes.{Consumes, Appends, IsAtEnd}
use Rattle.hex.specs.Hex.{decode_of}
use Rattle.sctp_show.specs.declared.failure.Failure.{Failure}
use Rattle.sctp_show.specs.declared.failure.Failure.TheVariants.{OutOfMemory, Read}
use Rattle.dcsctp_wire.specs.declared.packet.sctp_packet.PacketParseError.{PacketParseError}
use Rattle.dcsctp_wire.specs.declared.packet.sctp_packet.SctpPacket.{SctpPacket}
use Rattle.dcsctp_wire.specs.Packet.{PacketTree, PacketFault, Size, Checksum, Chunk, Answer, packet_view, packet_error_of, packet_reading}
use Rattle.dcsctp_wire.specs.Reading.{Answers}
use Rattle.dcsctp_wire.specs.Fault.{Length, Padding, Value}
use Rattle.sctp_show.specs.Reply.{line_of, reply_of, packet_error_line}
use Rattle.sctp_show.specs.Show.{Writes, Shows, too_long, not_hexadecimal, packet, PacketText, Tells, fault, fault_line, unverified, without_blanks, MayShow, MayAnswer, read_failed, out_of_memory}

---- the answer to an input

-- what is replied to a failure that `?` passed on
pub reply_of-err : (r : Result (String Global) Failure) (failure : Failure)
    → IsErrAnd r (λ e. e ≡ failure) → fault (line_of failure) ≡ reply_of r
reply_of-err (Ok text) failure is = absurd is
reply_of-err (Err e) failure is = ap (λ (f : Failure). fault (line_of f)) (sym is)

-- the line of a fault's error is the fault's
line_of-fault : (e : PacketFault) → fault (packet_error_line (packet_error_of e))
    ≡ fault (fault_line e)
line_of-fault Size = refl
line_of-fault Checksum = refl
line_of-fault (Chunk Length) = refl
line_of-fault (Chunk Padding) = refl
line_of-fault (Chunk Value) = refl

-- a packet that isn't read
pub MayShow-no_packet : (strict : Bool) (input bytes : List ℕ) (e : PacketParseError)
    → length input ≤ 200000 → decode_of (without_blanks input) ≡ Ok bytes
    → Answers {X = SctpPacket} packet_reading packet_view (Answer bytes 0 (unverified strict))
    (Err e) → MayShow strict input (fault (packet_error_line e))
MayShow-no_packet strict input bytes e short is (inl f) =
    inl (packet short bytes is (Err f.0) f.2
    (ap (λ (x : PacketParseError). fault (packet_error_line x)) f.1 ∙ line_of-fault f.0))
MayShow-no_packet strict input bytes e short is (inr lacks) =
    inr (ap (λ (x : PacketParseError). fault (packet_error_line x)) lacks)

-- a packet and its text
pub MayShow-packet : (strict : Bool) (input bytes : List ℕ) (p : SctpPacket) (text : List ℕ)
    → length input ≤ 200000 → decode_of (without_blanks input) ≡ Ok bytes
    → Answer bytes 0 (unverified strict) (Ok (packet_view p)) → PacketText (packet_view p) text
    → MayShow strict input (text, 0)
MayShow-packet strict input bytes p text short is read shown =
    inl (packet short bytes is (Ok (packet_view p)) read (text, shown, refl))

---- from the first bytes to the input

front : (most : ℕ) (bytes rest : List ℕ) → length bytes ≤ most → (length bytes < most → rest ≡ [])
    → bytes ≡ take most (bytes ++ rest)
front most bytes rest fits end = elim (cases_lt (length bytes) most) [
  | inl less ↦ sym (ap (take most) (ap (λ l. bytes ++ l) (end less) ∙ append-nil bytes)
      ∙ take_all most bytes fits)
  | inr full ↦ sym (take-append-le most bytes rest full ∙ take_all most bytes fits)
]

-- what was read up to the end, or until there was no room, is the input's first bytes
pub first_bytes : (most : ℕ) (known left : Option (List ℕ)) (bytes : List ℕ)
    → Consumes known left bytes → length bytes ≤ most
    → (length bytes < most → IsAtEnd left) → IfSome known (λ all. bytes ≡ take most all)
first_bytes most None left bytes read fits end = tt
first_bytes most (Some all) None bytes read fits end = absurd read
first_bytes most (Some all) (Some rest) bytes read fits end =
    front most bytes rest fits end ∙ ap (take most) (sym read)

-- an input of which at most 200,000 bytes were found has no more
all_taken : (input : List ℕ) → length (take 200001 input) ≤ 200000 → take 200001 input ≡ input
all_taken input short = take_all 200001 input (omega (arith, length-take 200001 input))

-- what stands after the first 200,001 bytes changes nothing
pub Shows-take : (strict : Bool) (input : List ℕ) (answer : List ℕ × ℕ)
    → Shows strict (take 200001 input) answer → Shows strict input answer
Shows-take strict input answer (too_long long e) =
    too_long (omega (arith, length-take 200001 input)) e
Shows-take strict input answer (not_hexadecimal short bad e) =
    subst (λ i. Shows strict i answer) (all_taken input short) (not_hexadecimal short bad e)
Shows-take strict input answer (packet short bytes is read answers told) =
    subst (λ i. Shows strict i answer) (all_taken input short) (packet short bytes is read answers
    told)

pub MayAnswer-shown : (strict : Bool) (failed : Bool) (known left : Option (List ℕ))
    (bytes : List ℕ) (answer : List ℕ × ℕ)
    → (failed ≡ true → ⊥) → Consumes known left bytes
    → IfSome known (λ all. bytes ≡ take 200001 all) → length bytes ≤ 200001
    → MayShow strict bytes answer → MayAnswer strict failed known left answer
MayAnswer-shown strict true known left bytes answer works read first fits shown =
    absurd (works refl)
MayAnswer-shown strict false known left bytes answer works read first fits (inr memory) = inl memory
MayAnswer-shown strict false None left bytes answer works read first fits (inl shown) =
    inr (bytes, tt, tt, shown)
MayAnswer-shown strict false (Some all) None bytes answer works read first fits (inl shown) =
    absurd read
MayAnswer-shown strict false (Some all) (Some rest) bytes answer works read first fits (inl shown) =
    inr (
      all,
      refl,
      read ∙ ap (λ l. l ++ rest) first,
      Shows-take strict all answer
          (subst (λ i. Shows strict i answer) first shown),
    )

-- the input wasn't read: a read failed, or memory ran out
pub MayAnswer-unread : (strict : Bool) (failed : Bool) (known left : Option (List ℕ)) (e : Failure)
    → ((e ≡ Read) ↔ (failed ≡ true))
    → (e ≡ Read) ⊎ (e ≡ OutOfMemory) → MayAnswer strict failed known left (fault (line_of e))
MayAnswer-unread strict true known left e reads one =
    ap (λ (f : Failure). fault (line_of f)) (reads.1 refl)
MayAnswer-unread strict false known left e reads (inl read) = cc (reads.0 read)
MayAnswer-unread strict false known left e reads (inr memory) =
    inl (ap (λ (f : Failure). fault (line_of f)) memory)

---- the line of a failed read

-- the eighth byte of a line differs from that of a failed read
other_line : (line : List ℕ) (letter : ℕ) → get_or line 7 0 ≡ letter → (letter ≡ 114 → ⊥)
    → line ≡ read_failed.0 → ⊥
other_line line letter at other same = other (sym at ∙ ap (λ (l : List ℕ). get_or l 7 0) same)

differs : (letter : ℕ) → letter < 114 → letter ≡ 114 → ⊥
differs letter less same = omega arith

zero_not_one : (status : ℕ) → status ≡ 0 → status ≡ 1 → ⊥
zero_not_one status zero one = omega arith

-- the line of a failed read alone, with status 1
abbrev IsReadFailed : List ℕ × ℕ → Type 0
IsReadFailed answer = (answer.0 ≡ read_failed.0) × (answer.1 ≡ 1)

along : (answer is : List ℕ × ℕ) → answer ≡ is → IsReadFailed answer → IsReadFailed is
along answer is e h = subst IsReadFailed e h

not_read_failed-fault : (e : PacketFault) → IsReadFailed (fault (fault_line e)) → ⊥
not_read_failed-fault Size h = other_line _ 105 refl (differs 105 (lit< tt)) h.0
not_read_failed-fault Checksum h = other_line _ 105 refl (differs 105 (lit< tt)) h.0
not_read_failed-fault (Chunk Length) h = other_line _ 105 refl (differs 105 (lit< tt)) h.0
not_read_failed-fault (Chunk Padding) h = other_line _ 105 refl (differs 105 (lit< tt)) h.0
not_read_failed-fault (Chunk Value) h = other_line _ 105 refl (differs 105 (lit< tt)) h.0

not_read_failed-told : (read : Result PacketTree PacketFault) (answer : List ℕ × ℕ)
    → Tells read answer → IsReadFailed answer → ⊥
not_read_failed-told (Ok p) answer (text, told, e) h = zero_not_one 0 refl (along answer _ e h).1
not_read_failed-told (Err fault) answer e h = not_read_failed-fault fault (along answer _ e h)

not_read_failed-shown : (strict : Bool) (input : List ℕ) (answer : List ℕ × ℕ)
    → Shows strict input answer → IsReadFailed answer → ⊥
not_read_failed-shown strict input answer (too_long long e) h =
    other_line _ 105 refl (differs 105 (lit< tt)) (along answer _ e h).0
not_read_failed-shown strict input answer (not_hexadecimal short bad e) h =
    other_line _ 110 refl (differs 110 (lit< tt)) (along answer _ e h).0
not_read_failed-shown strict input answer (packet short bytes is read answers told) h =
    not_read_failed-told read answer told h

not_read_failed : (strict : Bool) (known left : Option (List ℕ)) (answer : List ℕ × ℕ)
    → MayAnswer strict false known left answer → IsReadFailed answer → ⊥
not_read_failed strict known left answer (inl e) h =
    other_line out_of_memory.0 111 refl (differs 111 (lit< tt)) (along answer _ e h).0
not_read_failed strict known left answer (inr (input, all, read, shown)) h =
    not_read_failed-shown strict input answer shown h

same_bytes : (now is : List ℕ) → Some now ≡ Some is → now ≡ is
same_bytes now is e = cc

-- the line of a failed read alone, and status 1, come if and only if a read failed
pub only_read_failed : (strict : Bool) (failed : Bool) (known left old new : Option (List ℕ))
    (answer : List ℕ × ℕ) (status : ℕ)
    → MayAnswer strict failed known left answer → status ≡ answer.1 → Appends old new answer.0
    → IfSome old (λ held. ((status ≡ 1) × (new ≡ Some (held ++ read_failed.0))) ↔ (failed ≡ true))
only_read_failed strict failed known left None new answer status may is grows = tt
only_read_failed strict failed known left (Some held) None answer status may is grows = absurd grows
only_read_failed strict true known left (Some held) (Some now) answer status may is grows = (
  λ _. refl,
  λ _. (
    is ∙ ap (λ (a : List ℕ × ℕ). a.1) may,
    ap (λ (l : List ℕ). Some l)
        (grows ∙ ap (λ (a : List ℕ × ℕ). held ++ a.0) may),
  ),
)
only_read_failed strict false known left (Some held) (Some now) answer status may is grows = (
  λ alone. absurd (not_read_failed strict known left answer may (
    append_cancel_left held _ _
        (sym grows ∙ same_bytes now _ alone.1),
    sym is ∙ alone.0,
  )),
  λ e. cc,
)

-- where no device failed, the input's answer was written, or that memory ran out
pub writes_shown : (strict : Bool) (failed : Bool) (known left old new : Option (List ℕ))
    (status : ℕ) → failed ≡ false
    → (answer : List ℕ × ℕ) → MayAnswer strict failed known left answer
    → Writes answer status old new
    → IfSome known (λ all. (answer : List ℕ × ℕ) × MayShow strict all answer
    × Writes answer status old new)
writes_shown strict failed None left old new status works answer may writes = tt
writes_shown strict true (Some all) left old new status works answer may writes = cc
writes_shown strict false (Some all) left old new status works answer (inl memory) writes =
    (answer, inr memory, writes)
writes_shown strict false (Some all) left old new status works answer (inr (input, is, read, shown))
    writes =
    (answer, inl (subst (λ i. Shows strict i answer) is shown), writes)

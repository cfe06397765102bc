-- The ABORT that says what is wrong with an INIT or an INIT ACK, as it is written.
use Rattle.std.proofs.Common.{◌≡◌, ℕ, ◌+◌, ◌≤◌, List, length, refl, ap, ap₂, ◌∙◌, lit<}
use Rattle.dcsctp_tlv.specs.Image.{size_of, zeroed, image_of, written, solid_tlv}
use Rattle.dcsctp_wire.specs.Chunk.{tlv as chunk_tlv, IsChunkEncodable, IsInWidth as IsChunkInWidth}
use Rattle.dcsctp_buffer.{specs.Buffer.{with_item}, proofs.Items.{solid_item}}
use Rattle.dcsctp_receive.specs.Initiation.{abort_of}
use Rattle.dcsctp_receive.specs.declared.initiation.InitFault.{InitFault}
use Rattle.dcsctp_receive.specs.declared.initiation.InitFault.TheVariants.{NotAlone, TooShort, InitiateTagZero, SmallWindow, NoOutboundStreams, NoInboundStreams, NoStateCookie, HostNameAddress}

-- its value, the causes
abbrev pub value_of : InitFault → List ℕ
value_of fault = zeroed (chunk_tlv (abort_of fault)).value

abbrev value_size : InitFault → ℕ
value_size fault = (chunk_tlv (abort_of fault)).value_size

length-value : (fault : InitFault) → length (value_of fault) ≡ value_size fault
unfolding image_of
length-value NotAlone = refl
length-value TooShort = refl
length-value InitiateTagZero = refl
length-value SmallWindow = refl
length-value NoOutboundStreams = refl
length-value NoInboundStreams = refl
length-value NoStateCookie = refl
length-value HostNameAddress = refl

pub size_is : (fault : InitFault) (value : List ℕ) → value ≡ value_of fault
    → 4 + length value ≡ size_of (chunk_tlv (abort_of fault))
size_is fault value is =
    ap (λ (v : List ℕ). 4 + length v) is ∙ ap (λ (n : ℕ). 4 + n) (length-value fault)

pub encodable : (fault : InitFault) → IsChunkEncodable (abort_of fault)
encodable NotAlone = (tt, lit< tt)
encodable TooShort = (tt, lit< tt)
encodable InitiateTagZero = (tt, lit< tt)
encodable SmallWindow = (tt, lit< tt)
encodable NoOutboundStreams = (tt, lit< tt)
encodable NoInboundStreams = (tt, lit< tt)
encodable NoStateCookie = (tt, lit< tt)
encodable HostNameAddress = (tt, lit< tt)

pub written_abort : (fault : InitFault) (flags : ℕ) (value old : List ℕ)
    → flags ≡ (chunk_tlv (abort_of fault)).second → value ≡ value_of fault
    → size_of (chunk_tlv (abort_of fault)) ≤ length old
    → written (image_of (solid_tlv 6 flags value)) old ≡ with_item (chunk_tlv (abort_of fault)) old
unfolding image_of
written_abort NotAlone flags value old second is room =
    ap₂ (λ (n : ℕ) (v : List ℕ). written (image_of (solid_tlv 6 n v)) old) second is
    ∙ solid_item (chunk_tlv (abort_of NotAlone)) (value_of NotAlone) old refl refl room
written_abort TooShort flags value old second is room =
    ap₂ (λ (n : ℕ) (v : List ℕ). written (image_of (solid_tlv 6 n v)) old) second is
    ∙ solid_item (chunk_tlv (abort_of TooShort)) (value_of TooShort) old refl refl room
written_abort InitiateTagZero flags value old second is room =
    ap₂ (λ (n : ℕ) (v : List ℕ). written (image_of (solid_tlv 6 n v)) old) second is
    ∙ solid_item (chunk_tlv (abort_of InitiateTagZero)) (value_of InitiateTagZero) old refl refl
    room
written_abort SmallWindow flags value old second is room =
    ap₂ (λ (n : ℕ) (v : List ℕ). written (image_of (solid_tlv 6 n v)) old) second is
    ∙ solid_item (chunk_tlv (abort_of SmallWindow)) (value_of SmallWindow) old refl refl room
written_abort NoOutboundStreams flags value old second is room =
    ap₂ (λ (n : ℕ) (v : List ℕ). written (image_of (solid_tlv 6 n v)) old) second is
    ∙ solid_item (chunk_tlv (abort_of NoOutboundStreams)) (value_of NoOutboundStreams) old refl refl
    room
written_abort NoInboundStreams flags value old second is room =
    ap₂ (λ (n : ℕ) (v : List ℕ). written (image_of (solid_tlv 6 n v)) old) second is
    ∙ solid_item (chunk_tlv (abort_of NoInboundStreams)) (value_of NoInboundStreams) old refl refl
    room
written_abort NoStateCookie flags value old second is room =
    ap₂ (λ (n : ℕ) (v : List ℕ). written (image_of (solid_tlv 6 n v)) old) second is
    ∙ solid_item (chunk_tlv (abort_of NoStateCookie)) (value_of NoStateCookie) old refl refl room
written_abort HostNameAddress flags value old second is room =
    ap₂ (λ (n : ℕ) (v : List ℕ). written (image_of (solid_tlv 6 n v)) old) second is
    ∙ solid_item (chunk_tlv (abort_of HostNameAddress)) (value_of HostNameAddress) old refl refl room

pub in_width : (fault : InitFault) → IsChunkInWidth (abort_of fault)
in_width NotAlone = tt
in_width TooShort = tt
in_width InitiateTagZero = (record { typ = lit< tt; value = λ i. lit< tt }, tt)
in_width SmallWindow = (record { typ = lit< tt; value = λ i. lit< tt }, tt)
in_width NoOutboundStreams = (record { typ = lit< tt; value = λ i. lit< tt }, tt)
in_width NoInboundStreams = (record { typ = lit< tt; value = λ i. lit< tt }, tt)
in_width NoStateCookie = ((lit< tt, tt), tt)
in_width HostNameAddress = tt

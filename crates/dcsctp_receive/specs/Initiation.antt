-- What is wrong with a packet that carries an INIT or an INIT ACK (RFC 9260 sections 3.3.2, 3.3.3
-- and 5.1), what is done with it then, and the ABORT that says it.
use Rattle.std.specs.Prelude.{◌==◌, Bool, true, false, ℕ, nat_lt, if◌then◌else◌, List, [], ◌∷◌, Option, Some, None, length}
use Rattle.std.specs.List.{list_any}
use Rattle.dcsctp_cause.specs.Cause.{CauseTree, MissingMandatoryParameter, Unknown}
use Rattle.dcsctp_wire.specs.{InitFields.{numbers_at}, Packet.{Meaning}, Chunk.{ChunkTree}, declared.packet.common_header.CommonHeader.{CommonHeader}, declared.packet.init_chunk.InitNumbers.{InitNumbers}}
use Rattle.dcsctp_wire.specs.Chunk as tree
use Rattle.dcsctp_borrowed.specs.Part.{Item, after}
use Rattle.dcsctp_receive.specs.{Chunks.{chunks_of, items_of, is_numbered, only}, OutOfTheBlue.{back}}
use Rattle.dcsctp_receive.specs.declared.initiation.InitFault.{InitFault}
use Rattle.dcsctp_receive.specs.declared.initiation.InitFault.TheVariants.{NotAlone, TooShort, InitiateTagZero, SmallWindow, NoOutboundStreams, NoInboundStreams, NoStateCookie, HostNameAddress}
use Rattle.dcsctp_receive.specs.declared.initiation.Refusal.{Refusal}
use Rattle.dcsctp_receive.specs.declared.initiation.Refusal.TheVariants.{Discard, Abort, DestroyAndAbort}

-- ---- the first fault

-- the fixed-length parameters, in their order
abbrev pub numbers_fault : InitNumbers → Option InitFault
numbers_fault n =
    -- "The Initiate Tag is allowed to have any value except 0."
    if n.initiate_tag == 0 then Some InitiateTagZero else
    -- "The Advertised Receiver Window Credit MUST NOT be smaller than 1500."
    if nat_lt n.a_rwnd 1500 then Some SmallWindow else
    -- Number of Outbound Streams: "The value of 0 MUST NOT be used."
    if n.nbr_outbound_streams == 0 then Some NoOutboundStreams else
    -- Number of Inbound Streams: "The value 0 MUST NOT be used."
    if n.nbr_inbound_streams == 0 then Some NoInboundStreams else
    None

-- State Cookie, type 7, is mandatory in INIT ACK (table 8), after the fixed-length parameters.
abbrev pub cookie_fault : Item → Option InitFault
cookie_fault c =
    if c.first == 2 then
    (if list_any (is_numbered 7) (items_of (after 16 c.value)) then None
    else Some NoStateCookie) else
    None

-- Host Name Address, type 11 (section 3.3.2.1.4): "The receiver of an INIT chunk or an INIT ACK
-- containing a Host Name Address parameter MUST send an ABORT chunk".
abbrev pub name_fault : Item → Option InitFault
name_fault c =
    if list_any (is_numbered 11) (items_of (after 16 c.value)) then Some HostNameAddress else None

abbrev pub first_fault : Option InitFault → Option InitFault → Option InitFault
first_fault (Some f) others = Some f
first_fault None others = others

abbrev pub chunk_fault : Item → Option InitFault
chunk_fault c =
    if nat_lt (length c.value.bytes) 16 then Some TooShort else
    first_fault (numbers_fault (numbers_at c.value.bytes))
    (first_fault (cookie_fault c) (name_fault c))

-- "An INIT or INIT ACK chunk MUST NOT be bundled with any other chunk. They MUST be the only chunks
-- present in the SCTP packets that carry them."
abbrev pub only_fault : Option Item → Option InitFault
only_fault None = Some NotAlone
only_fault (Some c) = chunk_fault c

-- of a packet that should hold a chunk of this type: 1 is INIT, and 2 INIT ACK
abbrev pub packet_fault : ℕ → List ℕ → Option InitFault
packet_fault typ packet = only_fault (only typ (chunks_of packet))

-- ---- what is done then

-- with an INIT (sections 3.3.2 and 8.5.1)
abbrev pub refusal_of_init : InitFault → Refusal
-- "the receiver MUST silently discard the packet"
refusal_of_init InitiateTagZero = Discard
-- "MUST discard the packet, SHOULD send a packet in response containing an ABORT chunk and using
-- the Initiate Tag as the Verification Tag, and MUST NOT change the state of any existing
-- association"
refusal_of_init SmallWindow = Abort
refusal_of_init NoOutboundStreams = Abort
refusal_of_init NoInboundStreams = Abort
refusal_of_init HostNameAddress = Abort
-- "Otherwise, the receiver MUST silently discard the packet."
refusal_of_init fault = Discard

-- with an INIT ACK in the state COOKIE-WAIT (sections 3.3.3 and 5.1)
abbrev pub refusal_when_waiting : InitFault → Refusal
-- "it MUST destroy the TCB and SHOULD send an ABORT chunk"
refusal_when_waiting InitiateTagZero = DestroyAndAbort
refusal_when_waiting NoOutboundStreams = DestroyAndAbort
refusal_when_waiting NoInboundStreams = DestroyAndAbort
-- as with an INIT
refusal_when_waiting SmallWindow = Abort
-- "decides not to establish the new association due to missing mandatory parameters [..], it SHOULD
-- respond with an ABORT chunk"
refusal_when_waiting NoStateCookie = DestroyAndAbort
-- "the endpoint MUST immediately send an ABORT chunk" (section 5.1.2)
refusal_when_waiting HostNameAddress = DestroyAndAbort
refusal_when_waiting fault = Discard

-- with an INIT ACK: "in any state other than CLOSED or COOKIE-WAIT, it SHOULD be discarded
-- silently"
abbrev pub refusal_of_init_ack : Bool → InitFault → Refusal
refusal_of_init_ack in_cookie_wait fault =
    if in_cookie_wait then refusal_when_waiting fault else Discard

-- ---- the ABORT

-- "with the T bit set" (section 3.3.3): there is no Initiate Tag to be sent
abbrev pub reflects : InitFault → Bool
reflects InitiateTagZero = true
reflects fault = false

-- "specify the cause of abort, such as the type of the missing mandatory parameters" (section 5.1):
-- Missing Mandatory Parameter (3.3.10.2), and Invalid Mandatory Parameter, code 7 (3.3.10.7)
abbrev pub causes_of : InitFault → List CauseTree
causes_of NoStateCookie = MissingMandatoryParameter (7 ∷ []) ∷ []
causes_of NotAlone = []
causes_of TooShort = []
-- "and MAY include an "Unresolvable Address" error cause" (section 3.3.2.1.4), which holds the name
causes_of HostNameAddress = []
causes_of fault = Unknown (record { typ = 7; value = [] }) ∷ []

abbrev pub abort_of : InitFault → ChunkTree
abort_of fault = tree.Abort (record { tag_reflected = reflects fault; causes = causes_of fault })

-- "The Verification Tag field in the common header of the outbound SCTP packet containing the ABORT
-- chunk MUST be set to the Initiate Tag value of the received INIT or INIT ACK chunk" (section 5.1)
abbrev pub abort_to : CommonHeader → ℕ → InitFault → Meaning
abort_to h initiate_tag fault =
    back h (if reflects fault then h.verification_tag else initiate_tag) (abort_of fault)

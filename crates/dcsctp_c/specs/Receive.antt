-- What RFC 9260 asks of whoever receives a packet, as a C program asks and is answered: by numbers
-- (sections 3.2, 3.2.1, 3.3.2, 3.3.3, 8.4 and 8.5). No standard has them.
use Rattle.std.specs.Prelude.{ℕ, nat_le, ◌==◌, Bool, if◌then◌else◌, Option, Some, None}
use Rattle.dcsctp_wire.specs.declared.packet.common_header.CommonHeader.{CommonHeader}
use Rattle.dcsctp_receive.specs.declared.action.Action.{Action}
use Rattle.dcsctp_receive.specs.declared.action.Action.TheVariants as action
use Rattle.dcsctp_receive.specs.declared.initiation.InitFault.{InitFault}
use Rattle.dcsctp_receive.specs.declared.initiation.InitFault.TheVariants as fault
use Rattle.dcsctp_receive.specs.declared.initiation.Refusal.{Refusal}
use Rattle.dcsctp_receive.specs.declared.initiation.Refusal.TheVariants as refusal
use Rattle.dcsctp_receive.specs.declared.out_of_the_blue.OutOfTheBlue.{OutOfTheBlue}
use Rattle.dcsctp_receive.specs.declared.out_of_the_blue.OutOfTheBlue.TheVariants as out_of_the_blue
use Rattle.dcsctp_receive.specs.declared.out_of_the_blue.Reply.{Reply}
use Rattle.dcsctp_receive.specs.declared.out_of_the_blue.Reply.TheVariants as reply
use Rattle.dcsctp_receive.specs.declared.verification_tag.Association.{Association}
use Rattle.dcsctp_receive.specs.declared.verification_tag.TagVerdict.{TagVerdict}
use Rattle.dcsctp_receive.specs.declared.verification_tag.TagVerdict.TheVariants as verdict
use Rattle.dcsctp_receive.specs.Initiation.{refusal_of_init, refusal_of_init_ack}
use Rattle.dcsctp_c.specs.Code.{bad_value_code, no_room_code}
use Rattle.dcsctp_c.specs.declared.structs.{DcsctpAssociation.{DcsctpAssociation}, DcsctpHeader.{DcsctpHeader}}

-- the two highest-order bits of the type: whether it is skipped, and whether it is reported
abbrev pub action_code : Action → ℕ
action_code action.Stop = 0
action_code action.StopAndReport = 1
action_code action.Skip = 2
action_code action.SkipAndReport = 3

abbrev pub association_of : DcsctpAssociation → Association
association_of a = record {
  own = a.own_tag;
  peer = if a.has_peer_tag then Some a.peer_tag else None;
  awaits_cookie = a.awaits_cookie;
}

abbrev pub verdict_code : TagVerdict → ℕ
verdict_code verdict.Accept = 0
verdict_code verdict.Establish = 1
verdict_code verdict.OutOfTheBlue = 2
verdict_code verdict.Discard = 3

abbrev pub answer_code : OutOfTheBlue → ℕ
answer_code out_of_the_blue.Discard = 0
answer_code out_of_the_blue.Init = 1
answer_code out_of_the_blue.CookieEcho = 2
answer_code (out_of_the_blue.Respond reply.ShutdownComplete) = 3
answer_code (out_of_the_blue.Respond reply.Abort) = 4

-- ---- the reply

-- that of an answer that has one
abbrev pub reply_of : ℕ → Option Reply
reply_of answer =
    if answer == 3 then Some reply.ShutdownComplete else
    if answer == 4 then Some reply.Abort else
    None

abbrev pub header_view : DcsctpHeader → CommonHeader
header_view h = record {
  source_port = h.source_port;
  destination_port = h.destination_port;
  verification_tag = h.verification_tag;
  checksum = h.checksum;
}

-- 0, or why a reply isn't written into a buffer of this size
abbrev pub reply_code : Option Reply → ℕ → ℕ
reply_code (Some r) room = if nat_le 16 room then 0 else no_room_code
reply_code None room = bad_value_code

-- ---- INIT and INIT ACK

abbrev pub fault_code : InitFault → ℕ
fault_code fault.NotAlone = 1
fault_code fault.TooShort = 2
fault_code fault.InitiateTagZero = 3
fault_code fault.SmallWindow = 4
fault_code fault.NoOutboundStreams = 5
fault_code fault.NoInboundStreams = 6
fault_code fault.NoStateCookie = 7
fault_code fault.HostNameAddress = 8

-- zero where there is none
abbrev pub some_fault_code : Option InitFault → ℕ
some_fault_code (Some f) = fault_code f
some_fault_code None = 0

abbrev pub fault_of : ℕ → Option InitFault
fault_of code =
    if code == 1 then Some fault.NotAlone else
    if code == 2 then Some fault.TooShort else
    if code == 3 then Some fault.InitiateTagZero else
    if code == 4 then Some fault.SmallWindow else
    if code == 5 then Some fault.NoOutboundStreams else
    if code == 6 then Some fault.NoInboundStreams else
    if code == 7 then Some fault.NoStateCookie else
    if code == 8 then Some fault.HostNameAddress else
    None

abbrev pub refusal_code : Refusal → ℕ
refusal_code refusal.Discard = 0
refusal_code refusal.Abort = 1
refusal_code refusal.DestroyAndAbort = 2

-- of a fault of INIT ACK, or of INIT; zero for a number that is no fault's
abbrev pub refusal_of : Bool → Bool → Option InitFault → ℕ
refusal_of is_ack in_cookie_wait (Some f) =
    refusal_code (if is_ack then refusal_of_init_ack in_cookie_wait f else refusal_of_init f)
refusal_of is_ack in_cookie_wait None = 0

-- Of which association a packet is: its ports and its tag say it (RFC 9260 sections 3.1, 8.4 and
-- 8.5), and its first chunk.
use Rattle.std.specs.Prelude.{◌≡◌, ◌⊎◌, ◌==◌, ◌||◌, ◌<◌, ℕ, Bool, true, false, nat_lt, List, length, slice_get, Box, Option, Some, None}
use Rattle.std.specs.HashMap.{HashMap, get}
use Rattle.std.specs.declared.alloc.Global.{Global}
use Rattle.dcsctp_borrowed.specs.Part.{Part, GivesItem, item_of}
use Rattle.dcsctp_borrowed.specs.declared.part.Item.{Item}
use Rattle.dcsctp_receive.specs.Fields.{reflects_tag}
use Rattle.dcsctp_receive.specs.declared.rule.Known.{Known}
use Rattle.dcsctp_wire.specs.Packet.{header_of}
use Rattle.dump_packet.specs.SeenPackets.{packet_of}
use Rattle.dump_associations.specs.Routes.{flow_of, origins_of}
use Rattle.dump_packet.specs.Sides.{other}
use Rattle.dump_associations.specs.Ends.{end_of}
use Rattle.dump_associations.specs.declared.associations.association.Association.{Association}
use Rattle.dump_packet.specs.declared.side.Side.{Side}
use Rattle.dump_packet.specs.declared.side.Side.TheVariants.{First, Second}
use Rattle.dump_associations.specs.declared.associations.Owner.{Owner}
use Rattle.dump_associations.specs.declared.associations.Owner.TheVariants as owner
use Rattle.dump_packet.specs.declared.seen_packet.SeenPacket.{SeenPacket}
use Rattle.dump_associations.specs.declared.associations.end.End.{End}
use Rattle.dump_associations.specs.declared.associations.key.Arrival.{Arrival}
use Rattle.dump_associations.specs.declared.associations.key.FlowKey.{FlowKey}
use Rattle.dump_associations.specs.declared.associations.keys.Flow.{Flow}
use Rattle.dump_associations.specs.contracts.associations.key.FlowKeyPartialEq.TheImpl as flow_key_eq

-- packets to the end carry this tag
abbrev pub HasTag : ℕ → End → Type 0
HasTag tag e = (e.tag ≡ Some tag) ⊎ (e.other_tag ≡ Some tag)

-- ---- a packet's first chunk

abbrev pub begins_with : ℕ → Option Item → Bool
begins_with typ (Some c) = c.first == typ
begins_with typ None = false

-- the T bit of an ABORT's or a SHUTDOWN COMPLETE's flags (section 8.5.1)
abbrev pub is_reflected : Option Item → Bool
is_reflected (Some c) = reflects_tag (item_of c)
is_reflected None = false

-- Its sender chose the tag by which it is known: that in an INIT, or the one that is reflected.
abbrev pub IsKnownBySender : Arrival → Type 0
IsKnownBySender p = (begins_with 1 p.first ≡ true) ⊎ (is_reflected p.first ≡ true)

-- whether its sender or its receiver chose the tag by which it is known, and the tag
abbrev pub IsChosen : Arrival → Option (Side × ℕ) → Type 0
IsChosen p (Some (First, tag)) =
    (begins_with 1 p.first ≡ true) ⊎ ((is_reflected p.first ≡ true) × (tag ≡ p.tag))
IsChosen p (Some (Second, tag)) = ¬ (IsKnownBySender p) × (tag ≡ p.tag)
IsChosen p None = IsKnownBySender p

-- What is read of a packet: ports and tag (section 3.1), if its common header was captured, which
-- end of a log sent it, and its first chunk.
abbrev pub IsRead : SeenPacket → Option Arrival → Type 0
IsRead p (Some a) =
    (a.tag ≡ (header_of p.found.packet.now).verification_tag)
    × (a.route.from.port ≡ (header_of p.found.packet.now).source_port)
    × (a.route.to.port ≡ (header_of p.found.packet.now).destination_port)
    × ((a.route.from.origin, a.route.to.origin) ≡ origins_of p.direction)
    × (left : Part) × GivesItem (packet_of p).chunks a.first left
IsRead p None = length p.found.packet.now < 12

-- ---- whose it is

-- This end may have sent it: the other end has its tag, or none that is known; or the T bit is set
-- and this end has its tag; or it begins with an INIT, which goes with tag 0, or with a COOKIE ECHO
-- before the association is established, since an INIT that is sent again may be answered by
-- several tags.
abbrev pub MayBeOf : Arrival → Side → Association → Type 0
MayBeOf p sender a =
    HasTag p.tag (end_of (other sender) a) ⊎ ((end_of (other sender) a).tag ≡ None)
    ⊎ ((is_reflected p.first ≡ true) × HasTag p.tag (end_of sender a))
    ⊎ (begins_with 1 p.first ≡ true) ⊎ ((begins_with 10 p.first ≡ true) × (a.established ≡ None))

-- the association of a slot has this
abbrev pub Holds : List (Box Association Global) → ℕ → (Association → Type 0) → Type 0
Holds table slot P = (a : Box Association Global) × (slice_get table slot ≡ Some a) × P a.value

-- the end to which it goes chose its tag
abbrev pub HasTagOf : List (Box Association Global) → Arrival → Flow → Type 0
HasTagOf table p flow = Holds table flow.slot (λ a. HasTag p.tag (end_of (other flow.sender) a))

-- whose it is said to be
abbrev pub owner_of : Owner → Option Flow
owner_of (owner.Known flow) = Some flow
owner_of owner.Gone = None
owner_of (owner.Beside _) = None
owner_of owner.New = None

module _ {S : Type 0} where
  -- It has the tag of the end to which it goes, between the ports of the association by whose tags
  -- it is looked up.
  abbrev pub IsKnown : HashMap FlowKey Flow S → List (Box Association Global) → Arrival → Type 0
  IsKnown flows table p =
      ¬ (IsKnownBySender p) × (flow : Flow)
      × (get ((flow_key_eq.ghosts).eq) flows (flow_of p.route First p.tag) ≡ Some flow)
      × HasTagOf table p flow

  -- It is of an association that it may be of: of one whose tag it has, if one is known.
  abbrev pub IsOwner : HashMap FlowKey Flow S → List (Box Association Global) → Option Arrival
      → Option Flow → Type 0
  IsOwner flows table None owner = owner ≡ None
  IsOwner flows table (Some p) None = ¬ (IsKnown flows table p)
  IsOwner flows table (Some p) (Some flow) =
      Holds table flow.slot (MayBeOf p flow.sender)
      × (IsKnown flows table p → HasTagOf table p flow)

  -- so of a packet
  abbrev pub IsOwnerOf : HashMap FlowKey Flow S → List (Box Association Global) → SeenPacket
      → Option Flow → Type 0
  IsOwnerOf flows table packet owner =
      (p : Option Arrival) × IsRead packet p × IsOwner flows table p owner

-- ---- what is known of it

abbrev pub nothing_known : Known
nothing_known = record { accepts_zero = None; has_data = false; has_idata = false }

-- whether the INIT or the INIT ACK of the end to which it goes says that this accepts zero checksums
-- (RFC 9653 section 4); whether one of the ends sent DATA, and whether one sent I-DATA
abbrev pub known_in : Side → Option (Box Association Global) → Known
known_in sender (Some a) =
    let one = a.value.first.counts in
    let two = a.value.second.counts in
    record {
      accepts_zero = (end_of (other sender) a.value).accepts_zero;
      has_data = nat_lt one.i_data_chunks one.data_chunks || nat_lt two.i_data_chunks two.data_chunks;
      has_idata = nat_lt 0 one.i_data_chunks || nat_lt 0 two.i_data_chunks;
    }
known_in sender None = nothing_known

abbrev pub known_of : List (Box Association Global) → Option Flow → Known
known_of table (Some flow) = known_in flow.sender (slice_get table flow.slot)
known_of table None = nothing_known

module _ {S : Type 0} where
  -- it is said of the association of the packet, or of none
  abbrev pub IsKnownOf : HashMap FlowKey Flow S → List (Box Association Global) → SeenPacket → Known
      → Type 0
  IsKnownOf flows table packet known =
      (owner : Option Flow) × IsOwnerOf flows table packet owner × (known ≡ known_of table owner)

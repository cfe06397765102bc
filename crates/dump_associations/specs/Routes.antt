-- From where to where the packets of an association go.
use Rattle.std.specs.Prelude.{◌≡◌, ◌⊎◌, ℕ, Option, Some, None, IsSome}
use Rattle.dump_capture.specs.declared.line.Direction.{Direction}
use Rattle.dump_capture.specs.declared.line.Direction.TheVariants.{Incoming, Outgoing}
use Rattle.dump_packet.specs.declared.side.Side.{Side}
use Rattle.dump_packet.specs.declared.side.Side.TheVariants.{First, Second}
use Rattle.dump_associations.specs.declared.associations.key.Origin.{Origin}
use Rattle.dump_associations.specs.declared.associations.key.Route.{Route}
use Rattle.dump_associations.specs.declared.associations.key.FlowKey.{FlowKey}
use Rattle.dump_associations.specs.declared.associations.key.Origin.TheVariants.{Unknown, Local, Remote}
use Rattle.dump_associations.specs.declared.associations.transport.TransportKey.{TransportKey}
use Rattle.dump_associations.specs.declared.associations.transport.TransportKey.TheVariants as transport

-- which end of a log sent a packet, and which one it went to
abbrev pub origins_of : Option Direction → Origin × Origin
origins_of (Some Outgoing) = (Local, Remote)
origins_of (Some Incoming) = (Remote, Local)
origins_of None = (Unknown, Unknown)

abbrev pub back_of : Route → Route
back_of r = record { transport = r.transport; from = r.to; to = r.from }

abbrev pub IsNamed : TransportKey → Type 0
IsNamed (transport.Named number) = Unit {0}
IsNamed transport.Unnamed = ⊥
IsNamed transport.Other = ⊥

-- Two endpoints have one association at a time (RFC 9260 section 1.3). That it is between these is
-- known if the ends differ, and both addresses are known or the name of a log's transport.
abbrev pub IsExclusive : Route → Type 0
IsExclusive r =
    ¬ (r.from ≡ r.to)
    × ((IsSome r.from.address × IsSome r.to.address) ⊎ IsNamed r.transport)

-- what an end sends with a tag: the first one on the route, the second one on the way back
abbrev pub flow_on : Route → ℕ → FlowKey
flow_on r tag = record {
  transport = r.transport;
  origin = r.from.origin;
  source = r.from.port;
  destination = r.to.port;
  tag = tag;
}

abbrev pub flow_of : Route → Side → ℕ → FlowKey
flow_of r First tag = flow_on r tag
flow_of r Second tag = flow_on (back_of r) tag

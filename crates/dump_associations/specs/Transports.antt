-- The transports of a log, by their names.
use Rattle.std.specs.Prelude.{◌≡◌, ◌<◌, ◌≤◌, ℕ}
use Rattle.dump_associations.specs.declared.associations.transport.Transport.{Transport}
use Rattle.dump_associations.specs.declared.associations.transport.TransportKey.{TransportKey}
use Rattle.dump_associations.specs.declared.associations.transport.Transport.TheVariants as transport
use Rattle.dump_associations.specs.declared.associations.transport.TransportKey.TheVariants as key

-- printable ASCII, a blank too
abbrev pub IsPrintable : ℕ → Type 0
IsPrintable byte = (0x20 ≤ byte) × (byte < 0x7f)

-- a transport without a name, and one whose name isn't kept
abbrev pub AreUnnamed : Transport × TransportKey → Type 0
AreUnnamed found = found ≡ (transport.Unnamed, key.Unnamed)

abbrev pub AreOther : Transport × TransportKey → Type 0
AreOther found = found ≡ (transport.Other, key.Other)

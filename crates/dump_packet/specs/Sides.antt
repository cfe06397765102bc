-- The ends of associations.
use Rattle.dump_packet.specs.declared.side.Side.{Side}
use Rattle.dump_packet.specs.declared.side.Side.TheVariants.{First, Second}

abbrev pub other : Side → Side
other First = Second
other Second = First

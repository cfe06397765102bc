-- The ends of an association, and one that left the table.
use Rattle.std.specs.Prelude.{◌≡◌, true, Box, Option, Some, None}
use Rattle.std.specs.declared.alloc.Global.{Global}
use Rattle.dump_packet.specs.declared.side.Side.{Side}
use Rattle.dump_packet.specs.declared.side.Side.TheVariants.{First, Second}
use Rattle.dump_associations.specs.declared.associations.association.Association.{Association}
use Rattle.dump_associations.specs.declared.associations.counts.Counts.{Counts}
use Rattle.dump_associations.specs.declared.associations.end.End.{End}

abbrev pub end_of : Side → Association → End
end_of First a = a.first
end_of Second a = a.second

-- what is counted of the packets that an end sent
abbrev pub counts_of : Side → Association → Counts
counts_of First a = a.first.counts
counts_of Second a = a.second.counts

-- what is returned, if something is, says that it left the table
abbrev pub HasLeft : Option (Box Association Global) → Type 0
HasLeft (Some a) = a.value.has_left ≡ true
HasLeft None = Unit {0}

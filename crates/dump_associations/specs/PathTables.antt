-- What is kept of associations' paths, by their numbers.
use Rattle.std.specs.Prelude.{ℕ, nat_eq, Option, Some, None}
use Rattle.std.specs.HashMap.{get}
use Rattle.dump_associations.specs.Paths.{seen_on}
use Rattle.dump_associations.specs.declared.paths.path_table.PathTable.{PathTable}
use Rattle.dump_associations.specs.declared.paths.Paths.{Paths}

abbrev pub paths_of : PathTable → ℕ → Option Paths
paths_of t association = get nat_eq t.by_number association

-- the packets that are counted on them, and on others
abbrev pub packets_in : Option Paths → ℕ
packets_in None = 0
packets_in (Some p) = seen_on p.list.items p.others

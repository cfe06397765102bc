use Rattle.std.proofs.Common.{refl}
use Rattle.dump_associations.proofs.paths.Paths.count.Goals as goal

pub returns-else-not-count_on-clause-on_path : goal.returns-else-not-count_on-clause-on_path
returns-else-not-count_on-clause-on_path c _ = (c.if-not-count_on.ensures.counted refl, refl)

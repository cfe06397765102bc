use Rattle.dump_associations.proofs.Marks.{none_marked}
use Rattle.dump_associations.proofs.associations.tsns.Tsns.new.Goals as goal

pub returns-clause-marks : goal.returns-clause-marks
returns-clause-marks c = none_marked

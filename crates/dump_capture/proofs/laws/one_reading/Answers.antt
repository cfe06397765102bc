use Rattle.dump_capture.proofs.Readings.{reading_some}
use Rattle.dump_capture.proofs.Records.{reading_one}
use Rattle.dump_capture.proofs.laws.one_reading.Goals as goal

pub returns-clause-some : goal.returns-clause-some
returns-clause-some c = reading_some

pub returns-clause-one : goal.returns-clause-one
returns-clause-one c = reading_one

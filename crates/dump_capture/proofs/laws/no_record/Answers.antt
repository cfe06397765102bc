use Rattle.dump_capture.proofs.Records.{reading_none}
use Rattle.dump_capture.proofs.laws.no_record.Goals as goal

pub returns : goal.returns
returns c = reading_none

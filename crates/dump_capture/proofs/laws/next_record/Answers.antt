use Rattle.dump_capture.proofs.Records.{reading_next}
use Rattle.dump_capture.proofs.laws.next_record.Goals as goal

pub returns : goal.returns
returns c = reading_next

use Rattle.std.proofs.Common.{[], refl}
use Rattle.dump_capture.specs.PcapngFile.{nothing}
use Rattle.dump_capture.proofs.pcapng_writer.PcapngWriter.new.Goals as goal

pub returns : goal.returns
returns c = nothing c.new.result.items [] c.new.ensures.items refl

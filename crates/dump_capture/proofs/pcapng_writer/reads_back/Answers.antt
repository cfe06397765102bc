use Rattle.dump_capture.proofs.PcapngWritten.{file_reads, direction_read}
use Rattle.dump_capture.proofs.pcapng_writer.reads_back.Goals as goal

pub returns-clause-frames : goal.returns-clause-frames
returns-clause-frames c = file_reads

pub returns-clause-direction : goal.returns-clause-direction
returns-clause-direction c = direction_read

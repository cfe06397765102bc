use Rattle.dump_capture.proofs.SomeFile.{some_pcap, some_blocks}
use Rattle.dump_capture.proofs.laws.some_file.Goals as goal

pub returns-clause-pcap : goal.returns-clause-pcap
returns-clause-pcap c = some_pcap

pub returns-clause-pcapng : goal.returns-clause-pcapng
returns-clause-pcapng c = some_blocks

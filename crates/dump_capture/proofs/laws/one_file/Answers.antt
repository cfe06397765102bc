use Rattle.dump_capture.specs.PcapEvents.{Item, End}
use Rattle.dump_capture.specs.PcapngEvents as ng
use Rattle.dump_capture.proofs.OneReading.{reading_one}
use Rattle.dump_capture.proofs.OneFile.{pcap_is_one, pcapng_is_one}
use Rattle.dump_capture.proofs.laws.one_file.Goals as goal

pub returns-clause-pcap : goal.returns-clause-pcap
returns-clause-pcap c = reading_one Item End pcap_is_one

pub returns-clause-pcapng : goal.returns-clause-pcapng
returns-clause-pcapng c = reading_one ng.Item ng.End pcapng_is_one

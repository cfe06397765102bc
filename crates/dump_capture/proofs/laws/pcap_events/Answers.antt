use Rattle.dump_capture.proofs.PcapReads.{pcap_events_are}
use Rattle.dump_capture.proofs.laws.pcap_events.Goals as goal

pub returns : goal.returns
returns c = pcap_events_are

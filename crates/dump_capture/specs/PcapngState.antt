-- What is known of the blocks before, by the decoder.
use Rattle.dump_capture.specs.PcapngEvents.{State}
use Rattle.dump_capture.specs.declared.pcapng_decoder.PcapngDecoder.{PcapngDecoder}

abbrev pub state_of : PcapngDecoder → State
state_of d = record { order = d.order; interfaces = d.interfaces.items; number = d.number }

use Rattle.std.proofs.Common.{[], subst, sym, append-nil}
use Rattle.dump_capture.specs.declared.pcap_decoder.PcapDecoder.{PcapDecoder}
use Rattle.dump_capture.specs.Decoding.{Finds}
use Rattle.dump_capture.specs.PcapEvents.{Item, End}
use Rattle.dump_capture.proofs.pcap_decoder.PcapDecoderDecoder.next.Goals as goal

pub returns-in-FileHeader : goal.returns-in-FileHeader
returns-in-FileHeader g c = (
  [],
  λ xs has. subst (g.S.Sink.handed c.args.sink.now) (sym (append-nil xs)) has,
  subst (λ (d : PcapDecoder). Finds Item End d c.args.held.now c.args.at_end []
      c.take_header.new.self c.take_header.result) (sym c.in-FileHeader.is) c.take_header.ensures,
)

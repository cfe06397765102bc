use Rattle.std.proofs.Common.{sym, ◌∙◌}
use Rattle.dump_capture.specs.Found.{packet_of}
use Rattle.sctp_dump.proofs.Printed.{sound, counted_more, warned_more, counts_packet, counts_none, warns_packet, warns_none}
use Rattle.sctp_dump.proofs.event_printer.EventPrinterSink.frame.Goals as goal

pub returns-in-Ok-note_packet : goal.returns-in-Ok-note_packet
returns-in-Ok-note_packet g c = λ events old unfailed.
    let before = old (sound c.args.self.now.failure (sym c.is_some.ensures ∙ c.if-is_some.false)) in
    let options = c.args.self.now.options in
    let found = packet_of c.in-Ok.found in
    let first = c.args.self.now.warnings.counts in (
      counted_more options events _ c.args.self.now.counts c.count_packet-judged.new.self
          (counts_packet options c.args.self.now.counts c.count_packet-judged.new.self found _
          c.in-Ok.ensures c.count_packet-judged.ensures.counts) before.0,
      warned_more options events _ first _ (warns_packet options first _ found _
          c.count_packet-judged.result.verdict c.count_packet-judged.result.word c.in-Ok.ensures
          c.count_packet-judged.ensures.verdict (
            λ yes. (_, c.judge-broken.ensures.judged (c.is_judged.ensures ∙ yes)),
            λ no. c.judge-broken.ensures.left (c.is_judged.ensures ∙ no),
          )) before.1,
    )

pub returns-in-Err : goal.returns-in-Err
returns-in-Err g c = λ events old unfailed.
    let before = old (sound c.args.self.now.failure (sym c.is_some.ensures ∙ c.if-is_some.false)) in
    let options = c.args.self.now.options in (
      counted_more options events _ c.args.self.now.counts c.count_no_packet.new.self
          (counts_none options c.args.self.now.counts c.count_no_packet.new.self c.in-Err.why _
          c.in-Err.ensures c.count_no_packet.ensures) before.0,
      warned_more options events _ c.args.self.now.warnings.counts _
          (warns_none options c.args.self.now.warnings.counts c.in-Err.why _ c.in-Err.ensures)
          before.1,
    )

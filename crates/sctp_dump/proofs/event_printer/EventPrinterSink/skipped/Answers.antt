use Rattle.std.proofs.Common.{sym, ◌∙◌, refl}
use Rattle.sctp_dump.proofs.Printed.{sound, counted_more, warned_more}
use Rattle.sctp_dump.proofs.event_printer.EventPrinterSink.skipped.Goals as goal

pub returns : goal.returns
returns g c = λ events old unfailed.
    let before = old (sound c.args.self.now.failure (sym c.is_some.ensures ∙ c.if-is_some.false)) in
    let options = c.args.self.now.options in (
      counted_more options events _ c.args.self.now.counts c.count_unread.new.self
          c.count_unread.ensures before.0,
      warned_more options events _ c.args.self.now.warnings.counts _ refl before.1,
    )

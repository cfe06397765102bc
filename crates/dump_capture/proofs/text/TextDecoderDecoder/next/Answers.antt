use Rattle.std.proofs.Common.{take, refl, sym, arith}
use Rattle.dump_capture.proofs.TextLines.{no_feed, first_feed}
use Rattle.dump_capture.proofs.text.TextDecoderDecoder.next.Goals as goal

pub returns-in-Some : goal.returns-in-Some
returns-in-Some g c =
    let begins = first_feed c.args.held.now c.in-Some.size (sym c.in-Some.ensures) in
    let within = begins.within in
    let handed = c.take_line.ensures in (
      handed.events,
      handed.hands,
      (omega arith, (take c.in-Some.size c.args.held.now, begins.line, begins.feed)),
    )

pub returns-in-None : goal.returns-in-None
returns-in-None g c =
    let handed = c.take_last.ensures in (
      handed.events,
      handed.hands,
      (c.if-at_end.true, (no_feed c.args.held.now (sym c.in-None.ensures), refl)),
    )

pub returns-in-None-2 : goal.returns-in-None-2
returns-in-None-2 g c =
    let handed = c.take_long.ensures in (
      handed.events,
      handed.hands,
      (
        no_feed c.args.held.now (sym c.in-None.ensures),
        λ line is_line begins. (line, is_line, refl),
        λ line is_line begins. (is_line, refl),
      ),
    )

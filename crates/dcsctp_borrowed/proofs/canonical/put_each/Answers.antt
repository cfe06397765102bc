use Rattle.std.proofs.Common.{◌∙◌, ◌*◌, arith, ap}
use Rattle.dcsctp_borrowed.specs.Rewritten.{stream_again}
use Rattle.dcsctp_borrowed.proofs.PutsRewritten.{rest_is, one_stream_more}
use Rattle.dcsctp_borrowed.proofs.canonical.put_each.Goals as goal

pub loop-i-preserved : goal.loop-i-preserved
loop-i-preserved c =
    rw c.put_bytes.ensures (one_stream_more c.args.output.now c.args.place c.loop-i.i
    c.args.streams.now c.loop-i.output _ (omega (arith, c.requires.room)) c.loop-i.invariant
    (c.kept_stream.ensures ∙ ap stream_again (rest_is (8 * c.loop-i.i) c.args.streams.now)))

use Rattle.dcsctp_borrowed.proofs.PutsRewritten.{streams_size}
use Rattle.dcsctp_borrowed.proofs.canonical.streams_size.Goals as goal

pub returns : goal.returns
returns c = streams_size c.args.value.now _ _ c.min.ensures c.stream_count.ensures

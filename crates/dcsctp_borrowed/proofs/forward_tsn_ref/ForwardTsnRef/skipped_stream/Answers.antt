use Rattle.std.proofs.{Common.{◌<◌, ◌*◌, length, Some, sym, ap, ◌∙◌, arith}, lemmas.List.{take_rest}}
use Rattle.dcsctp_chunk.specs.ForwardTsn as forward_kind
use Rattle.dcsctp_chunk.specs.IForwardTsn as iforward_kind
use Rattle.dcsctp_chunk.specs.SkippedStreams.{Tree}
use Rattle.dcsctp_borrowed.proofs.FieldLists.{field_at_place, stream_count}
use Rattle.dcsctp_borrowed.proofs.forward_tsn_ref.ForwardTsnRef.skipped_stream.Goals as goal

pub returns-then-self : goal.returns-then-self
returns-then-self c =
    let f = c.self.inside in
    let bytes = f.streams.now in
    let i = c.args.index in
    let streams = ap (λ (t : Tree). length t.streams) c.self.view_is in
    let here : i < f.count =
    omega (arith, stream_count f.by_mid f.count bytes, streams, c.requires) in
    let read = c.read.ensures ∙ ap iforward_kind.stream_at (take_rest bytes (8 * i)) in
    rw (← c.self.view_is, c.if-self.true) (field_at_place iforward_kind.stream_at 8 f.count bytes i
    here ∙ ap Some (sym read))

pub returns-else-self : goal.returns-else-self
returns-else-self c =
    let f = c.self.inside in
    let bytes = f.streams.now in
    let i = c.args.index in
    let streams = ap (λ (t : Tree). length t.streams) c.self.view_is in
    let here : i < f.count =
    omega (arith, stream_count f.by_mid f.count bytes, streams, c.requires) in
    let read = c.read-else-self.ensures ∙ ap forward_kind.stream_at (take_rest bytes (4 * i)) in
    rw (← c.self.view_is, c.if-self.false) (field_at_place forward_kind.stream_at 4 f.count bytes i
    here ∙ ap Some (sym read))

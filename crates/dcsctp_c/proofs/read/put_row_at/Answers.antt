use Rattle.std.proofs.Common.{Some, ap, sym, subst, ◌∙◌}
use Rattle.dcsctp_c.{specs.Part.{IsChunkAt}, specs.Row.{IsRow}, specs.declared.structs.DcsctpChunk.{DcsctpChunk}, proofs.Rows.{frame_at}}
use Rattle.dcsctp_c.proofs.read.put_row_at.Goals as goal

pub frame_parts-requires : goal.frame_parts-requires
frame_parts-requires c =
    rw c.split_at.ensures.back (frame_at c.args.bytes.now c.args.offset
    (λ i. (c.type_inv.bytes i).fits) c.requires.within c.requires.meant)

pub framed_chunk-chunk-requires-clause-frame : goal.framed_chunk-chunk-requires-clause-frame
framed_chunk-chunk-requires-clause-frame c =
    frame_at c.args.bytes.now c.args.offset (λ i. (c.type_inv.bytes i).fits) c.requires.within
    c.requires.meant

pub framed_chunk-chunk-requires-clause-value : goal.framed_chunk-chunk-requires-clause-value
framed_chunk-chunk-requires-clause-value c = rw c.split_at.ensures.back at c.frame_parts.ensures.value

pub framed_chunk-chunk-requires-clause-rest : goal.framed_chunk-chunk-requires-clause-rest
framed_chunk-chunk-requires-clause-rest c = rw c.split_at.ensures.back at c.frame_parts.ensures.rest

pub put_row-requires-clause-size : goal.put_row-requires-clause-size
put_row-requires-clause-size c = c.framed_chunk-chunk.ensures.size

pub returns : goal.returns
returns c =
    let bytes = c.args.bytes.now in
    let value = rw c.split_at.ensures.back at c.frame_parts.ensures.value in
    let chunk = c.framed_chunk-chunk.ensures.chunk in
    let puts = c.put_row.ensures bytes (chunk.item.value ∙ ap Some (sym value)) in (
      puts.0,
      record {
        chunk = subst (IsChunkAt bytes c.args.offset) (sym puts.1) chunk;
        row = subst (λ (k : DcsctpChunk). IsRow bytes k puts.0) (sym puts.1) puts.2;
      },
      ap (λ (k : DcsctpChunk). k.next) (sym puts.1),
      puts.3,
    )

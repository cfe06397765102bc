use Rattle.std.proofs.Common.{◌∙◌, ◌++◌, refl, arith, ◌+◌, length, take, drop, subst}
use Rattle.dcsctp_tlv.{specs.Image.{solid_tlv}, specs.Number.{AreBytes}, proofs.Puts.{written_value}}
use Rattle.dcsctp_buffer.{proofs.Extended.{bytes_after, bytes_before}, proofs.Items.{solid_item}}
use Rattle.dcsctp_registry.proofs.registered_chunk.RegisteredChunkWritableChunk.write_to.Goals as goal

pub returns-clause-written : goal.returns-clause-written
returns-clause-written c =
    let it = c.args.self.now in
    let value = it.value in
    let old = c.args.output.now in
    c.put_value.ensures
    ∙ written_value it.typ it.flags c.value_size.result value old c.put_header.new.output
    c.value_size.ensures c.requires.room c.put_header.ensures
    ∙ solid_item (solid_tlv it.typ it.flags value) value old refl refl c.requires.room

pub returns-clause-width : goal.returns-clause-width
returns-clause-width c =
    let value = c.args.self.now.value in
    let headed = c.put_header.new.output in (
      omega arith,
      omega arith,
      bytes_before value (drop (4 + length value) headed)
          (bytes_after (take 4 headed) (value ++ drop (4 + length value) headed)
          (subst AreBytes c.put_value.ensures c.are_bytes.ensures)),
    )

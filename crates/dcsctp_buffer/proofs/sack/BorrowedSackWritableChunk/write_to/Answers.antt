use Rattle.std.{proofs.Common.{◌≡◌, ◌+◌, ◌*◌, length, ap, ◌∙◌, refl, arith, map-id}, specs.{Int.{w32}, List.{flat_map}}}
use Rattle.dcsctp_tlv.specs.{Image.{put}, Number.{numbers}}
use Rattle.dcsctp_chunk.{specs.Sack.{block_bytes, format, bytes}, proofs.Sacks.{sack_written, length-lists}}
use Rattle.dcsctp_buffer.{specs.Sack.{view}, proofs.Items.{solid_item}}
use Rattle.dcsctp_buffer.proofs.sack.BorrowedSackWritableChunk.write_to.Goals as goal

pub returns-clause-written : goal.returns-clause-written
returns-clause-written c =
    let s = view c.args.self.now in
    let size : length (bytes s) ≡ (format s).tlv.value_size =
    (let l = length-lists s in omega (arith, l)) in
    sack_written s _ c.args.output.now c.put_header.new.output c.put_bytes.new.output
    c.put_fields.new.output c.put_fields-2.new.output (omega arith) c.requires.room
    (omega (arith, c.put_header.auto.output, c.requires.room)) c.put_header.ensures
    (c.put_bytes.ensures ∙ ap (put c.put_header.new.output 4) c.fixed.ensures.bytes)
    (c.put_fields.ensures ∙ ap (λ bs. put c.put_bytes.new.output 16 (flat_map block_bytes bs))
    (map-id s.blocks))
    (c.put_fields-2.ensures ∙ ap (λ ns. put c.put_fields.new.output (16 + 4 * length s.blocks)
    (numbers w32 ns)) (map-id s.duplicates))
    ∙ solid_item (format s).tlv (bytes s) c.args.output.now refl size c.requires.room

use Rattle.std.{proofs.Common.{◌≡◌, ◌+◌, ◌*◌, ℕ, length, ap, ◌∙◌, arith, map, map-id}, specs.Int.{w32}, specs.List.{flat_map}}
use Rattle.dcsctp_tlv.specs.{Image.{put}, Number.{numbers}}
use Rattle.dcsctp_chunk.{specs.declared.sack_chunk.GapAckBlock.{GapAckBlock}, specs.Sack.{block_bytes, duplicate_numbers, view}, proofs.Sacks.{sack_written}}
use Rattle.dcsctp_chunk.proofs.sack_chunk.SackChunkSerializableTlv.serialize_to.Goals as goal

pub returns : goal.returns
returns c =
    let s = view c.args.self.now in
    let bs = c.args.self.now.gap_ack_blocks.items in
    let blocks : c.len.result ≡ length bs = omega (arith, c.len.ensures) in
    let block_list : flat_map block_bytes (map (λ (b : GapAckBlock). b) c.deref.result.now)
    ≡ flat_map block_bytes bs =
    ap (flat_map block_bytes) (map-id c.deref.result.now ∙ c.deref.ensures.value) in
    let duplicate_list = ap (λ xs. numbers w32 (duplicate_numbers xs)) c.deref-2.ensures.value in
    sack_written s c.value_size.result c.args.output.now c.put_header.new.output
    c.put_bytes.new.output c.put_fields.new.output c.put_fields-2.new.output
    (omega (arith, c.value_size.ensures)) c.requires.room
    (omega (arith, c.put_header.auto.output, c.requires.room)) c.put_header.ensures
    (c.put_bytes.ensures ∙ ap (put c.put_header.new.output 4) c.fixed.ensures)
    (c.put_fields.ensures ∙ ap (put c.put_bytes.new.output 16) block_list)
    (c.put_fields-2.ensures ∙ ap (λ (n : ℕ). put c.put_fields.new.output (16 + 4 * n)
    (numbers w32 (duplicate_numbers c.deref-2.result.now))) blocks
    ∙ ap (put c.put_fields.new.output (16 + 4 * length bs)) duplicate_list)

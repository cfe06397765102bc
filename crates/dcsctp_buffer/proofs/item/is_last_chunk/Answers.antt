use Rattle.std.proofs.Common.{rules, arith, ◌≡◌, ◌-◌, ◌%◌, ap, length, eqb-true, eq-eqb, ◌∙◌}
use Rattle.dcsctp_tlv.specs.Frame.{round_up_to_4}
use Rattle.dcsctp_buffer.specs.Buffer.{IsBegun}
use Rattle.dcsctp_buffer.proofs.item.is_last_chunk.Goals as goal

pub returns-then-length-ge-TLV_HEADER_SIZE : goal.returns-then-length-ge-TLV_HEADER_SIZE
returns-then-length-ge-TLV_HEADER_SIZE c =
    let begun : IsBegun (length c.args.buffer.now) c.args.size = search rules in
    let words : c.args.start % 4 ≡ 0 = search rules in
    let up = c.round_up_to_4.ensures ∙ ap round_up_to_4 c.chunk_length-length.ensures.result in (
      λ e. (let same = eqb-true c.round_up_to_4.result (c.args.size - c.args.start) e in record {
        begun = begun;
        after_header = omega arith;
        words = words;
        header = omega (arith, begun.header);
        low = omega (arith, c.chunk_length-length.ensures.result);
        ends = omega (arith, same, up, begun.header);
      }),
      λ h. eq-eqb c.round_up_to_4.result (c.args.size - c.args.start) (omega (arith, up, h.ends)),
    )

pub returns-else-length-ge-TLV_HEADER_SIZE : goal.returns-else-length-ge-TLV_HEADER_SIZE
returns-else-length-ge-TLV_HEADER_SIZE c = (
  λ e. absurd (search rules),
  λ h. absurd (omega (arith, c.chunk_length-length.ensures.result, h.low)),
)

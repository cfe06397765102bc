use Rattle.std.proofs.{Common.{◌<◌, ◌+◌, ◌*◌, length, drop, Some, sym, ap, ◌∙◌, arith, drop-drop}, lemmas.List.{take_rest}}
use Rattle.dcsctp_tlv.specs.Number.{number32}
use Rattle.dcsctp_chunk.specs.Sack.{Tree}
use Rattle.dcsctp_borrowed.proofs.FieldLists.{field_count, field_at_place}
use Rattle.dcsctp_borrowed.proofs.sack_ref.SackRef.duplicate_tsn.Goals as goal

pub returns : goal.returns
returns c =
    let s = c.self.inside in
    let bytes = s.lists.now in
    let place = 4 * s.numbers.gap_ack_block_count in
    let i = c.args.index in
    let duplicates = ap (λ (t : Tree). length t.duplicates) c.self.view_is in
    let here : i < s.numbers.duplicate_tsn_count = omega (
      arith,
      field_count number32 4 s.numbers.duplicate_tsn_count
          (drop place bytes),
      duplicates,
      c.requires,
    ) in
    let read = c.read_u32_be.ensures ∙ ap number32 (take_rest bytes (place + 4 * i)) in
    rw (← c.self.view_is) (field_at_place number32 4 s.numbers.duplicate_tsn_count (drop place bytes) i here
    ∙ ap Some (ap number32 (drop-drop (4 * i) place bytes) ∙ sym read))

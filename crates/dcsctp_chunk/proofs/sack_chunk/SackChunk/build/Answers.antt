use Rattle.std.proofs.{Common.{◌≡◌, ◌+◌, ◌*◌, refl, length, drop, ap, ◌∙◌, sym, ◌==◌, map-id, drop-drop}, lemmas.List.{take_rest}}
use Rattle.dcsctp_tlv.{specs.Fault.{Length}, proofs.Readings.{ok_passed}, specs.Fields.{fields}, specs.Number.{number32}}
use Rattle.dcsctp_chunk.specs.Sack.{block_at, numbers_at, size_of_value, duplicate_numbers}
use Rattle.dcsctp_chunk.proofs.sack_chunk.SackChunk.build.Goals as goal

pub returns-clause-meant : goal.returns-clause-meant
returns-clause-meant c =
    let value = c.args.value.now in
    let v = numbers_at value in
    let n = v.gap_ack_block_count in
    let m = v.duplicate_tsn_count in
    let just = ok_passed (length value == size_of_value v) _ Length c.requires in
    let bs = c.in_ok-fields_from_bytes.field-0.items in
    let ts = c.in_ok-fields_from_bytes-2.field-0.items in
    let blocks : fields block_at 4 n (drop 12 value) ≡ bs = sym (sym (map-id bs)
    ∙ (rw (c.read-numbers.ensures, take_rest value 12) at
    c.in_ok-fields_from_bytes.ensures.fields)) in
    let duplicates : fields number32 4 m (drop (12 + 4 * n) value) ≡ duplicate_numbers ts = sym
    ((rw (c.read-numbers.ensures, take_rest value 12, take_rest (drop 12 value) (4 * n)) at
    c.in_ok-fields_from_bytes-2.ensures.fields)
    ∙ ap (fields number32 4 m) (drop-drop (4 * n) 12 value)) in
    rw (just, c.read-numbers.ensures, blocks, duplicates) refl

use Rattle.std.proofs.{Common.{◌*◌, length, refl, ◌==◌, drop-drop}, lemmas.List.{take_rest}}
use Rattle.dcsctp_tlv.{specs.Fault.{Length}, proofs.Readings.{ok_passed}}
use Rattle.dcsctp_chunk.specs.Sack.{numbers_at, size_of_value}
use Rattle.dcsctp_borrowed.proofs.sack_ref.SackRef.of_checked.Goals as goal

pub returns : goal.returns
returns c =
    let value = c.args.value.now in
    let n = numbers_at value in
    let whole = ok_passed (length value == size_of_value n) _ Length c.requires in
    rw (
      whole,
      c.read.ensures,
      take_rest value 12,
      drop-drop (4 * n.gap_ack_block_count) 12 value,
    ) refl

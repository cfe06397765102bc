use Rattle.std.proofs.{Common.{length, refl, nat_lt}, lemmas.List.{take_rest}}
use Rattle.dcsctp_tlv.{specs.Fault.{Length}, proofs.Readings.{ok_not_refused}}
use Rattle.dcsctp_borrowed.proofs.StreamKeys.{key_unordered, key_stream}
use Rattle.dcsctp_borrowed.proofs.user_data.UserData.of_checked_idata.Goals as goal

pub returns-clause-read : goal.returns-clause-read
returns-clause-read c =
    let value = c.args.value.now in
    let last = c.ppid_and_fsn.ensures in
    let long = (ok_not_refused (nat_lt (length value) 16) _ Length c.requires).0 in
    rw (
      take_rest value 16,
      long,
      c.new.ensures,
      key_unordered c.is_set.result c.read-idata.result.stream_id,
      key_stream c.is_set.result c.read-idata.result.stream_id,
      last.ppid,
      last.fsn,
      c.read-idata.ensures,
      c.is_set-is_beginning.ensures,
      c.is_set.ensures,
      c.is_set-2.ensures,
      c.is_set-3.ensures,
    ) refl

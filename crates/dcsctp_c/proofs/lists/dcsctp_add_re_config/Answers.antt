use Rattle.std.proofs.Common.{◌≡◌, [], refl, if◌then◌else◌}
use Rattle.dcsctp_c.{specs.Writing.{has_streams}, proofs.Writings.{re_config_added, nothing_added}}
use Rattle.dcsctp_c.proofs.lists.dcsctp_add_re_config.Goals as goal
use Rattle.dcsctp_c.proofs.lists.dcsctp_add_re_config.Goals.{then-has_streams, else-has_streams}

pub returns : goal.returns
returns c =
    let words = c.if-has_streams.words.now in
    let streams = c.args.streams.now in
    let same : words ≡ (if has_streams c.args.re_config.now.typ then streams else []) =
    elim c.if-has_streams.branch [
      | then-has_streams w ↦ rw (← c.has_streams.ensures, w.if-has_streams.true, w.words-is) refl
      | else-has_streams w ↦ rw (← c.has_streams.ensures, w.if-has_streams.false, w.words-is) refl
    ] in
    re_config_added c.args.start c.args.re_config.now streams _ words _ _ _
    c.in-Some.ensures.bytes same c.add_to_list.ensures

pub returns-in_default : goal.returns-in_default
returns-in_default c =
    nothing_added c.args.start c.args.re_config.now c.args.streams.now _ c.is_last_chunk.result
    c.unwritable.result c.in_default.ensures.bytes c.is_last_chunk.ensures c.unwritable.ensures

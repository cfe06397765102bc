use Rattle.std.proofs.Common.{rules, ◌≡◌, ◌++◌, length, get_or, arith}
use Rattle.std.proofs.Output.{has_written_append, has_written_of_eq}
use Rattle.std.specs.List.{slice_range}
use Rattle.dcsctp_report.specs.JsonString.{escape}
use Rattle.dcsctp_report.proofs.Written.{written_plain, written_escaped, written_all}
use Rattle.dcsctp_report.proofs.json_text.write_escaped.Goals as goal
use Rattle.dcsctp_report.proofs.json_text.write_escaped.Goals.{then-is_escaped+in_ok-write_utf8+in_ok-write_escape, else-is_escaped}

pub loop-i-preserved : goal.loop-i-preserved
loop-i-preserved g c =
    elim c.if-is_escaped.branch [
      | then-is_escaped+in_ok-write_utf8+in_ok-write_escape w ↦ record {
        in_order = omega arith;
        so_far = λ plain.
            let now = c.loop-i.invariant.so_far plain in
            let text = w.write_utf8.ensures now.1.plain (search rules) in
            let rest = w.write_escape.ensures text.plain (search rules) in (
              (now.0 ++ slice_range c.args.bytes.now c.loop-i.start c.loop-i.i)
                  ++ escape (get_or c.args.bytes.now c.loop-i.i 0),
              rw w.f-is (has_written_append _ _ _ _ _ _
                  (has_written_append _ _ _ _ _ _ now.1 text) rest),
              rw w.start-is (written_escaped _ now.0 c.loop-i.start _ (omega arith)
                  (search rules) now.2),
            );
      }
      | else-is_escaped w ↦ record {
        in_order = omega arith;
        so_far = λ plain.
            let now = c.loop-i.invariant.so_far plain in (
              now.0,
              rw w.f-is now.1,
              rw w.start-is (written_plain _ now.0 _ _ c.loop-i.invariant.in_order (omega arith)
                  (search rules) now.2),
            );
      }
    ]

pub returns : goal.returns
returns g c = λ plain ok.
    let now = c.loop-i.invariant.so_far plain in
    let at_end : c.loop-i.i ≡ length c.args.bytes.now = omega arith in
    let last = c.write_utf8-2.ensures now.1.plain ok in
    has_written_of_eq _ _ _ _ _
    (written_all _ now.0 c.loop-i.start (rw at_end at now.2))
    (has_written_append _ _ _ _ _ _ now.1 last)

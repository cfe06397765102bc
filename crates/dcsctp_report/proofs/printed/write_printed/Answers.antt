use Rattle.std.proofs.Common.{rules, ◌++◌, take, drop, ap, ◌∙◌, append_assoc}
use Rattle.std.proofs.Output.{has_written_append}
use Rattle.std.proofs.lemmas.List.{take_rest}
use Rattle.dcsctp_report.specs.Printed.{printed}
use Rattle.dcsctp_report.proofs.printed.write_printed.Goals as goal

pub loop-rest-preserved : goal.loop-rest-preserved
loop-rest-preserved g c = record {
  size = c.fill_block-taken.ensures.size;
  so_far = λ plain.
      let now = c.loop-rest.invariant.so_far plain in
      let text = c.write_text.ensures now.1.plain (search rules) in
      let taken = c.fill_block-taken.result.0 in
      let rest = c.loop-rest.rest.now in
      let front = take c.fill_block-taken.result.1 c.fill_block-taken.new.block in (
        now.0 ++ front,
        has_written_append _ _ _ _ _ _ now.1 text,
        ap (λ l. (now.0 ++ front) ++ printed c.args.is_word l) (take_rest rest taken)
            ∙ append_assoc now.0 front (printed c.args.is_word (drop taken rest))
            ∙ ap (λ l. now.0 ++ l) c.fill_block-taken.ensures.text
            ∙ now.2,
      );
}
